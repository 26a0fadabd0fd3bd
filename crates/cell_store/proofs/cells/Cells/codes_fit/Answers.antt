use Rattle.cell_store.proofs.Entries.{shown_at, shown_g, fit_all}
use Rattle.cell_store.proofs.cells.Cells.codes_fit.Goals as goal

pub returns : goal.returns
returns g c = λ e. rw (shown_at c.self.invariant c.self.view_is e, shown_g c.self.invariant c.self.view_is) (fit_all c.self.invariant e)
