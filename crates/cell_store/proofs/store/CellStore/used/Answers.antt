use Rattle.cell_store.proofs.Words.{ap, ◌∙◌, used_count}
use Rattle.cell_store.proofs.Used.{used_is}
use Rattle.cell_store.proofs.store.CellStore.used.Goals as goal

pub returns : goal.returns
returns g c = c.self.invariant.3 ∙ used_is c.self.invariant.0.kept ∙ ap used_count c.self.view_is
