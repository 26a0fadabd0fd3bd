use Rattle.cell_store.proofs.Words.{subst, Store, IsNextCell}
use Rattle.cell_store.proofs.Counts.{next_is}
use Rattle.cell_store.proofs.store.CellStore.next_cell.Goals as goal

pub returns : goal.returns
returns g c = subst (λ (s : Store). IsNextCell s c.args.from c.next.result) c.self.view_is (next_is c.self.invariant.0.kept c.args.from c.next.result c.next.ensures)
