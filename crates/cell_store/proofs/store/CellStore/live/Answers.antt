use Rattle.cell_store.proofs.Words.{ap, sym, ◌∙◌, length, Store, live_rows}
use Rattle.cell_store.proofs.Keeping.{live_count_is}
use Rattle.cell_store.proofs.store.CellStore.live.Goals as goal

pub returns-clause-live : goal.returns-clause-live
returns-clause-live g c = sym (live_count_is c.self.invariant.0.kept) ∙ ap (λ (s : Store). length (live_rows s)) c.self.view_is
