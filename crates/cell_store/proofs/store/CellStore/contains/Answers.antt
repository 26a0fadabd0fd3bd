use Rattle.cell_store.proofs.Words.{ap, sym, ◌∙◌, is_some, Store, live_rows, has_id}
use Rattle.std.proofs.lemmas.Bool.{lt-leb}
use Rattle.cell_store.proofs.Keeping.{has_id_is}
use Rattle.cell_store.proofs.Indexed.{there_is, large_none}
use Rattle.cell_store.proofs.store.CellStore.contains.Goals as goal

pub returns-then-id-le2147483647 : goal.returns-then-id-le2147483647
returns-then-id-le2147483647 g c =
    c.is_some.ensures ∙ ap is_some c.get.ensures ∙ there_is c.self.invariant.0 c.args.id ∙ sym (has_id_is c.self.invariant.0.kept c.args.id) ∙ ap (λ (s : Store). has_id (live_rows s) c.args.id) c.self.view_is

pub returns-else-id-le2147483647 : goal.returns-else-id-le2147483647
returns-else-id-le2147483647 g c =
    lt-leb c.args.id 2147483647 c.if-id-le2147483647.false ∙ ap is_some (sym (large_none c.self.invariant.0 c.args.id c.if-id-le2147483647.false))
    ∙ sym (has_id_is c.self.invariant.0.kept c.args.id) ∙ ap (λ (s : Store). has_id (live_rows s) c.args.id) c.self.view_is
