use Rattle.cell_store.proofs.Words.{◌≡◌, ◌*◌, ◌+◌, ◌≤◌, ap, sym, ◌∙◌, subst, length, arith, Store, kept_in, held_in, rows_for}
use Rattle.cell_store.proofs.Counts.{cell_is, few_here, few_kept_is}
use Rattle.cell_store.proofs.store.CellStore.kept.Goals as goal

pub overflow_cast-result : goal.overflow_cast-result
overflow_cast-result g c = omega (arith, c.kept_count.ensures, few_here c.self.invariant.0.kept c.args.cell)

pub returns-clause-kept : goal.returns-clause-kept
returns-clause-kept g c =
    let shown : kept_in c.args.cell c.args.self.now.kept ≡ rows_for c.self.inside.lists c.args.cell = ap (λ (s : Store). kept_in c.args.cell s.kept) (sym c.self.view_is) ∙ cell_is c.self.invariant.0.kept c.args.cell in
    c.kept_count.ensures ∙ ap length (sym shown)

pub returns-clause-few : goal.returns-clause-few
returns-clause-few g c =
    subst (λ (s : Store). c.kept_count.result ≤ 2 * held_in c.args.cell s + 32) c.self.view_is (omega (arith, ap length (cell_is c.self.invariant.0.kept c.args.cell), c.kept_count.ensures, few_kept_is c.self.invariant.0.kept c.args.cell))
