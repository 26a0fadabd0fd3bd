use Rattle.cell_store.proofs.Words.{subst, ℕ, AllByRecursion, IsCode, rows_for, IsStore}
use Rattle.cell_store.proofs.StoreFacts.{IsStore-kept}
use Rattle.cell_store.proofs.store.CellStore.stamp.Goals as goal

pub returns-clause-is : goal.returns-clause-is
returns-clause-is g c =
    subst (IsStore g.S.Shape.widths) c.self.view_is
    (IsStore-kept c.self.invariant.0.kept g.S.Shape.widths
    (subst (λ (n : ℕ). (e : ℕ) → AllByRecursion (λ k. IsCode g.S.Shape.widths n k.row.code) (rows_for c.self.inside.lists e)) c.self.invariant.0.kept.g_is c.codes_fit.ensures)
    c.self.invariant.4)
