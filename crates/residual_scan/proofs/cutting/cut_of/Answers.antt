use Rattle.std.proofs.Common.{◌≡◌, ℕ, ◌+◌, ◌≤◌, ◌++◌, length, refl, sym, ap, ap₂, ◌∙◌, inl, inr, arith}
use Rattle.std.proofs.lemmas.Bool.{cases_lt}
use Rattle.book_model.specs.Bound.{base_sum}
use Rattle.half_tables.proofs.Sums.{base_sum-append}
use Rattle.residual_scan.proofs.Cuts.{length-least, early_cut, late_cut}
use Rattle.residual_scan.proofs.cutting.cut_of.Goals as goal

pub returns-in-None-clause-cut : goal.returns-in-None-clause-cut
returns-in-None-clause-cut g c before held =
    early_cut (c.args.low.now.tables ++ c.args.high.now.tables) c.args.best.now.k before c.args.best.now.pairs held (c.in-None.ensures.none.0 refl)

pub returns-then-worst-base-clause-far : goal.returns-then-worst-base-clause-far
returns-then-worst-base-clause-far g c before held =
    let many : c.args.best.now.k ≤ length c.args.best.now.pairs = elim (cases_lt (length c.args.best.now.pairs) c.args.best.now.k) [
      | inl few ↦ absurd (cc (c.in-Some.ensures.none.1 few))
      | inr le ↦ le
    ] in
    record {
      late = omega (arith, many, ap length held, length-least c.args.best.now.k before);
      above = omega (arith, c.in-Some.ensures.of_all before held, c.if-worst-base.true, c.base_sum.ensures.sum, c.base_sum-2.ensures.sum, base_sum-append c.args.low.now.tables c.args.high.now.tables);
    }

pub returns-clause-cut : goal.returns-clause-cut
returns-clause-cut g c before held =
    let many : c.args.best.now.k ≤ length c.args.best.now.pairs = elim (cases_lt (length c.args.best.now.pairs) c.args.best.now.k) [
      | inl few ↦ absurd (cc (c.in-Some.ensures.none.1 few))
      | inr le ↦ le
    ] in
    let base : c.base_sum.result + c.base_sum-2.result ≡ base_sum (c.args.low.now.tables ++ c.args.high.now.tables) =
    ap₂ (λ (a b : ℕ). a + b) c.base_sum.ensures.sum c.base_sum-2.ensures.sum ∙ sym (base_sum-append c.args.low.now.tables c.args.high.now.tables) in
    late_cut (c.args.low.now.tables ++ c.args.high.now.tables) c.args.best.now.k before c.args.best.now.pairs c.in-Some.worst.distance (c.base_sum.result + c.base_sum-2.result) held many
    (c.in-Some.ensures.of_all before held) base c.if-worst-base.false
