use Rattle.std.proofs.Common.{◌∙◌, ℕ, ap, sym, take, pos, ◌≤ℤ◌, ◌<ℤ◌, arith}
use Rattle.std.specs.Option.{option_copied}
use Rattle.std.specs.List.{list_any}
use Rattle.std.specs.Ordering.{int_eq}
use Rattle.std.proofs.lemmas.Int.{ints, to_z-of_z}
use Rattle.flat_truth.proofs.Hits.{no_truth, negative_truth, among_first}
use Rattle.flat_truth.proofs.recall.hit.Goals as goal

pub returns-in_default : goal.returns-in_default
returns-in_default c = sym (no_truth c.args.k c.args.found.now c.args.truth.now (sym c.first.ensures.value ∙ ap option_copied c.in_default.is))

pub returns-then-nearest-lt0 : goal.returns-then-nearest-lt0
returns-then-nearest-lt0 c =
    let low : c.in-Some.nearest.now <ℤ pos 0 = first_of (assumption c.if-nearest-lt0.true, omega (arith, ints, c.if-nearest-lt0.true), search (arith, ints, to_z-of_z, c.if-nearest-lt0.true)) in
    sym (negative_truth c.args.k c.args.found.now c.args.truth.now c.in-Some.nearest.now (sym c.first.ensures.value ∙ ap option_copied c.in-Some.is) low)

pub returns : goal.returns
returns c =
    let high : pos 0 ≤ℤ c.in-Some.nearest.now = first_of (assumption c.if-nearest-lt0.false, omega (arith, ints, c.if-nearest-lt0.false), search (arith, ints, to_z-of_z, c.if-nearest-lt0.false)) in
    c.contains.ensures.value ∙ ap (λ (n : ℕ). list_any (λ y. int_eq y c.in-Some.nearest.now) (take n c.args.found.now)) c.min-near.ensures
    ∙ sym (among_first c.args.k c.args.found.now c.args.truth.now c.in-Some.nearest.now (sym c.first.ensures.value ∙ ap option_copied c.in-Some.is) high)
