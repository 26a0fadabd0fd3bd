-- Whether the nearest neighbour was found.
use Rattle.std.proofs.Common.{◌≡◌, ℕ, false, List, [], ◌∷◌, length, take, Some, None, ℤ, pos, negsuc, ◌≤ℤ◌, ◌<ℤ◌, refl, sym, ap, ◌∙◌, subst, arith}
use Rattle.std.specs.Prelude.{slice_get, min}
use Rattle.std.specs.List.{list_any}
use Rattle.std.specs.Ordering.{int_eq}
use Rattle.std.proofs.lemmas.Int.{ints}
use Rattle.std.proofs.lemmas.List.{take_min}
use Rattle.flat_truth.specs.Flat.{is_hit}

pub no_truth : (k : ℕ) (found truth : List ℤ) → slice_get truth 0 ≡ None → is_hit k found truth ≡ false
unfolding is_hit
no_truth k found [] none = refl
no_truth k found (t ∷ truth) none = cc

pub negative_truth : (k : ℕ) (found truth : List ℤ) (nearest : ℤ) → slice_get truth 0 ≡ Some nearest → nearest <ℤ pos 0 → is_hit k found truth ≡ false
unfolding is_hit
negative_truth k found [] nearest first low = refl
negative_truth k found (pos n ∷ truth) nearest first low =
    let e : nearest ≡ pos n = cc in
    let never : pos n <ℤ pos 0 = subst (λ (z : ℤ). z <ℤ pos 0) e low in
    absurd (omega (arith, ints, never))
negative_truth k found (negsuc n ∷ truth) nearest first low = refl

pub among_first : (k : ℕ) (found truth : List ℤ) (nearest : ℤ) → slice_get truth 0 ≡ Some nearest → pos 0 ≤ℤ nearest
    → is_hit k found truth ≡ list_any (λ y. int_eq y nearest) (take (min k (length found)) found)
unfolding is_hit
among_first k found [] nearest first low = cc
among_first k found (pos n ∷ truth) nearest first low =
    let e : pos n ≡ nearest = cc in
    (λ i. list_any (λ y. int_eq y (e i)) (take k found)) ∙ ap (λ (ids : List ℤ). list_any (λ y. int_eq y nearest) ids) (sym (take_min k found))
among_first k found (negsuc n ∷ truth) nearest first low =
    let e : nearest ≡ negsuc n = cc in
    let never : pos 0 ≤ℤ negsuc n = subst (λ (z : ℤ). pos 0 ≤ℤ z) e low in
    absurd (omega (arith, ints, never))
