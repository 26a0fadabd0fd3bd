-- What follows from a range that holds every id.
use Rattle.std.proofs.Common.{◌≡◌, ◌≤◌, ◌∙◌, ℕ, Bool, true, false, ◌||◌, List, [], ◌∷◌, map, refl, ap, arith}
use Rattle.std.specs.List.{list_any}
use Rattle.std.proofs.lemmas.Grind.{common_steps}
use Rattle.book_model.specs.Rows.{in_ranges}
use Rattle.id_filter.specs.Ranges.{has_whole, is_whole}
use Rattle.id_filter.specs.Allowed.{single_ranges}

pub list_any_map : {X Y : Type 0} (p : X → Bool) (f : Y → X) (ys : List Y) → list_any p (map f ys) ≡ list_any (λ y. p (f y)) ys
list_any_map p f [] = refl
list_any_map p f (y ∷ ys) = ap (λ b. p (f y) || b) (list_any_map p f ys)

-- such a range has each id
pub in_whole : (range : ℕ × ℕ) (id : ℕ) → is_whole range ≡ true → id ≤ 2147483647 → in_ranges (range ∷ []) id ≡ true
in_whole range id whole small = grind (arith, common_steps)

pub whole_passes : (ranges : List (ℕ × ℕ)) (id : ℕ) → has_whole ranges ≡ true → id ≤ 2147483647 → in_ranges ranges id ≡ true
whole_passes [] id whole small = whole
whole_passes (range ∷ ranges) id whole small = grind (arith, common_steps, in_whole range id, whole_passes ranges id)

-- the range of one id is not every id
one_not_whole : (id : ℕ) → is_whole (id, id) ≡ false
one_not_whole id = grind (arith, common_steps)

pub none_whole : (ids : List ℕ) → has_whole (single_ranges ids) ≡ false
none_whole [] = refl
none_whole (id ∷ ids) = ap (λ b. b || has_whole (single_ranges ids)) (one_not_whole id) ∙ none_whole ids
