-- What each shape obeys.
use Rattle.std.specs.Prelude.{◌≡◌, ℕ, ◌-◌, ◌≤◌, List, [], ◌∷◌, ◌++◌, length, sum, replicate, Some, slice_get, refl}
use Rattle.std.specs.List.{AllByRecursion, Contains}
use Rattle.std.proofs.Common.{lit≤, lit<}
use Rattle.book_model.specs.Book.{shapes}

abbrev pub IsWidth : ℕ → Type 0
IsWidth width = Contains (4 ∷ 5 ∷ 6 ∷ 8 ∷ []) width

-- the shape of this number has as many fields, of these widths, and its table of four ends in zeros
pub record IsShape (number fields : ℕ) (table widths : List ℕ) : Type 0 where
  pub count : (2 ≤ fields) × (fields ≤ 4)
  pub fields_are : length widths ≡ fields
  pub table_is : table ≡ widths ++ replicate (4 - fields) 0
  pub each : AllByRecursion IsWidth widths
  pub total : sum widths ≤ 16
  pub numbered : slice_get shapes number ≡ Some widths

width4 : IsWidth 4
width4 = (0, lit< tt, refl)

width5 : IsWidth 5
width5 = (1, lit< tt, refl)

width6 : IsWidth 6
width6 = (2, lit< tt, refl)

width8 : IsWidth 8
width8 = (3, lit< tt, refl)

pub shape_4444 : IsShape 0 4 (4 ∷ 4 ∷ 4 ∷ 4 ∷ []) (4 ∷ 4 ∷ 4 ∷ 4 ∷ [])
shape_4444 = record { count = (lit≤ tt, lit≤ tt); fields_are = refl; table_is = refl; each = (width4, (width4, (width4, (width4, tt)))); total = lit≤ tt; numbered = refl }

pub shape_555 : IsShape 1 3 (5 ∷ 5 ∷ 5 ∷ 0 ∷ []) (5 ∷ 5 ∷ 5 ∷ [])
shape_555 = record { count = (lit≤ tt, lit≤ tt); fields_are = refl; table_is = refl; each = (width5, (width5, (width5, tt))); total = lit≤ tt; numbered = refl }

pub shape_664 : IsShape 2 3 (6 ∷ 6 ∷ 4 ∷ 0 ∷ []) (6 ∷ 6 ∷ 4 ∷ [])
shape_664 = record { count = (lit≤ tt, lit≤ tt); fields_are = refl; table_is = refl; each = (width6, (width6, (width4, tt))); total = lit≤ tt; numbered = refl }

pub shape_88 : IsShape 3 2 (8 ∷ 8 ∷ 0 ∷ 0 ∷ []) (8 ∷ 8 ∷ [])
shape_88 = record { count = (lit≤ tt, lit≤ tt); fields_are = refl; table_is = refl; each = (width8, (width8, tt)); total = lit≤ tt; numbered = refl }
