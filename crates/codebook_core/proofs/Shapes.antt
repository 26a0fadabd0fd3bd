-- The widths of a shape and its number, as its laws and a book's file give them.
use Rattle.std.proofs.Common.{◌≡◌, ℕ, zero, suc, ◌<◌, ◌≤◌, List, [], ◌∷◌, take, sym, ap, refl, subst, ◌∙◌, arith, lit≤, lit<, Some, slice_get, slice_index_or, take_at}
use Rattle.std.specs.List.{AllByRecursion, Contains}
use Rattle.std.proofs.lemmas.List.Elements.{All-contains, All-from_recursion}
use Rattle.book_model.specs.Book.{shapes}
use Rattle.shape_core.specs.Laws.{IsShape, IsWidth}
use Rattle.codebook_core.specs.Front.{AreWidths}
use Rattle.codebook_core.specs.Spelling.{shape_number}

small_width : (width : ℕ) → IsWidth width → width ≤ 8
small_width width is = All-contains (λ w. w ≤ 8) (4 ∷ 5 ∷ 6 ∷ 8 ∷ []) width (All-from_recursion (λ w. w ≤ 8) (4 ∷ 5 ∷ 6 ∷ 8 ∷ []) (lit≤ tt, (lit≤ tt, (lit≤ tt, (lit≤ tt, tt))))) is

small_each : (widths : List ℕ) → AllByRecursion IsWidth widths → AllByRecursion (λ w. w ≤ 8) widths
small_each [] each = tt
small_each (w ∷ ws) each = (small_width w each.0, small_each ws each.1)

found_at : (list : List (List ℕ)) (n : ℕ) (x : List ℕ) → slice_get list n ≡ Some x → Contains list x
found_at [] n x e = absurd cc
found_at (y ∷ ys) zero x e = (0, omega arith, cc)
found_at (y ∷ ys) (suc n) x e = let rest = found_at ys n x e in (suc rest.0, omega (arith, rest.1), rest.2)

pub shape_table : (number fields : ℕ) (table widths : List ℕ) → IsShape number fields table widths → take fields table ≡ widths
shape_table number fields table widths is = ap (λ (t : List ℕ). take fields t) is.table_is ∙ take_at widths _ fields is.fields_are

pub shape_widths : (number fields : ℕ) (table widths : List ℕ) → IsShape number fields table widths → AreWidths widths
shape_widths number fields table widths is = record {
  some = (omega (arith, is.count, is.fields_are), omega (arith, is.count, is.fields_are));
  each = small_each widths is.each;
  listed = found_at shapes number widths is.numbered;
}

-- ---- the four shapes by their numbers

-- widths of this number
pub record AreNumbered (n : ℕ) (widths : List ℕ) : Type 0 where
  pub number : shape_number widths ≡ n
  pub are : AreWidths widths

pub by_number : (n : ℕ) → n ≤ 3 → AreNumbered n (slice_index_or shapes n [])
by_number zero le = record { number = refl; are = record { some = (lit≤ tt, lit≤ tt); each = (lit≤ tt, (lit≤ tt, (lit≤ tt, (lit≤ tt, tt)))); listed = (0, lit< tt, refl) } }
by_number (suc zero) le = record { number = refl; are = record { some = (lit≤ tt, lit≤ tt); each = (lit≤ tt, (lit≤ tt, (lit≤ tt, tt))); listed = (1, lit< tt, refl) } }
by_number (suc (suc zero)) le = record { number = refl; are = record { some = (lit≤ tt, lit≤ tt); each = (lit≤ tt, (lit≤ tt, (lit≤ tt, tt))); listed = (2, lit< tt, refl) } }
by_number (suc (suc (suc zero))) le = record { number = refl; are = record { some = (lit≤ tt, lit≤ tt); each = (lit≤ tt, (lit≤ tt, tt)); listed = (3, lit< tt, refl) } }
by_number (suc (suc (suc (suc n)))) le = absurd (omega arith)

there_by : (n : ℕ) (widths : List ℕ) → n < 4 → slice_index_or shapes n widths ≡ widths → slice_index_or shapes n [] ≡ widths
there_by zero widths lt e = e
there_by (suc zero) widths lt e = e
there_by (suc (suc zero)) widths lt e = e
there_by (suc (suc (suc zero))) widths lt e = e
there_by (suc (suc (suc (suc n)))) widths lt e = absurd (omega arith)

-- widths of a shape are those of their number
pub record HaveNumber (widths : List ℕ) : Type 0 where
  pub few : shape_number widths ≤ 3
  pub there : slice_index_or shapes (shape_number widths) [] ≡ widths
  pub are : AreWidths widths

pub numbered : (widths : List ℕ) → Contains shapes widths → HaveNumber widths
numbered widths is =
    let there = there_by is.0 widths is.1 is.2 in
    let found = by_number is.0 (omega (arith, is.1)) in
    let number : shape_number widths ≡ is.0 = ap shape_number (sym there) ∙ found.number in
    record { few = omega (arith, number, is.1); there = rw number there; are = subst AreWidths there found.are }
