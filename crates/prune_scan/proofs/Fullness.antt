-- Which rows are full, one after another.
use Rattle.std.proofs.Common.{◌≡◌, ℕ, ◌+◌, ◌<◌, ◌≤◌, Bool, true, false, cond, ◌||◌, List, [], ◌∷◌, ◌++◌, length, take, refl, ap, ◌∙◌, append_assoc, arith, nat_lt}
use Rattle.std.proofs.lemmas.Bool.{le-ltb, le-leb, lt-leb}
use Rattle.std.proofs.lemmas.List.{append-nil}
use Rattle.book_model.specs.Book.{Book}
use Rattle.book_model.specs.Rows.{Row}
use Rattle.book_model.specs.Order.{kth_least}
use Rattle.book_model.specs.Bound.{tables, bound, threshold}
use Rattle.book_model.specs.Answer.{pairs_of, is_full, full_after}

or_true : (a : Bool) → (a || true) ≡ true
or_true true = refl
or_true false = refl

module _ (book : Book) (v : List ℕ) (k : ℕ) where
  pub full_kept : (seen : List Row) (row : Row)
      → bound (tables book v) (kth_least k (pairs_of book v (take k seen))) row.code ≤ threshold (tables book v) (kth_least k (pairs_of book v (take k seen))) (kth_least k (pairs_of book v seen))
      → is_full book v k seen row ≡ true
  unfolding is_full
  full_kept seen row le = ap (λ b. nat_lt (length seen) k || b) (le-leb _ _ le) ∙ or_true (nat_lt (length seen) k)

  pub full_far : (seen : List Row) (row : Row) → k ≤ length seen
      → threshold (tables book v) (kth_least k (pairs_of book v (take k seen))) (kth_least k (pairs_of book v seen)) < bound (tables book v) (kth_least k (pairs_of book v (take k seen))) row.code
      → is_full book v k seen row ≡ false
  unfolding is_full
  full_far seen row many lt = (λ t. le-ltb (length seen) k many t || lt-leb _ _ lt t)

  pub full_after-one : (seen : List Row) (row : Row) (b : Bool) → is_full book v k seen row ≡ b → full_after book v k seen (row ∷ []) ≡ cond b 1 0
  full_after-one seen row b is = omega (arith, ap {B = ℕ} (λ c. cond c 1 0) is)

  pub full_after-append : (seen rows more : List Row) → full_after book v k seen (rows ++ more) ≡ full_after book v k seen rows + full_after book v k (seen ++ rows) more
  full_after-append seen [] more = omega (arith, ap (λ s. full_after book v k s more) (append-nil seen))
  full_after-append seen (row ∷ rows) more =
      let same : (seen ++ row ∷ []) ++ rows ≡ seen ++ row ∷ rows = append_assoc seen (row ∷ []) rows in
      omega (arith, full_after-append (seen ++ row ∷ []) rows more, ap (λ s. full_after book v k s more) same)
