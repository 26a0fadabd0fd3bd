-- What the write of a table changes.
use Rattle.std.proofs.Common.{◌≡◌, ℕ, ◌+◌, ◌-◌, ◌<◌, ◌≤◌, List, ◌++◌, length, map, take, drop, sym, ap, ap₂, ◌∙◌, arith, length-append, length-drop}
use Rattle.std.proofs.lemmas.List.{drop-take, same_lists, length-take-le}
use Rattle.std.proofs.lemmas.List.FromFn.{length-map-range_with_len, get_or-map-range_with_len}
use Rattle.std.proofs.lemmas.Slice.{take-put_mid_below, between-put_mid}
use borrow.Rule.Slice.PartMut.{put_mid}
use Rattle.book_model.specs.Sums.{numbers_below}
use Rattle.adc_tables.specs.Full.{table_size, table_start, table_in}

-- two functions that agree below n make the same list
pub maps_agree : {X : Type 0} (f g : ℕ → X) (n : ℕ) → ((i : ℕ) → i < n → f i ≡ g i) → map f (numbers_below n) ≡ map g (numbers_below n)
maps_agree f g n h =
    let long = length-map-range_with_len f 0 n in
    same_lists (map f (numbers_below n)) (map g (numbers_below n)) (long ∙ sym (length-map-range_with_len g 0 n)) (λ k d lt.
    let there : k < n = omega (arith, long) in
    get_or-map-range_with_len f 0 n k k d there (omega arith) ∙ h k there ∙ sym (get_or-map-range_with_len g 0 n k k d there (omega arith)))

pub length-put : (a k : ℕ) (xs ys : List ℕ) → a + k ≤ length xs → length ys ≡ k → length (put_mid a k xs ys) ≡ length xs
length-put a k xs ys fits size =
    omega (arith, length-append (take a xs) (ys ++ drop k (drop a xs)), length-append ys (drop k (drop a xs)), length-drop k (drop a xs), length-drop a xs, length-take-le a xs (omega arith))

module _ (widths : List ℕ) where
  -- a table before the one that is written stays
  pub table_in-before : (a k : ℕ) (xs ys : List ℕ) (i : ℕ) → table_start widths i + table_size widths i ≤ a → a ≤ length xs → table_in widths (put_mid a k xs ys) i ≡ table_in widths xs i
  table_in-before a k xs ys i before within =
      let s = table_start widths i in
      let n = table_size widths i in
      sym (drop-take s n (put_mid a k xs ys)) ∙ ap (drop s) (take-put_mid_below a k xs ys (s + n) before within) ∙ drop-take s n xs

  -- the one that is written is what was written
  pub table_in-written : (a e : ℕ) (xs ys : List ℕ) (j : ℕ) → a ≡ table_start widths j → e - a ≡ table_size widths j → a ≤ length xs → length ys ≡ e - a → table_in widths (put_mid a (e - a) xs ys) j ≡ ys
  table_in-written a e xs ys j start size within long =
      ap₂ (λ s n. take n (drop s (put_mid a (e - a) xs ys))) (sym start) (sym size) ∙ between-put_mid a (e - a) xs ys e within long
