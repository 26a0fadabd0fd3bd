-- A book whose words are cut from components that stand one after another.
use Rattle.std.proofs.Common.{◌≡◌, ℕ, zero, suc, ◌+◌, ◌-◌, ◌*◌, ◌^◌, ◌%◌, ◌<◌, ◌≤◌, List, [], ◌∷◌, ◌++◌, length, get_or, take, drop, refl, sym, ap, ◌∙◌, append_assoc, arith, sum, ◌⊎◌, length-drop, length-take-le, take-append-drop}
use Rattle.std.specs.List.{flat_map, AllByRecursion, Contains}
use Rattle.std.specs.Int.{w8, w16, to_le_bytes}
use Rattle.std.proofs.Math.Nat.{suc-mul}
use Rattle.std.proofs.lemmas.List.Concat.{flat_map-cons}
use Rattle.std.proofs.lemmas.Grind.{flat_map-append}
use Rattle.book_model.specs.Book.{Book, IsGood, AreWords, component_limit, shapes, sub_count}
use Rattle.book_model.proofs.AllLemmas.{all_take, all_drop}
use Rattle.codebook_core.specs.Starts.{sub_sizes}
use Rattle.codebook_core.specs.View.{rows_of, subs_of}
use Rattle.codebook_core.specs.Spelling.{spelled, words_spelled, magic_of, scale_text, shape_number, component_width, book_bytes}
use Rattle.codebook_core.proofs.Rows.{sum_cons}
use Rattle.codebook_core.proofs.BookFields.{AreSubs, subs_joined, sub_at}
use Rattle.codebook_core.proofs.Accessors.{rows_count}
use Rattle.codebook_core.proofs.Written.{rows_spelled, subs_spelled}

rows_sizes : (n size : ℕ) (xs : List ℕ) → n * size ≤ length xs → AllByRecursion (λ word. length word ≡ size) (rows_of n size xs)
rows_sizes zero size xs le = tt
rows_sizes (suc n) size xs le =
    let more : suc n * size ≡ size + n * size = omega (arith, suc-mul n size) in
    (length-take-le size xs (omega arith), rows_sizes n size (drop size xs) (omega (arith, length-drop size xs)))

module _ (limit : ℕ) where
  rows_below : (n size : ℕ) (xs : List ℕ) → AllByRecursion (λ c. c < limit) xs → AllByRecursion (AllByRecursion (λ c. c < limit)) (rows_of n size xs)
  rows_below zero size xs all = tt
  rows_below (suc n) size xs all = (all_take (λ c. c < limit) size xs all, rows_below n size (drop size xs) (all_drop (λ c. c < limit) size xs all))

  words_cut : (n size : ℕ) (xs : List ℕ) → n * size ≤ length xs → AllByRecursion (λ c. c < limit) xs → AreWords limit n size (rows_of n size xs)
  words_cut n size xs le all = record { count = rows_count n size xs; sizes = rows_sizes n size xs le; components = rows_below n size xs all }

  subs_cut : (widths : List ℕ) (j : ℕ) (lengths xs : List ℕ) → sum (sub_sizes widths j lengths) ≤ length xs → AllByRecursion (λ c. c < limit) xs → AreSubs limit widths j lengths (subs_of widths j lengths xs)
  subs_cut widths j [] xs le all = record { count = refl; each = λ k lt. absurd (omega arith) }
  subs_cut widths j (n ∷ ns) xs le all =
      let count = 2 ^ get_or widths (j % length widths) 0 in
      let sizes = sub_sizes widths (j + 1) ns in
      let sums = sum_cons (count * n) sizes in
      subs_joined limit widths j n ns (rows_of count n xs) (subs_of widths (j + 1) ns (drop (count * n) xs)) (words_cut count n xs (omega (arith, sums)) all)
      (subs_cut widths (j + 1) ns (drop (count * n) xs) (omega (arith, sums, length-drop (count * n) xs)) (all_drop (λ c. c < limit) (count * n) xs all))

-- the book of these numbers, whose words are the components in their order
unfoldable pub with_words : Book → List ℕ → Book
with_words book xs =
    let behind0 = drop (book.k0 * book.h) xs in
    record book { coarse0 = rows_of book.k0 book.h xs; coarse1 = rows_of book.k1 (book.d - book.h) behind0; subs = subs_of book.widths 0 book.lengths (drop (book.k1 * (book.d - book.h)) behind0) }

pub with_words_d : (book : Book) (xs : List ℕ) → (with_words book xs).d ≡ book.d
unfolding with_words
with_words_d book xs = refl

-- the spelling of the numbers
abbrev pub numbers_text : Book → List ℕ
numbers_text book = magic_of book.version ++ spelled w16 (book.d ∷ book.h ∷ book.k0 ∷ book.k1 ∷ []) ++ spelled w8 (shape_number book.widths ∷ book.g ∷ []) ++ scale_text book.version book.scale ++ spelled w16 book.lengths

-- the numbers are those of a good book
pub record AreGoodNumbers (book : Book) : Type 0 where
  pub version : ((book.version ≡ 1) × (book.scale ≡ 0)) ⊎ ((book.version ≡ 2) × (book.scale ≤ 8))
  pub d : (2 ≤ book.d) × (book.d ≤ 1024)
  pub h : (1 ≤ book.h) × (book.h < book.d)
  pub k0 : (1 ≤ book.k0) × (book.k0 ≤ 1024)
  pub k1 : (1 ≤ book.k1) × (book.k1 ≤ 1024)
  pub shape : Contains shapes book.widths
  pub g : (1 ≤ book.g) × (book.g ≤ 32)
  pub length_count : length book.lengths ≡ sub_count book
  pub length_each : AllByRecursion (λ n. 1 ≤ n) book.lengths
  pub length_sum : sum book.lengths ≡ book.d

module _ (book : Book) (xs : List ℕ) (long : length xs ≡ book.k0 * book.h + (book.k1 * (book.d - book.h) + sum (sub_sizes book.widths 0 book.lengths))) where
  behind0 : List ℕ
  behind0 = drop (book.k0 * book.h) xs

  behind1 : List ℕ
  behind1 = drop (book.k1 * (book.d - book.h)) behind0

  long0 : length behind0 ≡ book.k1 * (book.d - book.h) + sum (sub_sizes book.widths 0 book.lengths)
  unfolding behind0
  long0 = omega (arith, length-drop (book.k0 * book.h) xs)

  long1 : length behind1 ≡ sum (sub_sizes book.widths 0 book.lengths)
  unfolding behind1
  long1 = omega (arith, long0, length-drop (book.k1 * (book.d - book.h)) behind0)

  -- the numbers, and the components in their order
  pub cut_spelled : book_bytes (with_words book xs) ≡ numbers_text book ++ spelled (component_width book.version) xs
  unfolding book_bytes with_words behind0 behind1
  cut_spelled =
      let w = component_width book.version in
      let joined : (n : ℕ) (ys : List ℕ) → spelled w (take n ys) ++ spelled w (drop n ys) ≡ spelled w ys = λ n ys. sym (flat_map-append (to_le_bytes w) (take n ys) (drop n ys)) ∙ ap (spelled w) (take-append-drop n ys) in
      let words : words_spelled w (rows_of book.k0 book.h xs) ++ (words_spelled w (rows_of book.k1 (book.d - book.h) behind0) ++ flat_map (words_spelled w) (subs_of book.widths 0 book.lengths behind1)) ≡ spelled w xs =
      rw (
        rows_spelled w book.k0 book.h xs (omega (arith, long)),
        rows_spelled w book.k1 (book.d - book.h) behind0 (omega (arith, long0)),
        subs_spelled w book.widths 0 book.lengths behind1 long1,
        joined (book.k1 * (book.d - book.h)) behind0,
        joined (book.k0 * book.h) xs,
      ) refl in
      regrouped (magic_of book.version) (spelled w16 (book.d ∷ book.h ∷ book.k0 ∷ book.k1 ∷ [])) (spelled w8 (shape_number book.widths ∷ book.g ∷ [])) (scale_text book.version book.scale) (spelled w16 book.lengths)
      (words_spelled w (rows_of book.k0 book.h xs)) (words_spelled w (rows_of book.k1 (book.d - book.h) behind0)) (flat_map (words_spelled w) (subs_of book.widths 0 book.lengths behind1))
      ∙ ap (λ (t : List ℕ). numbers_text book ++ t) words
    where
      regrouped : (a b c d e f g h : List ℕ) → a ++ b ++ c ++ d ++ e ++ f ++ g ++ h ≡ a ++ b ++ c ++ d ++ e ++ (f ++ (g ++ h))
      regrouped a b c d e f g h = simp append_assoc

  module _ (are : AreGoodNumbers book) (all : AllByRecursion (λ c. c < component_limit book.version) xs) where
    pub cut_good : IsGood (with_words book xs)
    unfolding with_words behind0 behind1
    cut_good =
        let all0 = all_drop (λ c. c < component_limit book.version) (book.k0 * book.h) xs all in
        let all1 = all_drop (λ c. c < component_limit book.version) (book.k1 * (book.d - book.h)) behind0 all0 in
        let subs = subs_cut (component_limit book.version) book.widths 0 book.lengths behind1 (omega (arith, long1)) all1 in
        record {
          version = are.version;
          d = are.d;
          h = are.h;
          k0 = are.k0;
          k1 = are.k1;
          shape = are.shape;
          g = are.g;
          length_count = are.length_count;
          length_each = are.length_each;
          length_sum = are.length_sum;
          coarse0 = words_cut (component_limit book.version) book.k0 book.h xs (omega (arith, long)) all;
          coarse1 = words_cut (component_limit book.version) book.k1 (book.d - book.h) behind0 (omega (arith, long0)) all0;
          sub_lists = subs.count ∙ are.length_count;
          sub_each = λ j lt. sub_at (component_limit book.version) book.widths book.lengths (subs_of book.widths 0 book.lengths behind1) subs j (omega (arith, are.length_count));
        }

-- components of one byte are spelled as they are
pub bytes_spelled : (bytes : List ℕ) → AllByRecursion (λ b. b < 256) bytes → spelled w8 bytes ≡ bytes
bytes_spelled [] all = refl
bytes_spelled (b ∷ bs) all =
    let same : to_le_bytes w8 b ≡ b ∷ [] = ap (λ (n : ℕ). n ∷ []) (omega (arith, all.0)) in
    flat_map-cons (to_le_bytes w8) b bs ∙ ap (λ (t : List ℕ). t ++ spelled w8 bs) same ∙ ap (λ (t : List ℕ). b ∷ t) (bytes_spelled bs all.1)
