-- What the parts of a book show of it.
use Rattle.std.proofs.Common.{◌≡◌, ℕ, zero, suc, ◌+◌, ◌-◌, ◌*◌, ◌^◌, ◌%◌, ◌<◌, ◌≤◌, List, [], ◌∷◌, ◌++◌, length, get_or, take, drop, refl, sym, ap, subst, ◌∙◌, arith, zero-add, add-zero, sum}
use Rattle.std.specs.List.{flat_map}
use Rattle.std.proofs.Math.Nat.{suc-mul, zero-mul}
use Rattle.std.proofs.lemmas.Nat.{mul-le}
use Rattle.std.proofs.lemmas.List.{get_or_read, length-drop, drop-take, take-take, length-take-le}
use Rattle.std.proofs.lemmas.List.Concat.{flat_map-cons}
use Rattle.std.proofs.lemmas.List.Sums.{sum_by_more_le}
use Rattle.book_model.specs.Book.{Book, sub_count, sub_words, width_of, length_of}
use Rattle.codebook_core.specs.declared.parts.Parts.{Parts}
use Rattle.codebook_core.specs.Rows.{AreRows}
use Rattle.codebook_core.specs.Starts.{sub_sizes}
use Rattle.codebook_core.specs.View.{view_of, rows_of, IsKept}
use Rattle.codebook_core.proofs.Rows.{row_at, sub_at}

-- ---- rows one after another

pub split_at : (n m : ℕ) (xs : List ℕ) → n + m ≤ length xs → take n xs ++ take m (drop n xs) ≡ take (n + m) xs
split_at zero m xs le = rw zero-add refl
split_at (suc n) m [] le = absurd (omega arith)
split_at (suc n) m (x ∷ xs) le =
    let e : suc n + m ≡ suc (n + m) = omega arith in
    rw e (ap (λ (t : List ℕ). x ∷ t) (split_at n m xs (omega arith)))

pub rows_flat : (n size : ℕ) (xs : List ℕ) → n * size ≤ length xs → flat_map (λ w. w) (rows_of n size xs) ≡ take (n * size) xs
rows_flat zero size xs le = rw zero-mul refl
rows_flat (suc n) size xs le =
    let more : suc n * size ≡ size + n * size = omega (arith, suc-mul n size) in
    let later : flat_map (λ w. w) (rows_of n size (drop size xs)) ≡ take (n * size) (drop size xs) = rows_flat n size (drop size xs) (omega (arith, length-drop size xs)) in
    flat_map-cons (λ w. w) (take size xs) (rows_of n size (drop size xs)) ∙ ap (λ (t : List ℕ). take size xs ++ t) later ∙ split_at size (n * size) xs (omega arith) ∙ ap (λ (k : ℕ). take k xs) (sym more)

pub rows_count : (n size : ℕ) (xs : List ℕ) → length (rows_of n size xs) ≡ n
rows_count zero size xs = refl
rows_count (suc n) size xs = ap suc (rows_count n size (drop size xs))

-- ---- words of sub-quantizers

sizes_count : (widths : List ℕ) (j : ℕ) (lengths : List ℕ) → length (sub_sizes widths j lengths) ≡ length lengths
sizes_count widths j [] = refl
sizes_count widths j (n ∷ ns) = ap suc (sizes_count widths (j + 1) ns)

size_at : (widths : List ℕ) (j : ℕ) (lengths : List ℕ) (k : ℕ) → k < length lengths → get_or (sub_sizes widths j lengths) k 0 ≡ 2 ^ get_or widths ((j + k) % length widths) 0 * get_or lengths k 0
size_at widths j [] k lt = absurd (omega arith)
size_at widths j (n ∷ ns) zero lt = rw add-zero refl
size_at widths j (n ∷ ns) (suc k) lt =
    let e : (j + 1) + k ≡ j + suc k = omega arith in
    size_at widths (j + 1) ns k (omega arith) ∙ ap (λ (m : ℕ). 2 ^ get_or widths (m % length widths) 0 * get_or ns k 0) e

-- the n words of a sub-quantizer, of this size each, are at this place
pub record IsListAt (widths : List ℕ) (parts : Parts) (book : Book) (j n size place : ℕ) : Type 0 where
  pub long : length_of book j ≡ size
  pub count : n ≡ 2 ^ width_of book j
  pub rows : sub_words book j ≡ rows_of n size (drop place parts.words.items)
  pub fits : place + n * size ≤ length parts.words.items

-- a sub-quantizer has a length and a place
pub are_at : (widths : List ℕ) (parts : Parts) (book : Book) (j : ℕ) → view_of widths parts ≡ book → IsKept widths parts → j < sub_count book → (j < length parts.lengths.items) × (j < length parts.places.items)
unfolding view_of
are_at widths parts book j e kept lt =
    let P : Book → Type 0 = λ b. j < sub_count b → (j < length parts.lengths.items) × (j < length parts.places.items) in
    subst P e (λ small. (omega (arith, kept.good.length_count), omega (arith, kept.good.length_count, kept.laid.lists.count, sizes_count widths 0 parts.lengths.items))) lt

-- and what was read there says where the words are
pub list_at : (widths : List ℕ) (parts : Parts) (book : Book) (j n size place : ℕ) → view_of widths parts ≡ book → IsKept widths parts → j < sub_count book → n ≡ 2 ^ get_or widths (j % length widths) 0
    → size ≡ get_or parts.lengths.items j size → place ≡ get_or parts.places.items j place → IsListAt widths parts book j n size place
unfolding view_of
list_at widths parts book j n size place e kept lt count size_is place_is =
    let at = are_at widths parts book j e kept lt in
    let lengths = parts.lengths.items in
    let sizes = sub_sizes widths 0 lengths in
    let of_sizes : j < length sizes = omega (arith, at.0, sizes_count widths 0 lengths) in
    let same : 0 + j ≡ j = omega arith in
    let counted : 2 ^ get_or widths ((0 + j) % length widths) 0 ≡ n = ap (λ (m : ℕ). 2 ^ get_or widths (m % length widths) 0) same ∙ sym count in
    let long : get_or lengths j 0 ≡ size = sym (get_or_read lengths j size at.0 size_is 0) in
    let there : sum (take j sizes) ≡ place = sym (get_or_read parts.places.items j place at.1 place_is 0 ∙ kept.laid.lists.each j of_sizes) in
    let each : get_or sizes j 0 ≡ n * size = size_at widths 0 lengths j at.0 ∙ (λ i. counted i * long i) in
    let within : sum (take j sizes) + get_or sizes j 0 ≤ sum sizes = sum_by_more_le (λ m. m) sizes j 0 of_sizes in
    subst (λ (b : Book). IsListAt widths parts b j n size place) e (record {
      long = long;
      count = count;
      rows = sub_at widths 0 lengths parts.words.items j at.0 ∙ (λ i. rows_of (counted i) (long i) (drop (there i) parts.words.items));
      fits = omega (arith, there, each, within, kept.laid.rest);
    })

pub row_of_taken : (n size i : ℕ) (xs : List ℕ) → i < n → take size (drop (i * size) (take (n * size) xs)) ≡ take size (drop (i * size) xs)
row_of_taken n size i xs lt =
    let m = n * size - i * size in
    let within : i * size + size ≤ n * size = omega (arith, suc-mul i size, mul-le (suc i) size n size (omega arith) (omega arith)) in
    let e : n * size ≡ i * size + m = omega arith in
    ap (λ (k : ℕ). take size (drop (i * size) (take k xs))) e ∙ ap (λ (ys : List ℕ). take size ys) (drop-take (i * size) m xs) ∙ take-take size m (drop (i * size) xs) (omega arith)

module _ (widths : List ℕ) (parts : Parts) (book : Book) (j n size place : ℕ) (list : IsListAt widths parts book j n size place) where
  pub sub_word_at : (w : ℕ) → w < 2 ^ width_of book j → take size (drop (w * size) (drop place parts.words.items)) ≡ get_or (sub_words book j) w []
  sub_word_at w lt = sym (ap (λ (words : List (List ℕ)). get_or words w []) list.rows ∙ row_at n size w (drop place parts.words.items) (omega (arith, list.count)))

  pub sub_word_within : (w : ℕ) → w < 2 ^ width_of book j → place + w * size + size ≤ length parts.words.items
  sub_word_within w lt = omega (arith, suc-mul w size, mul-le (suc w) size n size (omega (arith, list.count)) (omega arith), list.fits)

  pub sub_word_long : (w : ℕ) → w < 2 ^ width_of book j → length (take size (drop (w * size) (drop place parts.words.items))) ≡ length_of book j
  sub_word_long w lt = length-take-le size (drop (w * size) (drop place parts.words.items)) (omega (arith, sub_word_within w lt, length-drop (w * size) (drop place parts.words.items), length-drop place parts.words.items)) ∙ sym list.long

  pub sub_flat : take (n * size) (drop place parts.words.items) ≡ flat_map (λ w. w) (sub_words book j)
  sub_flat = sym (ap (λ (words : List (List ℕ)). flat_map (λ w. w) words) list.rows ∙ rows_flat n size (drop place parts.words.items) (omega (arith, list.fits, length-drop place parts.words.items)))

  pub sub_rows : AreRows (length_of book j) (take (n * size) (drop place parts.words.items)) (sub_words book j)
  sub_rows i lt =
      let small : i < n = omega (arith, lt, ap length list.rows, rows_count n size (drop place parts.words.items)) in
      ap (λ (k : ℕ). take k (drop (i * k) (take (n * size) (drop place parts.words.items)))) list.long ∙ row_of_taken n size i (drop place parts.words.items) small ∙ sub_word_at i (omega (arith, small, list.count))

  pub sub_long : length (take (n * size) (drop place parts.words.items)) ≡ 2 ^ width_of book j * length_of book j
  sub_long = length-take-le (n * size) (drop place parts.words.items) (omega (arith, list.fits, length-drop place parts.words.items)) ∙ ap (λ (k : ℕ). k * size) list.count ∙ ap (λ (k : ℕ). 2 ^ width_of book j * k) (sym list.long)
