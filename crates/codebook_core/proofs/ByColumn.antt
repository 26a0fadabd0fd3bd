-- The words of a book by column.
use Rattle.std.proofs.Common.{◌≡◌, ℕ, ◌-◌, ◌*◌, ◌^◌, ◌<◌, ◌≤◌, List, [], length, map, get_or, take, drop, refl, sym, ap, subst, ◌∙◌, arith, ext_get_or}
use Rattle.std.proofs.lemmas.List.FromFn.{get_or-map-range_with_len, length-map-range_with_len}
use Rattle.book_model.specs.Sums.{numbers_below}
use Rattle.book_model.specs.Book.{Book, IsGood, AreWords, sub_count, sub_words, width_of, length_of}
use Rattle.book_model.proofs.Good.{all_at, part_within, word_size}
use Rattle.word_columns.specs.Columns.{words_in_row}
use Rattle.codebook_core.specs.declared.parts.Parts.{Parts}
use Rattle.codebook_core.specs.declared.columns.Columns.{Columns}
use Rattle.codebook_core.specs.Columns.{IsBook}
use Rattle.codebook_core.specs.View.{view_of, rows_of}
use Rattle.codebook_core.proofs.Rows.{row_at}
use Rattle.codebook_core.proofs.Accessors.{rows_count, row_of_taken}

-- words in a row are those that a book cuts from it
rows_by : (n size : ℕ) (xs ys : List ℕ) → ((i : ℕ) → i < n → take size (drop (i * size) ys) ≡ take size (drop (i * size) xs)) → words_in_row n size ys ≡ rows_of n size xs
unfolding words_in_row
rows_by n size xs ys same =
    let cut : ℕ → List ℕ = λ w. take size (drop (w * size) ys) in
    ext_get_or [] (map cut (numbers_below n)) (rows_of n size xs) (length-map-range_with_len cut 0 n ∙ sym (rows_count n size xs)) (λ i lt.
    let h : i < n = omega (arith, lt, length-map-range_with_len cut 0 n) in
    get_or-map-range_with_len cut 0 n i i [] h (omega arith) ∙ same i h ∙ sym (row_at n size i xs h))

pub rows_in_row : (n size : ℕ) (xs : List ℕ) → words_in_row n size xs ≡ rows_of n size xs
rows_in_row n size xs = rows_by n size xs xs (λ i lt. refl)

pub taken_in_row : (n size : ℕ) (xs : List ℕ) → words_in_row n size (take (n * size) xs) ≡ rows_of n size xs
taken_in_row n size xs = rows_by n size xs (take (n * size) xs) (λ i lt. row_of_taken n size i xs lt)

-- the length of a sub-quantizer's words
pub length_is : (book : Book) (j : ℕ) → IsGood book → j < sub_count book → (1 ≤ length_of book j) × (length_of book j ≤ 1024)
length_is book j good lt =
    (all_at (λ n. 1 ≤ n) book.lengths j 0 good.length_each (omega (arith, good.length_count)), omega (arith, part_within book good j, good.d))

-- what a list of words by column is to callers: these words, so many, of one length
pub record AreWordsBy (list : List (List ℕ)) (n size : ℕ) (columns : List (List ℕ)) : Type 0 where
  pub words : columns ≡ list
  pub count : length columns ≡ n
  pub sizes : (w : ℕ) → w < length columns → length (get_or columns w []) ≡ size

are_words_by : (limit n size : ℕ) (words columns : List (List ℕ)) → columns ≡ words → AreWords limit n size words → AreWordsBy words n size columns
are_words_by limit n size words columns e are = record {
  words = e;
  count = ap length e ∙ are.count;
  sizes = λ w h. ap (λ (ws : List (List ℕ)). length (get_or ws w [])) e ∙ word_size limit n size words w are (omega (arith, h, ap length e, are.count));
}

pub coarse0_facts : (widths : List ℕ) (parts : Parts) (columns : Columns) (book : Book) → view_of widths parts ≡ book → IsBook widths parts columns → AreWordsBy book.coarse0 book.k0 book.h columns.coarse0
coarse0_facts widths parts columns book e is = subst (λ (b : Book). AreWordsBy b.coarse0 b.k0 b.h columns.coarse0) e (are_words_by _ _ _ _ columns.coarse0 is.words.coarse0 is.kept.good.coarse0)

pub coarse1_facts : (widths : List ℕ) (parts : Parts) (columns : Columns) (book : Book) → view_of widths parts ≡ book → IsBook widths parts columns → AreWordsBy book.coarse1 book.k1 (book.d - book.h) columns.coarse1
coarse1_facts widths parts columns book e is = subst (λ (b : Book). AreWordsBy b.coarse1 b.k1 (b.d - b.h) columns.coarse1) e (are_words_by _ _ _ _ columns.coarse1 is.words.coarse1 is.kept.good.coarse1)

pub sub_facts : (widths : List ℕ) (parts : Parts) (columns : Columns) (book : Book) (j : ℕ) → view_of widths parts ≡ book → IsBook widths parts columns → j < sub_count book
    → AreWordsBy (sub_words book j) (2 ^ width_of book j) (length_of book j) (get_or columns.subs.items j [])
sub_facts widths parts columns book j e is lt =
    let P : Book → Type 0 = λ b. j < sub_count b → AreWordsBy (sub_words b j) (2 ^ width_of b j) (length_of b j) (get_or columns.subs.items j []) in
    subst P e (λ small. are_words_by _ _ _ _ (get_or columns.subs.items j []) (ap (λ (subs : List (List (List ℕ))). get_or subs j []) is.words.subs) (is.kept.good.sub_each j small)) lt

pub subs_long : (widths : List ℕ) (parts : Parts) (columns : Columns) (book : Book) → view_of widths parts ≡ book → IsBook widths parts columns → length columns.subs.items ≡ sub_count book
subs_long widths parts columns book e is = subst (λ (b : Book). length columns.subs.items ≡ sub_count b) e (ap length is.words.subs ∙ is.kept.good.sub_lists)
