-- The fields of a vector's code, and the words that hold them.
use Rattle.std.proofs.Common.{◌≡◌, ℕ, ◌+◌, ◌*◌, ◌^◌, ◌%◌, ◌<◌, ◌≤◌, List, length, get_or, take, drop, sym, ap, subst, ◌∙◌, arith}
use Rattle.std.proofs.lemmas.Nat.{pow_pos, mul-le, mod-mul-add}
use Rattle.std.proofs.lemmas.Grind.{same_number_lists}
use Rattle.std.proofs.lemmas.List.{length-take-le, length-drop, get_or-take, get_or-drop}
use Rattle.std.proofs.lemmas.List.FromFn.{length-map-range_with_len, get_or-map-range_with_len}
use Rattle.book_model.specs.Distance.{nearest}
use Rattle.book_model.specs.Book.{Book, IsGood, part, sub_words, sub_count, width_of}
use Rattle.book_model.specs.Rows.{code_of}
use Rattle.book_model.proofs.Nearest.{nearest_is_first}
use Rattle.shape_core.specs.Word.{word_of, words_of, AreFields, AreCodeWords, IsCode}
use Rattle.shape_core.proofs.Codes.{length-words_of, get_or-words_of, AreCodeWords-words_of}

module _ (book : Book) (v : List ℕ) where
  -- the field of sub-quantizer j
  abbrev pub field : ℕ → ℕ
  field j = nearest book.scale (sub_words book j) (part book j v)

  pub length-code_of : length (code_of book v) ≡ sub_count book
  unfolding code_of
  length-code_of = length-map-range_with_len (λ j. nearest book.scale (sub_words book j) (part book j v)) 0 (sub_count book)

  pub get_or-code_of : (j : ℕ) → j < sub_count book → get_or (code_of book v) j 0 ≡ field j
  unfolding code_of
  get_or-code_of j lt = get_or-map-range_with_len (λ j. nearest book.scale (sub_words book j) (part book j v)) 0 (sub_count book) j j 0 lt (omega arith)

  module _ (good : IsGood book) where
    pub field_fits : (j : ℕ) → j < sub_count book → field j < 2 ^ width_of book j
    field_fits j lt =
        let count : length (sub_words book j) ≡ 2 ^ width_of book j = (good.sub_each j lt).count in
        let first = nearest_is_first book.scale (sub_words book j) (part book j v) (omega (arith, pow_pos (width_of book j))) in
        omega (arith, first.within)

    pub code_fits : IsCode book.widths book.g (code_of book v)
    code_fits = record {
      count = length-code_of;
      each = λ j lt.
          let there : j < sub_count book = omega (arith, length-code_of) in
          omega (arith, get_or-code_of j there, field_fits j there);
    }

-- these are the fields of word w of the code
pub record AreOfWord (book : Book) (v : List ℕ) (w : ℕ) (fields : List ℕ) : Type 0 where
  pub count : length fields ≡ length book.widths
  pub each : (n : ℕ) → n < length book.widths → get_or fields n 0 ≡ field book v (w * length book.widths + n)

-- the front of a longer list
pub are_of_word : (book : Book) (v : List ℕ) (w : ℕ) (k : ℕ) (long : List ℕ) → k ≡ length book.widths → k ≤ length long
    → ((n : ℕ) → n < k → get_or long n 0 ≡ field book v (w * length book.widths + n)) → AreOfWord book v w (take k long)
are_of_word book v w k long size le each = record {
  count = length-take-le k long le ∙ size;
  each = λ n lt. let small : n < k = omega arith in get_or-take k long n 0 small ∙ each n small;
}

module _ (book : Book) (v : List ℕ) (w : ℕ) (lt : w < book.g) where
  -- the fields of the word lie within the code
  within : w * length book.widths + length book.widths ≤ sub_count book
  within = let more : (w + 1) * length book.widths ≤ book.g * length book.widths = mul-le (w + 1) (length book.widths) book.g (length book.widths) (omega arith) (omega arith) in omega arith

  pub fit_their_widths : IsGood book → (fields : List ℕ) → AreOfWord book v w fields → AreFields book.widths fields
  fit_their_widths good fields are = record {
    count = are.count;
    each = λ n h.
        let fits = field_fits book v good (w * length book.widths + n) (omega (arith, within)) in
        let same : (w * length book.widths + n) % length book.widths ≡ n = mod-mul-add w (length book.widths) n h in
        subst (λ (m : ℕ). get_or fields n 0 < 2 ^ get_or book.widths m 0) same (omega (arith, are.each n h, fits));
  }

  pub pack_to_word : (fields : List ℕ) → AreOfWord book v w fields → word_of book.widths fields ≡ get_or (words_of book.widths book.g (code_of book v)) w 0
  pack_to_word fields are =
      let size : ℕ = length book.widths in
      let code : List ℕ = code_of book v in
      let long : w * size + size ≤ length code = omega (arith, length-code_of book v, within) in
      let taken : length (take size (drop (w * size) code)) ≡ size = length-take-le size (drop (w * size) code) (omega (arith, length-drop (w * size) code)) in
      let same : fields ≡ take size (drop (w * size) code) =
      same_number_lists fields (take size (drop (w * size) code)) (omega (arith, are.count)) (λ n h.
      let small : n < size = omega (arith, are.count) in
      are.each n small ∙ sym (get_or-take size (drop (w * size) code) n 0 small ∙ get_or-drop (w * size) code n 0 ∙ get_or-code_of book v (w * size + n) (omega (arith, within)))) in
      ap (word_of book.widths) same ∙ sym (get_or-words_of book.widths book.g code w lt)

module _ (book : Book) (v : List ℕ) (widths : List ℕ) (shape : book.widths ≡ widths) where
  abbrev pub code_words : List ℕ
  code_words = words_of widths book.g (code_of book v)

  pub fields_are_good : (w : ℕ) → w < book.g → IsGood book → (fields : List ℕ) → AreOfWord book v w fields → AreFields widths fields
  fields_are_good w lt good fields are = subst (λ (ws : List ℕ). AreFields ws fields) shape (fit_their_widths book v w lt good fields are)

  pub word_is : (w : ℕ) → w < book.g → (fields : List ℕ) → AreOfWord book v w fields → word_of widths fields ≡ get_or code_words w 0
  word_is w lt fields are = subst (λ (ws : List ℕ). word_of ws fields ≡ get_or (words_of ws book.g (code_of book v)) w 0) shape (pack_to_word book v w lt fields are)

  pub all_words : (words : List ℕ) → length words ≡ book.g → ((w : ℕ) → w < book.g → get_or words w 0 ≡ get_or code_words w 0) → words ≡ code_words
  all_words words count each =
      let size = length-words_of widths book.g (code_of book v) in
      same_number_lists words code_words (omega arith) (λ w h. each w (omega arith))

  pub good_words : IsGood book → AreCodeWords widths book.g code_words
  good_words good = AreCodeWords-words_of widths book.g (code_of book v) (subst (λ (ws : List ℕ). IsCode ws book.g (code_of book v)) shape (code_fits book v good))
