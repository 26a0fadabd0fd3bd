-- A code's fields and its words are one to one.
use Rattle.std.proofs.Common.{◌≡◌, ℕ, zero, suc, ◌+◌, ◌*◌, ◌/◌, ◌%◌, ◌^◌, ◌<◌, ◌≤◌, List, [], ◌∷◌, ◌++◌, length, get_or, take, drop, refl, sym, ap, ap₂, ◌∙◌, subst, arith, length-append, eq-zero-or-pos, inl, inr}
use Rattle.std.proofs.Math.Nat.{mod-eq_of_lt, mod-lt, add-mod_left}
use Rattle.std.proofs.lemmas.Nat.{div_below, div-add-mod'}
use Rattle.std.proofs.lemmas.List.{length-take-le, length-drop, get_or-take, get_or-drop, drop-drop, take-append-drop, nil_from_length, take_at, drop_at, get_or_append_left, get_or-append-add}
use Rattle.shape_core.specs.Word.{word_of, field_of, fields_of, words_of, code_of_words, AreFields, AreCodeWords, IsCode}
use Rattle.shape_core.proofs.Words.{IsWord-word_of, fields_of-word_of, word_of-fields_of, length-fields_of, get_or-fields_of, field_of-below}

module _ (widths : List ℕ) where
  -- the first word of a code has fields, and the rest is a code
  pub AreFields-take : (g : ℕ) (code : List ℕ) → IsCode widths (suc g) code → AreFields widths (take (length widths) code)
  AreFields-take g code is =
      let all : length widths ≤ length code = omega (arith, is.count) in
      record {
        count = length-take-le (length widths) code all;
        each = λ n h.
            subst (λ (x : ℕ). x < 2 ^ get_or widths n 0) (sym (get_or-take (length widths) code n 0 h))
            (subst (λ (m : ℕ). get_or code n 0 < 2 ^ get_or widths m 0) (mod-eq_of_lt h) (is.each n (omega arith)));
      }

  pub IsCode-drop : (g : ℕ) (code : List ℕ) → IsCode widths (suc g) code → IsCode widths g (drop (length widths) code)
  IsCode-drop g code is =
      let size = length-drop (length widths) code in
      record {
        count = omega (arith, size, is.count);
        each = λ j h.
            subst (λ (x : ℕ). x < 2 ^ get_or widths (j % length widths) 0) (sym (get_or-drop (length widths) code j 0))
            (subst (λ (m : ℕ). get_or code (length widths + j) 0 < 2 ^ get_or widths m 0) (add-mod_left (length widths) j) (is.each (length widths + j) (omega (arith, size))));
      }

  -- ---- the words of a code

  pub length-words_of : (g : ℕ) (code : List ℕ) → length (words_of widths g code) ≡ g
  length-words_of zero code = refl
  length-words_of (suc g) code = ap suc (length-words_of g (drop (length widths) code))

  pub get_or-words_of : (g : ℕ) (code : List ℕ) (w : ℕ) → w < g → get_or (words_of widths g code) w 0 ≡ word_of widths (take (length widths) (drop (w * length widths) code))
  get_or-words_of zero code w h = absurd (omega arith)
  get_or-words_of (suc g) code zero h = ap (λ n. word_of widths (take (length widths) (drop n code))) {x = 0} {y = 0 * length widths} (omega arith)
  get_or-words_of (suc g) code (suc w) h =
      get_or-words_of g (drop (length widths) code) w (omega arith)
      ∙ ap (λ l. word_of widths (take (length widths) l)) (drop-drop (w * length widths) (length widths) code ∙ ap (λ n. drop n code) {x = length widths + w * length widths} {y = suc w * length widths} (omega arith))

  pub AreCodeWords-words_of : (g : ℕ) (code : List ℕ) → IsCode widths g code → AreCodeWords widths g (words_of widths g code)
  AreCodeWords-words_of zero code is = record { count = refl; each = tt }
  AreCodeWords-words_of (suc g) code is =
      let rest = AreCodeWords-words_of g (drop (length widths) code) (IsCode-drop g code is) in
      record { count = ap suc rest.count; each = (IsWord-word_of widths (take (length widths) code) (AreFields-take g code is), rest.each) }

  -- ---- the code of words

  pub length-code_of_words : (words : List ℕ) → length (code_of_words widths words) ≡ length words * length widths
  length-code_of_words [] = omega arith
  length-code_of_words (x ∷ xs) = omega (arith, length-append (fields_of widths x) (code_of_words widths xs), length-fields_of widths x, length-code_of_words xs)

  -- place w * FIELDS + f of a code is field f of word w
  pub get_or-code_of_words : (words : List ℕ) (w f : ℕ) → w < length words → f < length widths → get_or (code_of_words widths words) (w * length widths + f) 0 ≡ field_of widths (get_or words w 0) f
  get_or-code_of_words [] w f h l = absurd (omega arith)
  get_or-code_of_words (x ∷ xs) zero f h l =
      ap (λ n. get_or (code_of_words widths (x ∷ xs)) n 0) {x = 0 * length widths + f} {y = f} (omega arith)
      ∙ get_or_append_left (fields_of widths x) (code_of_words widths xs) 0 f (omega (arith, length-fields_of widths x)) ∙ get_or-fields_of widths x f l
  get_or-code_of_words (x ∷ xs) (suc w) f h l =
      ap (λ n. get_or (code_of_words widths (x ∷ xs)) n 0) {x = suc w * length widths + f} {y = length (fields_of widths x) + (w * length widths + f)} (omega (arith, length-fields_of widths x))
      ∙ get_or-append-add (fields_of widths x) (code_of_words widths xs) (w * length widths + f) 0 ∙ get_or-code_of_words xs w f (omega arith) l

  -- every place of the code of words lies within its width
  pub IsCode-code_of_words : (words : List ℕ) → IsCode widths (length words) (code_of_words widths words)
  IsCode-code_of_words words = record {
    count = length-code_of_words words;
    each = λ j h.
        let many : j < length words * length widths = omega (arith, length-code_of_words words) in
        let some : 0 < length widths = elim (eq-zero-or-pos (length widths)) [
          | inl e ↦ absurd (omega (arith, subst (λ (n : ℕ). j < length words * n) e many))
          | inr p ↦ p
        ] in
        let w = j / length widths in
        let f = j % length widths in
        let is : get_or (code_of_words widths words) j 0 ≡ field_of widths (get_or words w 0) f =
        ap (λ n. get_or (code_of_words widths words) n 0) (sym (div-add-mod' j (length widths))) ∙ get_or-code_of_words words w f (div_below j (length widths) (length words) some many) (mod-lt j some)
        in subst (λ (x : ℕ). x < 2 ^ get_or widths f 0) (sym is) (field_of-below widths (get_or words w 0) f);
  }

  -- ---- both ways

  pub code_of_words-words_of : (g : ℕ) (code : List ℕ) → IsCode widths g code → code_of_words widths (words_of widths g code) ≡ code
  code_of_words-words_of zero code is = sym (nil_from_length code (is.count ∙ omega arith))
  code_of_words-words_of (suc g) code is =
      ap₂ (λ a b. a ++ b) (fields_of-word_of widths (take (length widths) code) (AreFields-take g code is)) (code_of_words-words_of g (drop (length widths) code) (IsCode-drop g code is))
      ∙ take-append-drop (length widths) code

  pub words_of-code_of_words : (g : ℕ) (words : List ℕ) → AreCodeWords widths g words → words_of widths g (code_of_words widths words) ≡ words
  words_of-code_of_words zero [] is = refl
  words_of-code_of_words zero (x ∷ xs) is = absurd (omega (arith, is.count))
  words_of-code_of_words (suc g) [] is = absurd (omega (arith, is.count))
  words_of-code_of_words (suc g) (x ∷ xs) is =
      let size = length-fields_of widths x in
      ap₂ (λ a b. a ∷ b) (ap (word_of widths) (take_at (fields_of widths x) (code_of_words widths xs) (length widths) size) ∙ word_of-fields_of widths x is.each.0)
      (ap (words_of widths g) (drop_at (fields_of widths x) (code_of_words widths xs) (length widths) size) ∙ words_of-code_of_words g xs (record { count = omega (arith, is.count); each = is.each.1 }))
