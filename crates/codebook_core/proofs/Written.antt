-- What is written of a book's parts is the spelling of the book.
use Rattle.std.proofs.Common.{◌≡◌, ℕ, zero, suc, ◌+◌, ◌-◌, ◌*◌, ◌^◌, ◌%◌, ◌≤◌, List, [], ◌∷◌, ◌++◌, length, get_or, take, drop, refl, sym, ap, subst, ◌∙◌, append_assoc, arith, Result, Ok, Err, IfOk, MatchResult, is_ok, sum, Some, slice_get}
use Rattle.std.specs.List.{flat_map}
use Rattle.std.specs.Int.{Width, w8, w16, to_le_bytes}
use Rattle.std.proofs.Math.Nat.{suc-mul, zero-mul}
use Rattle.std.proofs.lemmas.List.{take-append-drop, take_all, length-drop, nil_from_length}
use Rattle.std.proofs.lemmas.List.Concat.{flat_map-cons}
use Rattle.std.proofs.lemmas.Grind.{flat_map-append}
use Rattle.book_model.specs.Book.{shapes}
use Rattle.codebook_core.specs.declared.parts.Parts.{Parts}
use Rattle.codebook_core.specs.Starts.{sub_sizes}
use Rattle.codebook_core.specs.View.{view_of, rows_of, subs_of, IsKept}
use Rattle.codebook_core.specs.Spelling.{scale_text, spelled, words_spelled, magic_of, shape_number, component_width, book_bytes}
use Rattle.codebook_core.specs.Text.{parts_text}
use Rattle.codebook_core.proofs.Rows.{sum_cons}
use Rattle.codebook_core.proofs.Accessors.{split_at}

-- rows of components are spelled as the components are
pub rows_spelled : (w : Width) (n size : ℕ) (xs : List ℕ) → n * size ≤ length xs → words_spelled w (rows_of n size xs) ≡ spelled w (take (n * size) xs)
rows_spelled w zero size xs le = rw zero-mul refl
rows_spelled w (suc n) size xs le =
    let more : suc n * size ≡ size + n * size = omega (arith, suc-mul n size) in
    let later = rows_spelled w n size (drop size xs) (omega (arith, length-drop size xs)) in
    flat_map-cons (spelled w) (take size xs) (rows_of n size (drop size xs)) ∙ ap (λ (t : List ℕ). spelled w (take size xs) ++ t) later
    ∙ sym (flat_map-append (to_le_bytes w) (take size xs) (take (n * size) (drop size xs))) ∙ ap (spelled w) (split_at size (n * size) xs (omega arith) ∙ ap (λ (k : ℕ). take k xs) (sym more))

all_rows_spelled : (w : Width) (n size : ℕ) (xs : List ℕ) → length xs ≡ n * size → words_spelled w (rows_of n size xs) ≡ spelled w xs
all_rows_spelled w n size xs e = rows_spelled w n size xs (omega (arith, e)) ∙ ap (spelled w) (take_all (n * size) xs (omega (arith, e)))

pub subs_spelled : (w : Width) (widths : List ℕ) (j : ℕ) (lengths xs : List ℕ) → length xs ≡ sum (sub_sizes widths j lengths) → flat_map (words_spelled w) (subs_of widths j lengths xs) ≡ spelled w xs
subs_spelled w widths j [] xs e = ap (spelled w) (sym (nil_from_length xs e))
subs_spelled w widths j (n ∷ ns) xs e =
    let count = 2 ^ get_or widths (j % length widths) 0 in
    let size = count * n in
    let sums = sum_cons size (sub_sizes widths (j + 1) ns) in
    let later = subs_spelled w widths (j + 1) ns (drop size xs) (omega (arith, e, sums, length-drop size xs)) in
    flat_map-cons (words_spelled w) (rows_of count n xs) (subs_of widths (j + 1) ns (drop size xs))
    ∙ ap (λ (t : List ℕ). words_spelled w (rows_of count n xs) ++ t) later
    ∙ ap (λ (t : List ℕ). t ++ spelled w (drop size xs)) (rows_spelled w count n xs (omega (arith, e, sums)))
    ∙ sym (flat_map-append (to_le_bytes w) (take size xs) (drop size xs)) ∙ ap (spelled w) (take-append-drop size xs)

-- the number of a shape's widths is the shape's
pub number_is : (n : ℕ) (widths : List ℕ) → slice_get shapes n ≡ Some widths → shape_number widths ≡ n
number_is zero widths e = let same : 4 ∷ 4 ∷ 4 ∷ 4 ∷ [] ≡ widths = cc in let P : List ℕ → Type 0 = λ ws. shape_number ws ≡ 0 in subst P same refl
number_is (suc zero) widths e = let same : 5 ∷ 5 ∷ 5 ∷ [] ≡ widths = cc in let P : List ℕ → Type 0 = λ ws. shape_number ws ≡ 1 in subst P same refl
number_is (suc (suc zero)) widths e = let same : 6 ∷ 6 ∷ 4 ∷ [] ≡ widths = cc in let P : List ℕ → Type 0 = λ ws. shape_number ws ≡ 2 in subst P same refl
number_is (suc (suc (suc zero))) widths e = let same : 8 ∷ 8 ∷ [] ≡ widths = cc in let P : List ℕ → Type 0 = λ ws. shape_number ws ≡ 3 in subst P same refl
number_is (suc (suc (suc (suc n)))) widths e = absurd cc

pub text_is : (number : ℕ) (widths : List ℕ) (parts : Parts) → slice_get shapes number ≡ Some widths → IsKept widths parts → parts_text number parts ≡ book_bytes (view_of widths parts)
unfolding parts_text book_bytes view_of
text_is number widths parts e kept =
    let w = component_width parts.front.version in
    let regrouped : parts_text number parts ≡ magic_of parts.front.version ++ spelled w16 (parts.front.d ∷ parts.front.h ∷ parts.front.k0 ∷ parts.front.k1 ∷ []) ++ spelled w8 (number ∷ parts.g ∷ [])
    ++ scale_text parts.front.version parts.scale ++ spelled w16 parts.lengths.items ++ spelled w parts.coarse0.items ++ spelled w parts.coarse1.items ++ spelled w parts.words.items =
    ap (λ (t : List ℕ). t ++ scale_text parts.front.version parts.scale ++ spelled w16 parts.lengths.items ++ spelled w parts.coarse0.items ++ spelled w parts.coarse1.items ++ spelled w parts.words.items)
    (sym (append_assoc (magic_of parts.front.version) (spelled w16 (parts.front.d ∷ parts.front.h ∷ parts.front.k0 ∷ parts.front.k1 ∷ [])) (spelled w8 (number ∷ parts.g ∷ [])))) in
    rw (
      number_is number widths e,
      all_rows_spelled w parts.front.k0 parts.front.h parts.coarse0.items kept.laid.part0,
      all_rows_spelled w parts.front.k1 (parts.front.d - parts.front.h) parts.coarse1.items kept.laid.part1,
      subs_spelled w widths 0 parts.lengths.items parts.words.items kept.laid.rest,
    ) regrouped

-- what holds of the value still does where only the error was turned
pub mapped : {V E F : Type 0} (P : V → Type 0) (Q : E → Type 0) (r : Result V E) (s : Result V F) → IfOk r P → MatchResult r (λ x. s ≡ Ok x) Q → is_ok s ≡ is_ok r → IfOk s P
mapped {V} {E} {F} P Q (Ok x) s holds same tells = let R : Result V F → Type 0 = λ t. IfOk t P in subst R (sym same) holds
mapped P Q (Err e) (Ok y) holds same tells = absurd cc
mapped P Q (Err e) (Err f) holds same tells = tt
