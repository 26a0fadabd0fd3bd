-- The spelling of a good book is within the limit of a file.
use Rattle.std.proofs.Common.{◌≡◌, ℕ, ◌+◌, ◌-◌, ◌*◌, ◌^◌, ◌%◌, ◌≤◌, List, [], ◌∷◌, length, get_or, Ok, refl, sym, ap, subst, arith, inl, inr, lit≤, sum, length-append}
use Rattle.std.specs.List.{flat_map, AllByRecursion}
use Rattle.std.specs.Int.{Width, w16, to_le_bytes}
use Rattle.std.proofs.lemmas.Nat.{mul-le}
use Rattle.std.proofs.Math.Nat.{suc-mul}
use Rattle.std.proofs.lemmas.List.Concat.{flat_map-cons}
use Rattle.book_model.specs.Book.{Book, IsGood, component_limit}
use Rattle.codebook_core.specs.Spelling.{scale_text, spelled, words_spelled, magic_of, component_width, book_bytes}
use Rattle.codebook_core.specs.Reading.{book_outcome}
use Rattle.codebook_core.proofs.Rows.{sum_cons, count_le, small_widths}
use Rattle.codebook_core.proofs.Shapes.{numbered}
use Rattle.codebook_core.proofs.BookFields.{AreSubs, IsVersion, sum_long, subs_split}
use Rattle.codebook_core.proofs.Whole.{body_of, outcome_read}

-- a width of one byte or two
abbrev IsShort : Width → Type 0
IsShort w = (n : ℕ) → length (to_le_bytes w n) ≤ 2

-- what a version alone decides
record IsVersioned (version scale : ℕ) : Type 0 where
  short : IsShort (component_width version)
  magic : length (magic_of version) ≡ 8
  scales : length (scale_text version scale) ≤ 1

versioned : (version scale : ℕ) → IsVersion version → IsVersioned version scale
versioned version scale (inl is) = let P : ℕ → Type 0 = λ v. IsVersioned v scale in subst P (sym is) (record { short = λ n. lit≤ tt; magic = refl; scales = lit≤ tt })
versioned version scale (inr is) = let P : ℕ → Type 0 = λ v. IsVersioned v scale in subst P (sym is) (record { short = λ n. lit≤ tt; magic = refl; scales = lit≤ tt })

module _ (w : Width) (short : IsShort w) where
  numbers_long : (xs : List ℕ) → length (spelled w xs) ≤ 2 * length xs
  numbers_long [] = lit≤ tt
  numbers_long (x ∷ xs) = omega (arith, ap length (flat_map-cons (to_le_bytes w) x xs), length-append (to_le_bytes w x) (spelled w xs), short x, numbers_long xs)

  words_long : (size : ℕ) (words : List (List ℕ)) → AllByRecursion (λ word. length word ≡ size) words → length (words_spelled w words) ≤ 2 * (length words * size)
  words_long size [] sizes = omega arith
  words_long size (word ∷ words) sizes =
      omega (arith, ap length (flat_map-cons (spelled w) word words), length-append (spelled w word) (words_spelled w words), numbers_long word, sizes.0, words_long size words sizes.1, suc-mul (length words) size)

  subs_long : (limit : ℕ) (widths : List ℕ) → AllByRecursion (λ width. width ≤ 8) widths → (j : ℕ) (lengths : List ℕ) (subs : List (List (List ℕ))) → AreSubs limit widths j lengths subs
      → length (flat_map (words_spelled w) subs) ≤ 512 * sum lengths
  subs_long limit widths small j [] [] are = lit≤ tt
  subs_long limit widths small j [] (s ∷ ss) are = absurd (omega (arith, are.count))
  subs_long limit widths small j (n ∷ ns) [] are = absurd (omega (arith, are.count))
  subs_long limit widths small j (n ∷ ns) (s ∷ ss) are =
      let parts = subs_split limit widths j n ns s ss are in
      let count = 2 ^ get_or widths (j % length widths) 0 in
      let here : count * n ≤ 256 * n = mul-le count n 256 n (count_le (get_or widths (j % length widths) 0) (small_widths widths small (j % length widths))) (omega arith) in
      let same : length s * n ≡ count * n = ap (λ (k : ℕ). k * n) parts.0.count in
      omega (arith, ap length (flat_map-cons (words_spelled w) s ss), length-append (words_spelled w s) (flat_map (words_spelled w) ss), words_long n s parts.0.sizes, same, here, subs_long limit widths small (j + 1) ns ss parts.1, sum_cons n ns)

pub book_short : (book : Book) → IsGood book → length (book_bytes book) ≤ 4194304
unfolding book_bytes
book_short book good =
    let w = component_width book.version in
    let fixed = versioned book.version book.scale (elim good.version [ inl one ↦ inl one.0 | inr two ↦ inr two.0 ]) in
    let size = book.d - book.h in
    let m0 : length book.coarse0 * book.h ≤ 1024 * book.h = mul-le (length book.coarse0) book.h 1024 book.h (omega (arith, good.coarse0.count, good.k0)) (omega arith) in
    let m1 : length book.coarse1 * size ≤ 1024 * size = mul-le (length book.coarse1) size 1024 size (omega (arith, good.coarse1.count, good.k1)) (omega arith) in
    let subs = subs_long w fixed.short (component_limit book.version) book.widths (numbered book.widths good.shape).are.each 0 book.lengths book.subs (body_of 0 book good).1.1.1.1.1.0 in
    let words0 = words_long w fixed.short book.h book.coarse0 good.coarse0.sizes in
    let words1 = words_long w fixed.short size book.coarse1 good.coarse1.sizes in
    simp length-append (omega (arith, fixed.magic, fixed.scales, numbers_long w16 (λ n. lit≤ tt) book.lengths, words0, words1, subs, m0, m1, sum_long book.lengths good.length_each, good.length_sum, good.d, good.h))

-- a good book is read again from its spelling
pub read_again : (book : Book) → IsGood book → book_outcome (book_bytes book) ≡ Ok book
read_again book good = outcome_read (book_bytes book) book good (book_short book good) refl
