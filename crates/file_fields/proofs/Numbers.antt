-- Numbers as fields.
use Rattle.std.proofs.Common.{◌≡◌, ℕ, ◌+◌, ◌^◌, ◌<◌, ◌≤◌, Bool, true, false, ◌||◌, ltb, List, [], ◌∷◌, ◌++◌, length, take, drop, Ok, refl, sym, ap, subst, ◌∙◌, arith, inl, inr}
use Rattle.std.specs.List.{flat_map}
use Rattle.std.specs.Int.{Width, w8, w16, w32, byte_len, from_le_bytes, to_le_bytes}
use Rattle.std.proofs.lemmas.Bool.{cases_lt, ltb-false, lt-ltb, le-ltb}
use Rattle.std.proofs.lemmas.List.{take_at, drop-drop, take-append-drop, length-append, length-take, length-drop, get_or-drop, get_or-take, get_or_past}
use Rattle.std.proofs.lemmas.Nat.{le_bytes_2, le_bytes_4, from_le_bytes-to_le_bytes_2, from_le_bytes-to_le_bytes_4}
use Rattle.adc_ports.specs.declared.What.{What}
use Rattle.adc_ports.specs.Reading.{number_at, allowed_at, limited_at, numbers_at, bytes_at}
use Rattle.file_fields.specs.Fields.{IsBytes, Spells, Tells, IsField, AreMany}
use Rattle.file_fields.proofs.Steps.{spells_within, tells_bind, tells_unless, tells_unless_above}
use Rattle.file_fields.proofs.Closure.{many_field, allowed_field, tested_field}

pub bytes-drop : (n : ℕ) (bytes : List ℕ) → IsBytes bytes → IsBytes (drop n bytes)
bytes-drop n bytes are i = rw get_or-drop (are (n + i))

pub bytes-take : (n : ℕ) (bytes : List ℕ) → IsBytes bytes → IsBytes (take n bytes)
bytes-take n bytes are i = elim (cases_lt i n) [
  | inl lt ↦ rw (get_or-take n bytes i 0 lt) (are i)
  | inr le ↦ rw (get_or_past (take n bytes) i 0 (omega (arith, length-take n bytes))) (omega arith)
]

-- the next n bytes stand there
pub stretch_spells : (bytes : List ℕ) (at n : ℕ) → at + n ≤ length bytes → Spells bytes at (take n (drop at bytes)) (at + n)
stretch_spells bytes at n le = record {
  ends = omega (arith, length-take n (drop at bytes), length-drop at bytes);
  part = sym (take-append-drop n (drop at bytes)) ∙ ap (λ (t : List ℕ). take n (drop at bytes) ++ t) (drop-drop n at bytes);
}

-- a text that is the next bytes stands there
pub text_spells : (bytes : List ℕ) (at : ℕ) (text : List ℕ) → take (length text) (drop at bytes) ≡ text → Spells bytes at text (at + length text)
text_spells bytes at text e = record {
  ends = refl;
  part = sym (take-append-drop (length text) (drop at bytes)) ∙ ap (λ (t : List ℕ). t ++ drop (length text) (drop at bytes)) e ∙ ap (λ (t : List ℕ). text ++ t) (drop-drop (length text) at bytes);
}

-- a text that stands there is the next bytes
pub spells_stretch : {bytes : List ℕ} {at next : ℕ} {text : List ℕ} → Spells bytes at text next → take (length text) (drop at bytes) ≡ text
spells_stretch {bytes} {at} {next} {text} p = ap (λ (t : List ℕ). take (length text) t) p.part ∙ take_at text (drop next bytes) (length text) refl

-- a text of one byte or more that stands there fits
pub spells_fits : {bytes : List ℕ} {at next : ℕ} {text : List ℕ} → 0 < length text → Spells bytes at text next → at + length text ≤ length bytes
spells_fits {bytes} {at} {next} {text} some p = omega (arith, p.ends, ap length p.part, length-append text (drop next bytes), length-drop at bytes, length-drop next bytes)

-- a width whose numbers are spelled by as many bytes, one spelling a number
pub record IsWide (w : Width) (limit : ℕ) : Type 0 where
  pub some : 0 < byte_len w
  pub len : (n : ℕ) → length (to_le_bytes w n) ≡ byte_len w
  pub back : (bytes : List ℕ) → length bytes ≡ byte_len w → IsBytes bytes → to_le_bytes w (from_le_bytes w bytes) ≡ bytes
  pub again : (n : ℕ) → n < limit → from_le_bytes w (to_le_bytes w n) ≡ n
  pub below : (bytes : List ℕ) → IsBytes bytes → from_le_bytes w bytes < limit

one_byte : (bytes : List ℕ) → length bytes ≡ 1 → IsBytes bytes → to_le_bytes w8 (from_le_bytes w8 bytes) ≡ bytes
one_byte [] e are = absurd (omega arith)
one_byte (b ∷ []) e are = ap (λ (n : ℕ). n ∷ []) (omega (arith, are 0))
one_byte (b ∷ c ∷ bs) e are = absurd (omega arith)

pub wide8 : IsWide w8 256
wide8 = record { some = omega arith; len = λ n. refl; back = one_byte; again = λ n lt. omega arith; below = λ bytes are. are 0 }

pub wide16 : IsWide w16 65536
wide16 = record {
  some = omega arith;
  len = λ n. refl;
  back = λ bytes len are. le_bytes_2 bytes _ len are refl;
  again = λ n lt. from_le_bytes-to_le_bytes_2 n lt;
  below = λ bytes are. omega (arith, are 0, are 1);
}

pub wide32 : IsWide w32 (2 ^ 32)
wide32 = record {
  some = omega arith;
  len = λ n. refl;
  back = λ bytes len are. le_bytes_4 bytes _ len are refl;
  again = λ n lt. from_le_bytes-to_le_bytes_4 n lt;
  below = λ bytes are. omega (arith, are 0, are 1, are 2, are 3);
}

none_of : (a b : Bool) → (a || b) ≡ false → (a ≡ false) × (b ≡ false)
none_of true b e = absurd cc
none_of false b e = (refl, e)

module _ (w : Width) (limit : ℕ) (wide : IsWide w limit) where
  number_tells : (bytes : List ℕ) (at : ℕ) → IsBytes bytes → at ≤ length bytes → Tells (to_le_bytes w) (λ n. n < limit) bytes at (number_at w bytes at)
  unfolding number_at
  number_tells bytes at are le =
      let there = take (byte_len w) (drop at bytes) in
      let fits = bytes-take (byte_len w) (drop at bytes) (bytes-drop at bytes are) in
      tells_unless (to_le_bytes w) (λ n. n < limit) bytes at (ltb (length bytes) (at + byte_len w)) (Ok (from_le_bytes w there, at + byte_len w)) le (λ whole.
      let long : at + byte_len w ≤ length bytes = ltb-false _ _ whole in
      let text : to_le_bytes w (from_le_bytes w there) ≡ there = wide.back there (omega (arith, length-take (byte_len w) (drop at bytes), length-drop at bytes)) fits in
      let S : List ℕ → Type 0 = λ t. Spells bytes at t (at + byte_len w) in
      (wide.below there fits, subst S (sym text) (stretch_spells bytes at (byte_len w) long)))

  number_read : (bytes : List ℕ) (at next n : ℕ) → at ≤ length bytes → n < limit → Spells bytes at (to_le_bytes w n) next → number_at w bytes at ≡ Ok (n, next)
  unfolding number_at
  number_read bytes at next n le lt p =
      let long : at + length (to_le_bytes w n) ≤ length bytes = spells_fits (omega (arith, wide.some, wide.len n)) p in
      let text : take (byte_len w) (drop at bytes) ≡ to_le_bytes w n = ap (λ (k : ℕ). take k (drop at bytes)) (sym (wide.len n)) ∙ spells_stretch p in
      let end : next ≡ at + byte_len w = omega (arith, p.ends, wide.len n) in
      rw (le-ltb (length bytes) (at + byte_len w) (omega (arith, long, wide.len n)), text, wide.again n lt, end) refl

  pub number_field : IsField (number_at w) (to_le_bytes w) (λ n. n < limit)
  number_field = record { tells = number_tells; read = number_read }

  pub numbers_field : (n : ℕ) → IsField (numbers_at w n) (flat_map (to_le_bytes w)) (AreMany n (λ x. x < limit))
  numbers_field n = many_field (numbers_at w) (λ bytes at. refl) (λ m bytes at. refl) number_field n

  module _ (low high : ℕ) (below : high < limit) where
    pub within_field : IsField (allowed_at w low high) (to_le_bytes w) (λ n. (low ≤ n) × (n ≤ high))
    unfolding allowed_at
    within_field = allowed_field
        (λ n is. let tests = none_of (ltb n low) (ltb high n) is.1 in (ltb-false _ _ tests.0, ltb-false _ _ tests.1))
        (λ n is. (omega (arith, is), rw (le-ltb n low is.0, le-ltb high n is.1) refl))
        (tested_field (λ n. ltb n low || ltb high n) number_field)

    limited_tells : (what : What) (bytes : List ℕ) (at : ℕ) → IsBytes bytes → at ≤ length bytes → Tells (to_le_bytes w) (λ n. (low ≤ n) × (n ≤ high)) bytes at (limited_at what w low high bytes at)
    unfolding limited_at
    limited_tells what bytes at are le =
        tells_bind (to_le_bytes w) (λ n. (low ≤ n) × (n ≤ high)) bytes at (to_le_bytes w) (λ n. n < limit) (number_at w bytes at) _ (number_tells bytes at are le) (λ x lt p.
        tells_unless (to_le_bytes w) (λ n. (low ≤ n) × (n ≤ high)) bytes at (ltb x.0 low) _ le (λ least.
        tells_unless_above (to_le_bytes w) (λ n. (low ≤ n) × (n ≤ high)) bytes at (ltb high x.0) what x.0 (Ok x) (λ most. ((ltb-false _ _ least, ltb-false _ _ most), p))))

    limited_read : (what : What) (bytes : List ℕ) (at next n : ℕ) → at ≤ length bytes → (low ≤ n) × (n ≤ high) → Spells bytes at (to_le_bytes w n) next → limited_at what w low high bytes at ≡ Ok (n, next)
    unfolding limited_at
    limited_read what bytes at next n le within p = rw (number_read bytes at next n le (omega arith) p, le-ltb n low within.0, le-ltb high n within.1) refl

    pub limited_field : (what : What) → IsField (limited_at what w low high) (to_le_bytes w) (λ n. (low ≤ n) × (n ≤ high))
    limited_field what = record { tells = limited_tells what; read = limited_read what }

-- so many bytes as they stand
bytes_tells : (n : ℕ) (bytes : List ℕ) (at : ℕ) → IsBytes bytes → at ≤ length bytes → Tells (λ row. row) (λ row. length row ≡ n) bytes at (bytes_at n bytes at)
unfolding bytes_at
bytes_tells n bytes at are le = elim (cases_lt (length bytes) (at + n)) [
  | inl cut ↦ rw (lt-ltb (length bytes) (at + n) cut) (le, omega arith)
  | inr whole ↦ rw (le-ltb (length bytes) (at + n) whole) (omega (arith, length-take n (drop at bytes), length-drop at bytes), stretch_spells bytes at n whole)
]

bytes_read : (n : ℕ) (bytes : List ℕ) (at next : ℕ) (row : List ℕ) → at ≤ length bytes → length row ≡ n → Spells bytes at row next → bytes_at n bytes at ≡ Ok (row, next)
unfolding bytes_at
bytes_read n bytes at next row le long p =
    let ends = spells_within le p in
    let end : next ≡ at + n = omega (arith, p.ends, long) in
    let text : take n (drop at bytes) ≡ row = ap (λ (k : ℕ). take k (drop at bytes)) (sym long) ∙ spells_stretch p in
    rw (le-ltb (length bytes) (at + n) (omega (arith, ends.1)), text, end) refl

pub bytes_field : (n : ℕ) → IsField (bytes_at n) (λ row. row) (λ row. length row ≡ n)
bytes_field n = record { tells = bytes_tells n; read = bytes_read n }
