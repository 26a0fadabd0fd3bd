-- Numbers of one byte and of two that are taken all at once.
use Rattle.std.proofs.Common.{◌≡◌, ℕ, ◌+◌, ◌-◌, ◌*◌, ◌≤◌, List, length, take, drop, map, Ok, refl, ap, ◌∙◌, arith}
use Rattle.std.specs.Int.{w8, w16, from_le_bytes}
use Rattle.std.proofs.lemmas.List.{get_or-take, get_or-drop, drop-take, take-take, length-take, length-drop, map-id, drop-drop}
use Rattle.adc_ports.specs.Reading.{numbers_at}
use Rattle.byteorder.specs.Endian.{little_number, IsRead}
use Rattle.file_fields.proofs.Many.{numbers_are}

-- the number of the first two bytes, as byteorder tells it
pub pair_is : (xs : List ℕ) → little_number 2 xs ≡ from_le_bytes w16 (take 2 xs)
pair_is xs = rw (get_or-take 2 xs 0 0 (omega arith), get_or-take 2 xs 1 0 (omega arith)) (omega arith)

pub bytes_are : (bytes xs : List ℕ) (at n : ℕ) → at + n ≤ length bytes → xs ≡ map (λ b. b) (take n (drop at bytes)) → numbers_at w8 n bytes at ≡ Ok (xs, at + n)
bytes_are bytes xs at n le mapped =
    let is : xs ≡ take n (drop at bytes) = mapped ∙ map-id (take n (drop at bytes)) in
    let long : length xs ≡ n = omega (arith, ap length is, length-take n (drop at bytes), length-drop at bytes) in
    let e : length xs * 1 ≡ n = omega (arith, long) in
    let all = numbers_are w8 xs bytes at (omega (arith, long)) (λ k lt.
    let place : at + k * 1 + 0 ≡ at + k = omega arith in
    rw (is, get_or-take n (drop at bytes) k 0 (omega (arith, lt, long)), get_or-drop at bytes k 0, get_or-take 1 (drop (at + k * 1) bytes) 0 0 (omega arith), get_or-drop (at + k * 1) bytes 0 0, place) refl) in
    rw (e, long) at all

pub pairs_are : (bytes src xs : List ℕ) (at n : ℕ) → IsRead little_number 2 src xs → src ≡ take (n * 2) (drop at bytes) → at + n * 2 ≤ length bytes → length xs ≡ n → numbers_at w16 n bytes at ≡ Ok (xs, at + n * 2)
pairs_are bytes src xs at n read is le long =
    let all = numbers_are w16 xs bytes at (omega (arith, long)) (λ k lt.
    let m : ℕ = n * 2 - 2 * k in
    let e : n * 2 ≡ 2 * k + m = omega (arith, lt, long) in
    let place : at + 2 * k ≡ at + k * 2 = omega arith in
    let same : take 2 (drop (2 * k) (take (n * 2) (drop at bytes))) ≡ take 2 (drop (at + k * 2) bytes) =
    ap (λ (j : ℕ). take 2 (drop (2 * k) (take j (drop at bytes)))) e ∙ ap (λ (t : List ℕ). take 2 t) (drop-take (2 * k) m (drop at bytes)) ∙ take-take 2 m (drop (2 * k) (drop at bytes)) (omega (arith, lt, long))
    ∙ ap (λ (t : List ℕ). take 2 t) (drop-drop (2 * k) at bytes ∙ ap (λ (j : ℕ). drop j bytes) place) in
    read k lt ∙ pair_is (drop (2 * k) src) ∙ ap (λ (t : List ℕ). from_le_bytes w16 (take 2 (drop (2 * k) t))) is ∙ ap (from_le_bytes w16) same) in
    rw long at all
