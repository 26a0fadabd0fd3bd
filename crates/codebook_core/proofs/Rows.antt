-- Lists cut into rows, and the words of sub-quantizers cut from one list.
use Rattle.std.proofs.Common.{◌≡◌, ℕ, zero, suc, ◌+◌, ◌-◌, ◌*◌, ◌^◌, ◌%◌, ◌<◌, ◌≤◌, List, [], ◌∷◌, ◌++◌, length, get_or, take, drop, refl, sym, ap, ◌∙◌, arith, add-zero, sum, drop-drop}
use Rattle.std.specs.List.{AllByRecursion}
use Rattle.std.proofs.Math.Pow.{pow_mono}
use Rattle.std.proofs.Math.Nat.{suc-mul, zero-mul}
use Rattle.std.proofs.lemmas.Nat.{mul-le}
use Rattle.std.proofs.lemmas.List.Sums.{sum_by-cons, sum_by_push}
use Rattle.codebook_core.specs.Starts.{sub_sizes}
use Rattle.codebook_core.specs.View.{rows_of, subs_of}

pub row_at : (n size i : ℕ) (xs : List ℕ) → i < n → get_or (rows_of n size xs) i [] ≡ take size (drop (i * size) xs)
row_at zero size i xs lt = absurd (omega arith)
row_at (suc n) size zero xs lt = rw zero-mul refl
row_at (suc n) size (suc i) xs lt =
    row_at n size i (drop size xs) (omega arith) ∙ ap (λ (ys : List ℕ). take size ys) (drop-drop (i * size) size xs ∙ ap (λ (k : ℕ). drop k xs) (omega (arith, suc-mul i size)))

pub sum_cons : (x : ℕ) (xs : List ℕ) → sum (x ∷ xs) ≡ x + sum xs
sum_cons x xs = sum_by-cons (λ n. n) x xs

pub sub_at : (widths : List ℕ) (j : ℕ) (lengths xs : List ℕ) (k : ℕ) → k < length lengths
    → get_or (subs_of widths j lengths xs) k [] ≡ rows_of (2 ^ get_or widths ((j + k) % length widths) 0) (get_or lengths k 0) (drop (sum (take k (sub_sizes widths j lengths))) xs)
sub_at widths j [] xs k lt = absurd (omega arith)
sub_at widths j (size ∷ sizes) xs zero lt = rw add-zero refl
sub_at widths j (size ∷ sizes) xs (suc k) lt =
    let n = 2 ^ get_or widths (j % length widths) 0 in
    let places : (j + 1) + k ≡ j + suc k = omega arith in
    let later = sub_at widths (j + 1) sizes (drop (n * size) xs) k (omega arith) in
    let cut : drop (sum (take k (sub_sizes widths (j + 1) sizes))) (drop (n * size) xs) ≡ drop (sum (n * size ∷ take k (sub_sizes widths (j + 1) sizes))) xs = drop-drop (sum (take k (sub_sizes widths (j + 1) sizes))) (n * size) xs ∙ ap (λ (m : ℕ). drop m xs) (sym (sum_cons (n * size) (take k (sub_sizes widths (j + 1) sizes)))) in
    later ∙ ap (λ (m : ℕ). rows_of (2 ^ get_or widths (m % length widths) 0) (get_or sizes k 0) (drop (sum (take k (sub_sizes widths (j + 1) sizes))) (drop (n * size) xs))) places
    ∙ ap (λ (ys : List ℕ). rows_of (2 ^ get_or widths ((j + suc k) % length widths) 0) (get_or sizes k 0) ys) cut

-- at each place, and 0 past the end
pub small_widths : (widths : List ℕ) → AllByRecursion (λ width. width ≤ 8) widths → (i : ℕ) → get_or widths i 0 ≤ 8
small_widths [] small i = omega arith
small_widths (w ∷ ws) small zero = small.0
small_widths (w ∷ ws) small (suc i) = small_widths ws small.1 i

pub count_le : (width : ℕ) → width ≤ 8 → 2 ^ width ≤ 256
count_le width le = pow_mono {j = 8} le

pub sizes_le : (widths : List ℕ) (j : ℕ) (lengths : List ℕ) → AllByRecursion (λ width. width ≤ 8) widths → sum (sub_sizes widths j lengths) ≤ 256 * sum lengths
sizes_le widths j [] small = omega arith
sizes_le widths j (size ∷ sizes) small =
    let n = 2 ^ get_or widths (j % length widths) 0 in
    let here : n * size ≤ 256 * size = mul-le n size 256 size (count_le (get_or widths (j % length widths) 0) (small_widths widths small (j % length widths))) (omega arith) in
    omega (arith, here, sizes_le widths (j + 1) sizes small, sum_cons (n * size) (sub_sizes widths (j + 1) sizes), sum_cons size sizes)

pub sum_more : (front : List ℕ) (n rest total : ℕ) → n ≤ rest → sum front + rest ≡ total → sum (front ++ n ∷ []) + (rest - n) ≡ total
sum_more front n rest total le so_far = omega (arith, sum_by_push (λ m. m) front n)
