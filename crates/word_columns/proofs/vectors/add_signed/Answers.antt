use Rattle.std.proofs.Common.{ℕ, ◌≡◌, ◌+◌, ◌*◌, ◌%◌, ◌^◌, ◌<◌, get_or, ap, ap₂, ◌∙◌, arith, bit_xor}
use lib.Lanes.{zip2}
use Rattle.word_columns.specs.Columns.{less_half, signed}
use Rattle.word_columns.specs.Lanes.{HasLanes}
use Rattle.word_columns.proofs.Lanes.{lanes_of, other, same, plus, sums_wrap}
use Rattle.word_columns.proofs.vectors.add_signed.Goals as goal

abbrev times : ℕ → ℕ → ℕ
times a b = a * b % 2 ^ 32

pub returns : goal.returns
returns c =
    let s = c.args.sum in
    let w : ℕ → ℕ = λ j. less_half (bit_xor (get_or c.args.turned j 0) 32768) in
    let x : ℕ → ℕ = λ i. signed (get_or c.args.pair i 0) in
    let spread : HasLanes 32 c.lessened-2.result (λ j. x (j % 2)) =
    other 32 (λ k. signed (get_or c.spread_signed.result k 0)) (λ j. x (j % 2)) c.lessened-2.result (λ k h. ap signed (c.spread_signed.ensures.each k h)) c.lessened-2.ensures in
    let p = zip2 times c.lessened.result c.lessened-2.result in
    let each : HasLanes 32 p (λ j. times (w j) (x (j % 2))) = lanes_of 32 times w (λ j. x (j % 2)) c.lessened.result c.lessened-2.result c.lessened.ensures spread in
    let step : (k : ℕ) → k < 16 → plus (get_or s k 0) ((get_or p (2 * k) 0 + get_or p (2 * k + 1) 0) % 4294967296) ≡ (get_or s k 0 + (w (2 * k) * x 0 + w (2 * k + 1) * x 1)) % 4294967296 =
    λ k h.
    ap (λ n. plus (get_or s k 0) (n % 4294967296)) (ap₂ (λ a b. a + b) (each.each (2 * k) (omega arith)) (each.each (2 * k + 1) (omega arith)))
    ∙ sums_wrap (get_or s k 0) (w (2 * k) * x (2 * k % 2)) (w (2 * k + 1) * x ((2 * k + 1) % 2))
    ∙ ap₂ (λ a b. (get_or s k 0 + (w (2 * k) * x a + w (2 * k + 1) * x b)) % 4294967296) {x = 2 * k % 2} {y = 0} (omega arith) (omega arith) in
    other 16 (λ k. plus (get_or s k 0) ((get_or p (2 * k) 0 + get_or p (2 * k + 1) 0) % 4294967296)) (λ k. (get_or s k 0 + (w (2 * k) * x 0 + w (2 * k + 1) * x 1)) % 4294967296)
    (zip2 plus s c.pair_sums.result) step
    (lanes_of 16 plus (λ k. get_or s k 0) (λ k. (get_or p (2 * k) 0 + get_or p (2 * k + 1) 0) % 4294967296) s c.pair_sums.result (same 16 s c.fits-sum.0) c.pair_sums.ensures)
