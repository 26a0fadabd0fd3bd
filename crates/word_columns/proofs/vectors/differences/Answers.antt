use Rattle.std.proofs.Common.{ℕ, ◌≡◌, ◌+◌, ◌-◌, ◌*◌, ◌%◌, ◌^◌, ◌<◌, ◌≤◌, get_or, replicate, ap, ◌∙◌, arith}
use lib.Lanes.{zip2}
use Rattle.word_columns.proofs.Lanes.{lanes_of, same, splat, other}
use Rattle.word_columns.proofs.vectors.differences.Goals as goal

abbrev minus : ℕ → ℕ → ℕ
minus a b = (a + (2 ^ 64 - b)) % 2 ^ 64

abbrev plus : ℕ → ℕ → ℕ
plus a b = (a + b) % 2 ^ 64

abbrev up : ℕ → ℕ → ℕ
up a b = a * 2 ^ b % 2 ^ 64

one : (b n m : ℕ) → b < 2 ^ 48 → n < 2 ^ 48 → m ≤ b + n → minus (plus b n) (m % 2 ^ 64) ≡ b + n - m
one b n m hb hn le = omega arith

pub returns : goal.returns
returns c =
    let b = c.args.base in
    let ns = c.args.norms in
    let ds = c.args.dots in
    let s = c.from.result + 1 in
    let is : s ≡ c.args.scale + 1 = omega (arith, c.from.ensures) in
    let sums = zip2 plus (replicate 16 b) ns in
    let shifted = zip2 up ds (replicate 16 s) in
    other 16 (λ k. minus (plus b (get_or ns k 0)) (up (get_or ds k 0) s)) (λ k. b + get_or ns k 0 - get_or ds k 0 * 2 ^ (c.args.scale + 1)) (zip2 minus sums shifted)
    (λ k h. ap (λ t. minus (plus b (get_or ns k 0)) (up (get_or ds k 0) t)) is ∙ one b (get_or ns k 0) (get_or ds k 0 * 2 ^ (c.args.scale + 1)) c.requires.base (c.requires.norms k h) (c.requires.enough k h))
    (lanes_of 16 minus (λ k. plus b (get_or ns k 0)) (λ k. up (get_or ds k 0) s) sums shifted
    (lanes_of 16 plus (λ _. b) (λ k. get_or ns k 0) (replicate 16 b) ns (splat 16 b) (same 16 ns c.fits-norms.0))
    (lanes_of 16 up (λ k. get_or ds k 0) (λ _. s) ds (replicate 16 s) (same 16 ds c.fits-dots.0) (splat 16 s)))
