use Rattle.std.proofs.Common.{ℕ, ◌≡◌, ◌+◌, ◌*◌, ◌%◌, ◌^◌, ◌<◌, get_or, replicate, ap, ◌∙◌, arith}
use lib.Lanes.{zip2, chunk}
use Rattle.std.proofs.lemmas.Simd.{get_or-chunk, length-chunk}
use Rattle.word_columns.specs.Least.{key_at}
use Rattle.word_columns.proofs.Lanes.{lanes_of, same, splat, other, firsts, counting}
use Rattle.word_columns.proofs.least.keys.Goals as goal

abbrev plus : ℕ → ℕ → ℕ
plus a b = (a + b) % 2 ^ 64

abbrev up : ℕ → ℕ → ℕ
up a b = a * 2 ^ b % 2 ^ 64

one : (d at k : ℕ) → d < 2 ^ 53 → at < 1024 → k < 16 → plus (up d 10) (plus at k) ≡ d * 1024 + (at + k)
one d at k small few h = omega arith

pub returns : goal.returns
returns c =
    let ds = c.args.distances.now in
    let at = c.args.at in
    let v = chunk at 16 ds in
    let shifted = zip2 up v (replicate 16 10) in
    let places = zip2 plus (replicate 16 at) firsts in
    other 16 (λ k. plus (up (get_or v k 0) 10) (plus at k)) (λ k. key_at ds (at + k)) (zip2 plus shifted places)
    (λ k h. ap (λ d. plus (up d 10) (plus at k)) (get_or-chunk at 16 ds k 0 h) ∙ one (get_or ds (at + k) 0) at k (c.requires.small (at + k)) c.requires.few h)
    (lanes_of 16 plus (λ k. up (get_or v k 0) 10) (λ k. plus at k) shifted places
    (lanes_of 16 up (λ k. get_or v k 0) (λ _. 10) v (replicate 16 10) (same 16 v (length-chunk at 16 ds c.requires.room)) (splat 16 10))
    (lanes_of 16 plus (λ _. at) (λ k. k) (replicate 16 at) firsts (splat 16 at) counting))
