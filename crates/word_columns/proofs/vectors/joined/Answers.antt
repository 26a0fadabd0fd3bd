use Rattle.std.proofs.Common.{ℕ, ◌+◌, ◌*◌, ◌%◌, ◌^◌, get_or, replicate}
use lib.Lanes.{zip2}
use Rattle.word_columns.proofs.Lanes.{lanes_of, splat}
use Rattle.word_columns.proofs.vectors.joined.Goals as goal

abbrev plus : ℕ → ℕ → ℕ
plus a b = (a + b) % 2 ^ 64

abbrev up : ℕ → ℕ → ℕ
up a b = a * 2 ^ b % 2 ^ 64

pub returns : goal.returns
returns c =
    let one = get_or c.args.high in
    lanes_of 16 plus (λ k. up (get_or c.args.high k 0) 8) (λ k. get_or c.args.low k 0) (zip2 up c.widened.result (replicate 16 8)) c.widened-2.result
    (lanes_of 16 up (λ k. get_or c.args.high k 0) (λ _. 8) c.widened.result (replicate 16 8) c.widened.ensures (splat 16 8)) c.widened-2.ensures
