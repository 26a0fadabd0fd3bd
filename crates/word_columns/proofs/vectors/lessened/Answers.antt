use Rattle.std.proofs.Common.{ℕ, ◌+◌, ◌-◌, ◌%◌, ◌^◌, map, get_or, replicate, bit_xor}
use lib.Lanes.{zip2}
use Rattle.word_columns.proofs.Lanes.{lanes_of, mapped, same, splat}
use Rattle.word_columns.proofs.vectors.lessened.Goals as goal

abbrev minus : ℕ → ℕ → ℕ
minus a b = (a + (2 ^ 32 - b)) % 2 ^ 32

pub returns : goal.returns
returns c =
    let t = c.args.turned in
    lanes_of 32 minus (λ k. bit_xor (get_or t k 0) 32768) (λ k. 32768) (zip2 bit_xor (map (λ (a : ℕ). a) t) (replicate 32 32768)) (replicate 32 32768)
    (lanes_of 32 bit_xor (λ k. get_or t k 0) (λ k. 32768) (map (λ (a : ℕ). a) t) (replicate 32 32768) (mapped 32 (λ (a : ℕ). a) (λ k. get_or t k 0) t (same 32 t c.fits-turned.0)) (splat 32 32768))
    (splat 32 32768)
