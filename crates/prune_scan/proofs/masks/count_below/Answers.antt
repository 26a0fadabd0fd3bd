use Rattle.std.proofs.Common.{ℕ, ◌-◌, ap, ◌∙◌, arith}
use lib.Bits.{bit_and}
use lib.Count.{ones}
use Rattle.std.proofs.lemmas.Nat.{and_mask, one_shl, pow_pos}
use Rattle.prune_scan.proofs.MaskLemmas.{ones_below}
use Rattle.prune_scan.proofs.masks.count_below.Goals as goal

pub overflow_sub-below : goal.overflow_sub-below
overflow_sub-below c = omega (arith, one_shl c.args.end 64 (omega arith), pow_pos c.args.end)

pub returns : goal.returns
returns c widths cell slots codes =
    let marks = c.args.marks in
    ap (λ (n : ℕ). ones (bit_and marks (n - 1))) (one_shl c.args.end 64 (omega arith))
    ∙ ap ones (and_mask marks c.args.end) ∙ ones_below widths cell slots codes marks c.args.end
