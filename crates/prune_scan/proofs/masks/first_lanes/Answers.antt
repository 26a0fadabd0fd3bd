use Rattle.std.proofs.Common.{ℕ, ◌-◌, ap, ◌∙◌, arith}
use Rattle.std.specs.Int.{bit_at}
use Rattle.std.proofs.lemmas.Nat.{one_shl, pow_pos}
use Rattle.std.proofs.lemmas.Nat.Bits.{bit_at_ones, bit_at_ones_above}
use Rattle.prune_scan.proofs.MaskLemmas.{set_from, clear_from}
use Rattle.prune_scan.proofs.masks.first_lanes.Goals as goal

pub overflow_sub-result : goal.overflow_sub-result
overflow_sub-result c = omega (arith, one_shl c.args.count 64 (omega arith), pow_pos c.args.count)

pub returns-clause-set : goal.returns-clause-set
returns-clause-set c i lt =
    set_from _ i (ap (λ (n : ℕ). bit_at (n - 1) i) (one_shl c.args.count 64 (omega arith)) ∙ bit_at_ones c.args.count i lt)

pub returns-clause-rest : goal.returns-clause-rest
returns-clause-rest c i le =
    clear_from _ i (ap (λ (n : ℕ). bit_at (n - 1) i) (one_shl c.args.count 64 (omega arith)) ∙ bit_at_ones_above c.args.count i le)
