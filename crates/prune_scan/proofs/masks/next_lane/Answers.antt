use Rattle.std.proofs.Common.{ℕ, ◌-◌, ◌/◌, ◌^◌, ap, ◌∙◌, arith, w64}
use Rattle.std.specs.Int.{bit_at}
use Rattle.std.proofs.lemmas.Nat.Bits.{bit_at-zero, bit_at-trailing_zeros}
use Rattle.prune_scan.proofs.MaskLemmas.{set_after, clear_after}
use Rattle.prune_scan.proofs.masks.next_lane.Goals as goal

pub returns-then-rest-eq0-clause-none : goal.returns-then-rest-eq0-clause-none
returns-then-rest-eq0-clause-none c k le =
    clear_after c.args.mask c.args.at k le (ap (λ (n : ℕ). bit_at n (k - c.args.at)) c.if-rest-eq0.true ∙ bit_at-zero (k - c.args.at))

pub returns-clause-set : goal.returns-clause-set
returns-clause-set c =
    let first = bit_at-trailing_zeros w64 (c.args.mask / 2 ^ c.args.at) (omega arith) (omega arith) in
    set_after c.args.mask c.args.at _ first.1

pub returns-clause-first : goal.returns-clause-first
returns-clause-first c k from lt =
    let first = bit_at-trailing_zeros w64 (c.args.mask / 2 ^ c.args.at) (omega arith) (omega arith) in
    clear_after c.args.mask c.args.at k from (first.2 (k - c.args.at) (omega arith))
