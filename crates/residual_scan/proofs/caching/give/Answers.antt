-- The slot used longest ago stands in the cache, so that a put of it succeeds.
use Rattle.std.proofs.Common.{sym, nat_eq}
use Rattle.std.specs.Prelude.{IsSome}
use Rattle.std.specs.Map.{lookup}
use Rattle.residual_scan.proofs.Slots.{found_last}
use Rattle.residual_scan.proofs.caching.give.Goals as goal

pub unreachable-requires-in-Err : goal.unreachable-requires-in-Err
unreachable-requires-in-Err c =
    let there : IsSome (lookup (nat_eq c.in-Some.slot.now) c.args.slots.now.entries) = found_last c.args.slots.now.entries c.in-Some.slot.now c.in-Some.field-0-1.now c.requires.distinct c.requires.some (sym c.in-Some.ensures) in
    let bad = c.in-Err.ensures.succeeds there in
    cc
