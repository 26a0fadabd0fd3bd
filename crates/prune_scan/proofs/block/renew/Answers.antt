use Rattle.std.proofs.Common.{◌<◌, length, refl, arith}
use Rattle.prune_scan.proofs.Standing.{held_enough, k_seen, k_held, theta_above, theta_below, when_pruning}
use Rattle.prune_scan.proofs.block.renew.Goals as goal

pub threshold-limit-requires-clause-above : goal.threshold-limit-requires-clause-above
threshold-limit-requires-clause-above g c =
    let s = c.requires.standing.stands in
    let le = k_seen _ _ _ _ _ _ _ _ s (held_enough _ _ (c.in-Some.ensures.none.1)) in
    omega (arith, theta_above _ _ _ _ _ _ _ _ s le, c.in-Some.ensures.of_all _ s.held)

pub threshold-limit-requires-clause-below : goal.threshold-limit-requires-clause-below
threshold-limit-requires-clause-below g c =
    let s = c.requires.standing.stands in
    let le = k_seen _ _ _ _ _ _ _ _ s (held_enough _ _ (c.in-Some.ensures.none.1)) in
    omega (arith, theta_below _ _ _ _ _ _ _ _ s le, c.in-Some.ensures.of_all _ s.held)

pub returns-in_default-clause-limit : goal.returns-in_default-clause-limit
returns-in_default-clause-limit g c =
    let s = c.requires.standing.stands in
    let few : length c.args.best.now.pairs < c.args.best.now.k = c.in_default.ensures.none.0 refl in
    absurd (omega (arith, few, k_held _ _ _ _ _ _ _ _ s (when_pruning _ _ _ _ _ _ _ _ s c.requires.on)))
