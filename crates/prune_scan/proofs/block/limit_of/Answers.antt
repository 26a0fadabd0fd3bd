use Rattle.std.proofs.Common.{◌<◌, length, refl, arith}
use Rattle.prune_scan.proofs.Standing.{held_enough, k_seen, k_held, theta_above, theta_below, when_pruning}
use Rattle.prune_scan.proofs.block.limit_of.Goals as goal

pub threshold-requires-clause-above : goal.threshold-requires-clause-above
threshold-requires-clause-above g c =
    let s = c.requires.standing.stands in
    let le = k_seen _ _ _ _ _ _ _ _ s (held_enough _ _ (c.in-Some.ensures.none.1)) in
    omega (arith, theta_above _ _ _ _ _ _ _ _ s le, c.in-Some.ensures.of_all _ s.held)

pub threshold-requires-clause-below : goal.threshold-requires-clause-below
threshold-requires-clause-below g c =
    let s = c.requires.standing.stands in
    let le = k_seen _ _ _ _ _ _ _ _ s (held_enough _ _ (c.in-Some.ensures.none.1)) in
    omega (arith, theta_below _ _ _ _ _ _ _ _ s le, c.in-Some.ensures.of_all _ s.held)

pub returns-in-Some : goal.returns-in-Some
returns-in-Some g c = record { theta = λ _ pairs held. c.in-Some.ensures.of_all pairs held; most = λ _. c.threshold.ensures.steps }

pub returns-in-None : goal.returns-in-None
returns-in-None g c =
    let s = c.requires.standing.stands in
    let few : length c.args.best.now.pairs < c.args.best.now.k = c.in-None.ensures.none.0 refl in
    record {
      theta = λ is. absurd (omega (arith, few, k_held _ _ _ _ _ _ _ _ s (when_pruning _ _ _ _ _ _ _ _ s is)));
      most = λ is. absurd (omega (arith, few, k_held _ _ _ _ _ _ _ _ s (when_pruning _ _ _ _ _ _ _ _ s is)));
    }
