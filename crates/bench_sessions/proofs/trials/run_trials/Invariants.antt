use Rattle.std.proofs.Common.{◌≡◌, []}
use Rattle.bench_sessions.proofs.trials.run_trials.Given as goal

abbrev pub invariant-loop-numbers : goal.invariant-loop-numbers
invariant-loop-numbers g l =
    (goal.iterator-loop-numbers g).can_next l.numbers-iterator × (goal.iterator-loop-numbers g).is_finite l.numbers-iterator
    × (l.engine.store.pins ≡ [])
