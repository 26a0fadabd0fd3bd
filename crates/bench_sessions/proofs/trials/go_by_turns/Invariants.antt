use Rattle.bench_sessions.specs.Standing.{AreOpen}
use Rattle.bench_sessions.proofs.trials.go_by_turns.Given as goal

abbrev pub invariant-loop : goal.invariant-loop
invariant-loop g l = AreOpen g.S.Shape.widths l.engine l.group.stamp l.group.held.items
