use Rattle.bench_sessions.specs.Standing.{AreOpen}
use Rattle.bench_sessions.proofs.sessions.step_all.Given as goal

abbrev pub invariant-loop-place : goal.invariant-loop-place
invariant-loop-place g l = AreOpen g.S.Shape.widths l.engine l.group.stamp l.group.held.items
