use Rattle.std.proofs.Common.{vec_len}
use Rattle.bench_sessions.specs.Standing.{AreOpen}
use Rattle.bench_sessions.proofs.sessions.end_all.Given as goal

abbrev pub invariant-loop-held : goal.invariant-loop-held
invariant-loop-held g l = AreOpen g.S.Shape.widths l.engine l.group.stamp l.group.held.items

abbrev pub decreases-loop-held : goal.decreases-loop-held
decreases-loop-held g l = vec_len l.group.held
