use Rattle.bench_sessions.specs.Staying.{Stays}
use Rattle.bench_sessions.proofs.feed.change.Given as goal

abbrev pub invariant-loop : goal.invariant-loop
invariant-loop g l = Stays l.fn.engine l.engine
