use Rattle.bench_sessions.specs.Staying.{Stays}
use Rattle.bench_sessions.proofs.feed.insert_all.Given as goal

abbrev pub invariant-loop-row : goal.invariant-loop-row
invariant-loop-row g l =
    (goal.iterator-loop-row g).can_next l.row-iterator × (goal.iterator-loop-row g).is_finite l.row-iterator
    × Stays l.fn.engine l.engine
