use Rattle.std.proofs.Common.{◌≡◌}
use Rattle.query_engine.specs.Parts.{HasRoomFor}
use Rattle.bench_queries.proofs.engine.ask_all.Given as goal

abbrev pub invariant-loop-row : goal.invariant-loop-row
invariant-loop-row g l =
    (goal.iterator-loop-row g).can_next l.row-iterator × (goal.iterator-loop-row g).is_finite l.row-iterator
    × HasRoomFor l.engine.book l.scratch × (l.scratch.best.room ≡ 10)
