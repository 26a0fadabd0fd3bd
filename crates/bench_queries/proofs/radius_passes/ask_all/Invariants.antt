use Rattle.std.proofs.Common.{◌≤◌, length}
use Rattle.cell_store.specs.State.{live_rows}
use Rattle.radius_scan.specs.Parts.{HasRadiusRoom}
use Rattle.bench_queries.proofs.radius_passes.ask_all.Given as goal

abbrev pub invariant-loop-row : goal.invariant-loop-row
invariant-loop-row g l =
    (goal.iterator-loop-row g).can_next l.row-iterator × (goal.iterator-loop-row g).is_finite l.row-iterator
    × HasRadiusRoom l.engine.book l.scratch × (length (live_rows l.engine.store) ≤ l.scratch.room)
