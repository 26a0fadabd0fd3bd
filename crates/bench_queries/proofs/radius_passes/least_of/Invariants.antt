use Rattle.std.proofs.Common.{◌≤◌, length}
use Rattle.cell_store.specs.State.{live_rows}
use Rattle.radius_scan.specs.Parts.{HasRadiusRoom}
use Rattle.bench_queries.proofs.radius_passes.least_of.Given as goal

abbrev pub invariant-loop : goal.invariant-loop
invariant-loop g l = HasRadiusRoom l.engine.book l.scratch × (length (live_rows l.engine.store) ≤ l.scratch.room)
