use Rattle.std.proofs.Common.{◌≡◌}
use Rattle.residual_scan.specs.Report.{HasRoomFor}
use Rattle.bench_queries.proofs.residual.ask_rounds.Given as goal

abbrev pub invariant-loop : goal.invariant-loop
invariant-loop g l = HasRoomFor l.engine.book l.scratch × (l.scratch.best.room ≡ 10)
