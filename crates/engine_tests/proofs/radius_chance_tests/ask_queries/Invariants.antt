use Rattle.std.proofs.Common.{◌≡◌}
use Rattle.radius_scan.specs.Parts.{HasRadiusRoom}
use Rattle.engine_tests.proofs.radius_chance_tests.ask_queries.Given as goal

abbrev pub invariant-loop-round : goal.invariant-loop-round
invariant-loop-round g l = record {
  room : HasRadiusRoom l.engine.book l.scratch;
  most : l.scratch.room ≡ 1000;
}
