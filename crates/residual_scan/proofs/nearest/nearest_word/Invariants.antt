use Rattle.std.proofs.Common.{◌≡◌}
use Rattle.half_tables.specs.Residual.{residual_word}
use Rattle.residual_scan.proofs.Best.{IsBest}
use Rattle.residual_scan.proofs.nearest.nearest_word.Given as goal

abbrev pub invariant-loop-i : goal.invariant-loop-i
invariant-loop-i l = record {
  distance : l.least ≡ residual_word l.scale l.words l.x l.coarse l.best;
  best : IsBest (residual_word l.scale l.words l.x l.coarse) l.i l.best;
}
