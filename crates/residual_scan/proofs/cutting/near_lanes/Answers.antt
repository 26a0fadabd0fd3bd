use Rattle.std.proofs.Common.{length, refl, ap, arith}
use Rattle.residual_scan.proofs.Cuts.{length-least}
use Rattle.residual_scan.proofs.cutting.near_lanes.Goals as goal

pub returns-in-None : goal.returns-in-None
returns-in-None c = record {
  early = λ early i lt. c.first_lanes-in-None.ensures.set i lt;
  late = λ late seen held long i lt. absurd (omega (arith, c.in-None.ensures.none.0 refl, ap length held, length-least c.args.best.now.k seen, long));
}
