use Rattle.lane_kernels.proofs.Lanes.{capped}
use Rattle.lane_kernels.proofs.parts.add_capped.Goals as goal

pub returns : goal.returns
returns c = capped c.args.a c.args.b c.fits-a c.fits-b
