use Rattle.lane_kernels.proofs.Lanes.{chosen}
use Rattle.lane_kernels.proofs.parts.choose.Goals as goal

pub returns : goal.returns
returns c = chosen c.args.v c.args.a c.args.b c.args.shift c.fits-v.0 c.fits-a.0 c.fits-b.0
