use Rattle.lane_kernels.proofs.Lanes.{doubled}
use Rattle.lane_kernels.proofs.parts.twice.Goals as goal

pub returns : goal.returns
returns c = doubled c.args.table c.fits-table.0
