use Rattle.std.proofs.Common.{arith}
use Rattle.std.proofs.Math.Pow.{pow_mono}
use Rattle.lane_kernels.proofs.Lanes.{take_of_splat}
use Rattle.lane_kernels.proofs.table.SplitTable.zero.Goals as goal

pub returns-clause-entries : goal.returns-clause-entries
returns-clause-entries c = take_of_splat _ 256 0 (pow_mono {i = c.args.width} {j = 8} (omega arith))
