use Rattle.std.proofs.Common.{min}
use Rattle.lane_kernels.specs.Lanes.{HasLanes}
use Rattle.lane_kernels.specs.Sums.{front_sum, lane_words}
use Rattle.lane_kernels.proofs.sums.sum32.Given as goal

abbrev pub invariant-loop-w : goal.invariant-loop-w
invariant-loop-w g l = HasLanes l.sum (λ k. min 255 (front_sum g.S.Shape.widths l.tables (lane_words l.words k) l.w))
