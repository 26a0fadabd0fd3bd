use Rattle.std.proofs.Common.{arith}
use Rattle.coarse_rank.proofs.ranks.number_each.Goals as goal

pub overflow_mul-distance : goal.overflow_mul-distance
overflow_mul-distance c = omega (arith, c.loop-w.invariant.rest c.loop-w.w (omega arith), c.requires.small c.loop-w.w)
