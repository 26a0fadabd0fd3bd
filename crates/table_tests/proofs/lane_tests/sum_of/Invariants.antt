use Rattle.std.proofs.Common.{◌≡◌, ℕ, ◌%◌, ◌<◌, length, get_or}
use Rattle.lane_kernels.specs.Sums.{width_at}
use Rattle.table_tests.proofs.lane_tests.sum_of.Given as goal

abbrev pub invariant-loop-j : goal.invariant-loop-j
invariant-loop-j g l = let ws = g.S.Shape.widths in (i : ℕ) → i < l.j → width_at l.tables i ≡ get_or ws (i % length ws) 0
