use Rattle.std.proofs.Common.{◌≡◌, ℕ, ◌+◌, ◌-◌, ◌≤◌, ◌++◌}
use Rattle.prune_scan.specs.Blocks.{marked_rows}
use Rattle.residual_scan.specs.Cutting.{AreNear, Goes}
use Rattle.residual_scan.proofs.group.scan_group.Given as goal

abbrev pub invariant-loop-i : goal.invariant-loop-i
invariant-loop-i g l = record {
  within : l.at ≤ 32;
  near : AreNear l.bounds l.cut l.best l.near;
  goes : (cell : ℕ) → Goes (l.low.tables ++ l.high.tables) l.cut (marked_rows g.S.Shape.widths cell l.slots l.marks l.block l.at) l.initial.best l.best l.initial.full l.full;
  risen : l.full ≤ l.initial.full + l.at;
  sizes : l.best.k ≡ l.initial.best.k;
  room : l.best.room ≡ l.initial.best.room;
}

abbrev pub decreases-loop-i : goal.decreases-loop-i
decreases-loop-i g l = 32 - l.at
