use Rattle.std.proofs.Common.{◌≤◌, ◌-◌}
use Rattle.std.specs.Vec.{vec_capacity}
use Rattle.radius_scan.proofs.InBlock.{InBlock}
use Rattle.radius_scan.proofs.block.scan_block.Given as goal

abbrev pub invariant-loop-i : goal.invariant-loop-i
invariant-loop-i g l = record {
  within : l.at ≤ 32;
  inside : InBlock g.S.Shape.widths l.tables l.radius l.slots l.marks l.block l.initial.pairs.items l.initial.full l.at l.pairs.items l.full;
  capacity : vec_capacity l.initial.pairs ≤ vec_capacity l.pairs;
}

abbrev pub decreases-loop-i : goal.decreases-loop-i
decreases-loop-i g l = 32 - l.at
