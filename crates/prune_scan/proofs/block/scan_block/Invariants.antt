use Rattle.std.proofs.Common.{◌≤◌, ◌-◌}
use Rattle.prune_scan.proofs.InBlock.{InBlock}
use Rattle.prune_scan.proofs.block.scan_block.Given as goal

abbrev pub invariant-loop-i : goal.invariant-loop-i
invariant-loop-i g l = record {
  within : l.at ≤ 32;
  inside : InBlock g.S.Shape.widths l.tables l.slots l.marks l.block l.initial.state l.initial.small l.initial.best l.initial.full l.fn.calls l.at
      (record { state = l.state; small = l.small; best = l.best; full = l.full; calls = l.calls; limit = l.limit; near = l.near });
}

abbrev pub decreases-loop-i : goal.decreases-loop-i
decreases-loop-i g l = 32 - l.at
