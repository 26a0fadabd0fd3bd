use Rattle.code_blocks.proofs.Words.{◌≡◌, replicate}
use Rattle.code_blocks.proofs.zeros.Given as goal

abbrev pub invariant-loop-i : goal.invariant-loop-i
invariant-loop-i l = l.lanes.items ≡ replicate l.i (replicate 32 0)
