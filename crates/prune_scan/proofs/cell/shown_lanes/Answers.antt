use Rattle.std.proofs.Common.{arith}
use Rattle.std.proofs.lemmas.Nat.Bits.{bit_at-zero}
use Rattle.prune_scan.proofs.MaskLemmas.{clear_from}
use Rattle.prune_scan.proofs.cell.shown_lanes.Goals as goal

pub loop-i-init : goal.loop-i-init
loop-i-init g c = record { marks = λ k lt. absurd (omega arith); rest = λ k le. clear_from 0 k (bit_at-zero k) }
