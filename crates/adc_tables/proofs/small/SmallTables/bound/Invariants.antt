use Rattle.std.proofs.Common.{◌≡◌, ℕ, ◌<◌, List, length, get_or, replicate}
use Rattle.adc_tables.proofs.small.SmallTables.bound.Given as goal

abbrev pub invariant-loop-w : goal.invariant-loop-w
invariant-loop-w g l = record {
  count : length l.words ≡ 32;
  done : (k : ℕ) (d : List ℕ) → k < l.w → get_or l.words k d ≡ replicate 32 (get_or l.code k 0);
}
