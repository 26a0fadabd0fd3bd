use Rattle.std.proofs.Common.{◌≡◌, ℕ, ◌+◌, ◌<◌, get_or, length}
use Rattle.word_columns.proofs.blocks.write_front.Given as goal

abbrev pub invariant-loop-k : goal.invariant-loop-k
invariant-loop-k l = record {
  long : length l.into ≡ length l.initial.into;
  lanes : (j : ℕ) → j < l.k → get_or l.into (l.at + j) 0 ≡ get_or l.lanes j 0;
  before : (w : ℕ) → w < l.at → get_or l.into w 0 ≡ get_or l.initial.into w 0;
}
