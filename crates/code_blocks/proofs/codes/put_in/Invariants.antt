use Rattle.code_blocks.proofs.Words.{◌≡◌, ◌+◌, ◌<◌, ◌≤◌, ℕ, [], slice_index, slice_index_or, slice_set}
use Rattle.code_blocks.proofs.codes.put_in.Given as goal

abbrev pub invariant-loop-w : goal.invariant-loop-w
invariant-loop-w l = record {
  done : (w : ℕ) → w < l.w → slice_index_or l.lanes (l.first + w) [] ≡ slice_set (slice_index_or l.fn.lanes (l.first + w) []) l.slot (slice_index l.code w);
  before : (v : ℕ) → v < l.first → slice_index_or l.lanes v [] ≡ slice_index_or l.fn.lanes v [];
  behind : (v : ℕ) → l.first + l.w ≤ v → slice_index_or l.lanes v [] ≡ slice_index_or l.fn.lanes v [];
}
