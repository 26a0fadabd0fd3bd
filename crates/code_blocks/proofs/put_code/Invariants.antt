use Rattle.code_blocks.proofs.Words.{◌≡◌, ◌<◌, ◌≤◌, ℕ, [], slice_index, slice_index_or, slice_set}
use Rattle.code_blocks.proofs.put_code.Given as goal

abbrev pub invariant-loop-w : goal.invariant-loop-w
invariant-loop-w l = record {
  done : (w : ℕ) → w < l.w → slice_index_or l.lanes w [] ≡ slice_set (slice_index_or l.fn.lanes w []) l.slot (slice_index l.code w);
  rest : (w : ℕ) → l.w ≤ w → slice_index_or l.lanes w [] ≡ slice_index_or l.fn.lanes w [];
}
