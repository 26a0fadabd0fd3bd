use Rattle.code_blocks.proofs.Words.{◌≡◌, ◌<◌, ℕ, [], slice_index, slice_index_or}
use Rattle.code_blocks.proofs.copy_code.Given as goal

abbrev pub invariant-loop-w : goal.invariant-loop-w
invariant-loop-w l = (w : ℕ) → w < l.w → slice_index l.into w ≡ slice_index (slice_index_or l.lanes w []) l.slot
