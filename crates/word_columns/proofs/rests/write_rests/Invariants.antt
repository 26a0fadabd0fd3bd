use Rattle.std.proofs.Common.{ℕ, ◌≡◌, ◌*◌, ◌<◌, get_or, length}
use Rattle.word_columns.specs.Left.{column_rest}
use Rattle.word_columns.proofs.rests.write_rests.Given as goal

abbrev pub invariant-loop-b : goal.invariant-loop-b
invariant-loop-b l = (w : ℕ) → w < l.b * 16 → w < length l.initial.into → get_or l.into w 0 ≡ column_rest l.scale l.columns l.x l.coarse w
