use Rattle.std.proofs.Common.{ℕ, ◌≡◌, ◌*◌, ◌<◌, get_or, length}
use Rattle.word_columns.specs.Columns.{column_distance}
use Rattle.word_columns.proofs.blocks.long_distances.Given as goal

abbrev pub invariant-loop-b : goal.invariant-loop-b
invariant-loop-b l = (w : ℕ) → w < l.b * 16 → w < length l.initial.into → get_or l.into w 0 ≡ column_distance l.scale l.columns l.x w
