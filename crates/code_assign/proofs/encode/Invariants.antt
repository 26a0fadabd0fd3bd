use Rattle.std.proofs.Common.{◌≡◌, ℕ, ◌<◌, get_or}
use Rattle.book_model.specs.Rows.{code_of}
use Rattle.shape_core.specs.Word.{words_of}
use Rattle.code_assign.proofs.encode.Given as goal

abbrev pub invariant-loop-w : goal.invariant-loop-w
invariant-loop-w g l = (k : ℕ) → k < l.w → get_or l.into k 0 ≡ get_or (words_of g.S.Shape.widths l.book.g (code_of l.book l.vector)) k 0
