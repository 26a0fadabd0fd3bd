use Rattle.std.proofs.Common.{◌≡◌, ℕ, ◌+◌, ◌*◌, ◌<◌, get_or, length}
use Rattle.code_assign.proofs.Codes.{field}
use Rattle.code_assign.proofs.code_word.Given as goal

abbrev pub invariant-loop-f : goal.invariant-loop-f
invariant-loop-f g l = record {
  long : length l.fields ≡ 4;
  done : (n : ℕ) → n < l.f → get_or l.fields n 0 ≡ field l.book l.vector (l.w * length l.book.widths + n);
}
