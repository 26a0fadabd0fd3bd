use Rattle.std.proofs.Common.{◌≡◌, ℕ, ◌<◌, ◌≤◌, ◌+◌, false}
use Rattle.std.specs.Prelude.{◌⊎◌}
use Rattle.book_model.specs.Book.{start_of, length_of}
use Rattle.half_tables.specs.Residual.{crosses}
use Rattle.half_tables.proofs.checking.check.Given as goal

abbrev pub invariant-loop-j : goal.invariant-loop-j
invariant-loop-j g l = record {
  none : (i : ℕ) → i < l.j → crosses l.book i ≡ false;
  sides : (i : ℕ) → i < l.j → (start_of l.book i + length_of l.book i ≤ l.book.h) ⊎ (l.book.h ≤ start_of l.book i);
}
