use Rattle.std.proofs.Common.{◌≡◌, ◌*◌, ◌≤◌, get_or}
use Rattle.book_model.specs.Sums.{sum_below}
use Rattle.word_columns.specs.Columns.{squared}
use Rattle.word_columns.proofs.products.squares_of.Given as goal

abbrev pub invariant-loop-i : goal.invariant-loop-i
invariant-loop-i l = record {
  total : l.sum ≡ sum_below l.i (λ i. squared (get_or l.x i 0));
  few : l.sum ≤ l.i * 65025;
}
