use Rattle.std.proofs.Common.{◌+◌, ◌*◌, ◌%◌, get_or}
use Rattle.book_model.specs.Sums.{sum_below}
use Rattle.word_columns.specs.Lanes.{HasLanes}
use Rattle.word_columns.specs.Columns.{less_half, component}
use Rattle.word_columns.proofs.products.dots_two.Given as goal

abbrev pub invariant-loop-p : goal.invariant-loop-p
invariant-loop-p l = record {
  first : HasLanes 16 l.low (λ k. (l.total * 32768 + sum_below (2 * l.p) (λ i. less_half (component l.columns l.at k i) * get_or l.x i 0)) % 4294967296);
  second : HasLanes 16 l.high (λ k. (l.total * 32768 + sum_below (2 * l.p) (λ i. less_half (component l.columns l.next k i) * get_or l.x i 0)) % 4294967296);
}
