use Rattle.std.proofs.Common.{◌+◌, ◌*◌, ◌%◌, get_or}
use Rattle.book_model.specs.Sums.{sum_below}
use Rattle.word_columns.specs.Lanes.{HasLanes}
use Rattle.word_columns.specs.Columns.{less_half, signed, component}
use Rattle.word_columns.proofs.products.signed_dots.Given as goal

abbrev pub invariant-loop-p : goal.invariant-loop-p
invariant-loop-p l = HasLanes 16 l.sum (λ k. (l.start + sum_below (2 * l.p) (λ i. less_half (component l.columns l.at k i) * signed (get_or l.numbers i 0))) % 4294967296)
