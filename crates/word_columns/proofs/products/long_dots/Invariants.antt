use Rattle.std.proofs.Common.{◌*◌, get_or}
use Rattle.book_model.specs.Sums.{sum_below}
use Rattle.word_columns.specs.Lanes.{HasLanes}
use Rattle.word_columns.specs.Columns.{component}
use Rattle.word_columns.proofs.products.long_dots.Given as goal

abbrev pub invariant-loop-c : goal.invariant-loop-c
invariant-loop-c l = HasLanes 16 l.sum (λ k. sum_below (256 * l.c) (λ i. get_or l.x i 0 * component l.columns l.at k i))
