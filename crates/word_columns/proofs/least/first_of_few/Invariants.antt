use Rattle.std.proofs.Common.{◌≡◌, ℕ, ◌<◌, ◌≤◌, get_or}
use Rattle.word_columns.proofs.least.first_of_few.Given as goal

abbrev pub invariant-loop-w : goal.invariant-loop-w
invariant-loop-w l = record {
  within : l.best < l.w;
  value : l.least ≡ get_or l.distances l.best 0;
  least : (k : ℕ) → k < l.w → l.least ≤ get_or l.distances k 0;
  before : (k : ℕ) → k < l.best → l.least < get_or l.distances k 0;
}
