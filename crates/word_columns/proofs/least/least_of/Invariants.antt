use Rattle.std.proofs.Common.{◌≡◌, ℕ, ◌<◌, ◌≤◌, get_or, length}
use Rattle.word_columns.proofs.least.least_of.Given as goal

abbrev pub invariant-loop-number : goal.invariant-loop-number
invariant-loop-number l = record {
  least : (k : ℕ) → k < l.number-index → l.least ≤ get_or l.numbers k 0;
  one : (k : ℕ) × (k < length l.numbers) × (l.least ≡ get_or l.numbers k 0);
}
