use Rattle.std.proofs.Common.{◌≡◌, ◌≤◌, length, take, map}
use Rattle.book_model.specs.Sums.{numbers_below}
use Rattle.adc_program.specs.Nearest.{row_numbers, number_of}
use Rattle.adc_program.proofs.exacts.set_numbers.Given as goal

-- the places so far are set
abbrev pub invariant-loop-n : goal.invariant-loop-n
invariant-loop-n l = record {
  within : l.n ≤ length l.row;
  same : take l.n l.row ≡ map (number_of (row_numbers l.pairs)) (numbers_below l.n);
}
