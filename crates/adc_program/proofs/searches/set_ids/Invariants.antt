use Rattle.std.proofs.Common.{◌≡◌, ◌≤◌, length, take}
use Rattle.flat_truth.specs.Flat.{padded}
use Rattle.adc_program.proofs.IdRows.{ids_of}
use Rattle.adc_program.proofs.searches.set_ids.Given as goal

-- the places so far are set
abbrev pub invariant-loop-n : goal.invariant-loop-n
invariant-loop-n l = record {
  within : l.n ≤ length l.row;
  same : take l.n l.row ≡ take l.n (padded (length l.initial.row) (ids_of l.hits));
}
