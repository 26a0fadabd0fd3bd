use Rattle.std.proofs.Common.{◌≡◌, ◌≤◌, take}
use Rattle.std.specs.Option.{ForSome}
use Rattle.flat_truth.specs.Flat.{hits_in}
use Rattle.adc_program.specs.Comparing.{numbers_in}
use Rattle.adc_program.specs.Steps.{ReadsWell}
use Rattle.adc_program.proofs.recalls.count_hits.Given as goal

-- the hits of the rows so far
abbrev pub invariant-loop-number : goal.invariant-loop-number
invariant-loop-number g l = record {
  within : l.number ≤ l.both.found.checked.rows;
  few : l.hits ≤ l.number;
  reads : ReadsWell (g.H.Shelf.state l.initial.shelf) (g.H.Shelf.state l.shelf);
  hits : ForSome (g.H.Shelf.state l.initial.shelf).files (λ files. l.hits ≡ hits_in l.fn.k (take l.number (numbers_in files l.both.found)) (take l.number (numbers_in files l.both.truth)));
}
