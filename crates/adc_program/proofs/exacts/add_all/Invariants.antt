use Rattle.std.proofs.Common.{◌≤◌, [], Ok}
use Rattle.adc_ports.specs.States.{SinkState, IsThere}
use Rattle.adc_program.specs.Asking.{rows_in}
use Rattle.adc_program.specs.Exacts.{nearest_below}
use Rattle.adc_program.specs.Rowing.{Adds}
use Rattle.adc_program.proofs.exacts.add_all.Given as goal

-- the rows of the queries so far are added
abbrev pub invariant-loop-number : goal.invariant-loop-number
invariant-loop-number g l = record {
  within : l.number ≤ l.asked.queries.checked.rows;
  there : IsThere (g.H.Shelf.state l.shelf) l.asked.out.now;
  adds : (text : SinkState) → Adds l.asked.out.now (Ok tt) (λ files. []) (λ files. nearest_below (rows_in files l.asked.base) (rows_in files l.asked.queries) l.asked.k l.number) (g.H.Shelf.state l.initial.shelf) (g.H.Shelf.state l.shelf) text text;
}
