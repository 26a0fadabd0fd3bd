use Rattle.std.proofs.Common.{◌≤◌, Ok, length, map, flat_map}
use Rattle.std.specs.Option.{ForSome}
use Rattle.book_model.specs.Sums.{numbers_below}
use Rattle.cell_store.specs.State.{live_rows}
use Rattle.query_engine.specs.State.{rows_of}
use Rattle.radius_scan.specs.Parts.{HasRadiusRoom}
use Rattle.adc_program.specs.Asking.{rows_in}
use Rattle.adc_program.specs.Radii.{lines_of_query, counts_of_query}
use Rattle.adc_program.specs.Steps.{Plays}
use Rattle.adc_program.specs.Work.{Works, RiseLittle}
use Rattle.adc_program.proofs.radii.write_queries.Given as goal

-- the lines of the queries so far, and their work
abbrev pub invariant-loop-number : goal.invariant-loop-number
invariant-loop-number g l = record {
  within : l.number ≤ l.asked.queries.checked.rows;
  room : HasRadiusRoom l.asked.engine.book l.scratch;
  rows : length (live_rows l.asked.engine.store) ≤ l.scratch.room;
  plays : Plays (Ok tt) (λ files. Ok (flat_map (lines_of_query l.asked.engine.book (rows_of l.asked.engine) l.asked.radius l.asked.wanted (rows_in files l.asked.queries)) (numbers_below l.number)))
      (g.H.Shelf.state l.initial.shelf) (g.H.Shelf.state l.shelf) (g.K.Sink.state l.initial.out) (g.K.Sink.state l.out);
  little : RiseLittle l.number l.asked.engine.store l.asked.engine.store l.initial.meters l.meters;
  works : ForSome (g.H.Shelf.state l.initial.shelf).files (λ files. Works (map (counts_of_query l.asked.engine.book (rows_of l.asked.engine) l.asked.radius l.asked.wanted (rows_in files l.asked.queries)) (numbers_below l.number)) l.initial.meters l.meters);
}
