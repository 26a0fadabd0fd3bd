use Rattle.std.proofs.Common.{◌≡◌, ◌≤◌, Ok, map, flat_map}
use Rattle.book_model.specs.Sums.{numbers_below}
use Rattle.query_engine.specs.Parts.{HasRoomFor}
use Rattle.query_engine.specs.State.{rows_of}
use Rattle.adc_program.specs.Samples.{asked_lines, asked_counts}
use Rattle.adc_program.specs.Steps.{Puts}
use Rattle.adc_program.specs.Work.{Works, RiseLittle}
use Rattle.adc_program.proofs.samples.write_queries.Given as goal

-- the lines of the queries so far, and their work
abbrev pub invariant-loop-number : goal.invariant-loop-number
invariant-loop-number g l = record {
  within : l.number ≤ 16;
  room : HasRoomFor l.engine.book l.scratch;
  best : l.scratch.best.room ≡ 1000;
  puts : Puts (Ok tt) (flat_map (asked_lines l.engine.book l.sample (rows_of l.engine)) (numbers_below l.number)) (g.K.Sink.state l.initial.out) (g.K.Sink.state l.out);
  little : RiseLittle l.number l.engine.store l.engine.store l.initial.meters l.meters;
  works : Works (map (asked_counts l.engine.book l.sample (rows_of l.engine)) (numbers_below l.number)) l.initial.meters l.meters;
}
