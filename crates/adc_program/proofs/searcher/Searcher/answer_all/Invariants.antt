use Rattle.std.proofs.Common.{◌≡◌, ◌≤◌, Ok}
use Rattle.std.specs.Option.{ForSome}
use Rattle.adc_ports.specs.States.{IsThere}
use Rattle.adc_program.specs.Asked.{indexed, questions_of}
use Rattle.adc_program.specs.Rowing.{Adds}
use Rattle.adc_program.specs.Searches.{lines_below, bytes_below, counts_below}
use Rattle.adc_program.specs.Work.{Works, RiseLittle}
use Rattle.adc_program.proofs.searcher.Searcher.answer_all.Given as goal

-- the queries so far are answered, and their work
abbrev pub invariant-loop-number : goal.invariant-loop-number
invariant-loop-number g l = record {
  engine : l.self.engine ≡ l.initial.self.engine;
  asking : l.self.asking ≡ l.initial.self.asking;
  within : l.number ≤ l.initial.self.asking.queries.checked.rows;
  there : IsThere (g.H.Shelf.state l.shelf) l.initial.self.asking.out.now;
  adds : Adds l.initial.self.asking.out.now (Ok tt) (λ files. lines_below (indexed l.initial.self.engine) (questions_of files l.initial.self.asking (g.P.IdSelector.ranges l.selector)) l.number)
      (λ files. bytes_below (indexed l.initial.self.engine) (questions_of files l.initial.self.asking (g.P.IdSelector.ranges l.selector)) l.number) (g.H.Shelf.state l.initial.shelf) (g.H.Shelf.state l.shelf) (g.K.Sink.state l.initial.out) (g.K.Sink.state l.out);
  little : RiseLittle l.number l.initial.self.engine.store l.initial.self.engine.store l.initial.meters l.meters;
  works : ForSome (g.H.Shelf.state l.initial.shelf).files (λ files. Works (counts_below (indexed l.initial.self.engine) (questions_of files l.initial.self.asking (g.P.IdSelector.ranges l.selector)) l.number) l.initial.meters l.meters);
}
