use Rattle.std.proofs.Common.{◌≡◌, ◌≤◌, Ok}
use Rattle.std.specs.Option.{ForSome}
use Rattle.adc_ports.specs.States.{IsThere}
use Rattle.adc_program.specs.Asked.{indexed, questions_of}
use Rattle.adc_program.specs.Asking.{rows_in}
use Rattle.adc_program.specs.Reranks.{reranked_below}
use Rattle.adc_program.specs.Rowing.{Adds}
use Rattle.adc_program.specs.Searches.{lines_below, counts_below}
use Rattle.adc_program.specs.Work.{Works, RiseLittle}
use Rattle.adc_program.proofs.reranks.Reranker.answer_all.Given as goal

-- the queries so far are answered, and their work
abbrev pub invariant-loop-number : goal.invariant-loop-number
invariant-loop-number g l = record {
  engine : l.self.searcher.engine ≡ l.initial.self.searcher.engine;
  asking : l.self.searcher.asking ≡ l.initial.self.searcher.asking;
  base : l.self.base ≡ l.initial.self.base;
  k : l.self.k ≡ l.initial.self.k;
  within : l.number ≤ l.initial.self.searcher.asking.queries.checked.rows;
  there : IsThere (g.H.Shelf.state l.shelf) l.initial.self.searcher.asking.out.now;
  adds : Adds l.initial.self.searcher.asking.out.now (Ok tt) (λ files. lines_below (indexed l.initial.self.searcher.engine) (questions_of files l.initial.self.searcher.asking (g.P.IdSelector.ranges l.selector)) l.number)
      (λ files. reranked_below (indexed l.initial.self.searcher.engine) (questions_of files l.initial.self.searcher.asking (g.P.IdSelector.ranges l.selector)) (rows_in files l.initial.self.base) l.initial.self.k l.number) (g.H.Shelf.state l.initial.shelf) (g.H.Shelf.state l.shelf) (g.K.Sink.state l.initial.out) (g.K.Sink.state l.out);
  little : RiseLittle l.number l.initial.self.searcher.engine.store l.initial.self.searcher.engine.store l.initial.meters l.meters;
  works : ForSome (g.H.Shelf.state l.initial.shelf).files (λ files. Works (counts_below (indexed l.initial.self.searcher.engine) (questions_of files l.initial.self.searcher.asking (g.P.IdSelector.ranges l.selector)) l.number) l.initial.meters l.meters);
}
