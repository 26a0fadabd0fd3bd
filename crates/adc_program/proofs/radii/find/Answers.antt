use Rattle.std.proofs.Common.{◌≡◌, ◌∙◌, ℕ, List, [], slice_index_or, ap, subst, arith}
use Rattle.radius_scan.specs.Report.{Finds}
use Rattle.adc_program.specs.Asking.{rows_in}
use Rattle.adc_program.specs.Radii.{radius_asked}
use Rattle.adc_program.proofs.Working.{little_none}
use Rattle.adc_program.proofs.WithinRadius.{few_found, little_radius}
use Rattle.adc_program.proofs.radii.find.Goals as goal

pub returns-in-Err-clause-little : goal.returns-in-Err-clause-little
returns-in-Err-clause-little g c = little_none c.args.asked.now.engine.store c.args.asked.now.engine.store c.args.meters.now (omega arith)

pub returns-in-Err-clause-found : goal.returns-in-Err-clause-found
returns-in-Err-clause-found g c = record { only = c.in-Err.ensures.reads.only; counts = tt; cause = c.in-Err.ensures.reads.cause; found = λ files told. c.in-Err.ensures.reads.found files told }

pub returns-in-Ok-clause-few : goal.returns-in-Ok-clause-few
returns-in-Ok-clause-few g c = few_found _ _ _ _ _ _ _ _ c.ask.ensures.finds

pub returns-in-Ok-clause-little : goal.returns-in-Ok-clause-little
returns-in-Ok-clause-little g c = little_radius _ _ _ _ _ _ _ _ c.ask.ensures.finds

pub returns-in-Ok-clause-found : goal.returns-in-Ok-clause-found
returns-in-Ok-clause-found g c = record {
  only = c.in-Ok.ensures.reads.only;
  counts = c.in-Ok.ensures.reads.counts;
  cause = tt;
  found = λ files told.
      let asked = c.args.asked.now in
      let from : c.from.result ≡ c.args.number = c.from.ensures in
      subst (λ (row : List ℕ). Finds asked.engine.book (radius_asked asked.wanted row) asked.radius asked.engine.store c.ask.new.scratch.pairs c.ask.result c.args.meters.now c.ask.new.meters)
      (c.in-Ok.ensures.reads.found files told ∙ ap (λ (n : ℕ). slice_index_or (rows_in files asked.queries) n []) from) c.ask.ensures.finds;
}
