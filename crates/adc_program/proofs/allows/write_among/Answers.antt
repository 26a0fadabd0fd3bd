use Rattle.std.proofs.Common.{ℕ, List, Ok, ◌∙◌, sym, ap, subst}
use Rattle.std.specs.Prelude.{OnOk}
use Rattle.adc_program.specs.Asked.{indexed, questions_of}
use Rattle.adc_program.specs.Searches.{counts_below, asked_output}
use Rattle.adc_program.specs.Work.{Works}
use Rattle.adc_program.proofs.allows.write_among.Goals as goal

pub returns-clause-makes : goal.returns-clause-makes
returns-clause-makes g c = λ before wanted only is.
    let s = c.args.searcher.now in
    c.write.ensures.makes before wanted only (λ files told.
    is files told ∙ ap (λ (r : List (ℕ × ℕ)). Ok (asked_output s.asking.out.now (indexed s.engine) (questions_of files s.asking r) s.asking.queries.checked.rows c.args.last.now)) (sym c.new-filter.ensures.ranges))

pub returns-clause-works : goal.returns-clause-works
returns-clause-works g c = λ files told.
    let s = c.args.searcher.now in
    subst (λ (r : List (ℕ × ℕ)). OnOk c.write.result (Works (counts_below (indexed s.engine) (questions_of files s.asking r) s.asking.queries.checked.rows) c.args.meters.now c.write.new.meters))
    c.new-filter.ensures.ranges (c.write.ensures.works files told)
