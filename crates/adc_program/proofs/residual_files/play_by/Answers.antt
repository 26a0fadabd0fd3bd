use Rattle.std.proofs.Common.{◌∙◌, ℕ, ap, sym, subst}
use Rattle.std.specs.Prelude.{OnOk}
use Rattle.adc_ports.proofs.StateLemmas.{reads_none}
use Rattle.book_model.specs.Book.{Book}
use Rattle.residual_scan.specs.State.{State}
use Rattle.adc_program.specs.Plays.{lines_by}
use Rattle.adc_program.specs.Residuals.{by_residuals, residual_counts_by, ResidualWorks}
use Rattle.adc_program.proofs.Playing.{plays_due, plays_as}
use Rattle.adc_program.proofs.ResidualOutcomes.{no_residual, by_residual}
use Rattle.adc_program.proofs.ResidualQueries.{residual_work}
use Rattle.adc_program.proofs.Writing.{on_ok_by}
use Rattle.adc_program.proofs.Faults.{well_none}
use Rattle.adc_program.proofs.residual_files.play_by.Goals as goal

pub returns-in-Err-clause-plays : goal.returns-in-Err-clause-plays
returns-in-Err-clause-plays g c =
    let names = c.args.names.now in
    plays_due _ (well_none _) (λ files told. no_residual files names.base.now names.queries.now names.script.now c.args.book c.in-Err.field-0.at c.in-Err.ensures.fault)

pub returns-clause-plays : goal.returns-clause-plays
returns-clause-plays g c =
    let names = c.args.names.now in
    plays_as c.play_on.result (well_none _) c.play_on.ensures.plays
    (λ files told. by_residual files names.base.now names.queries.now names.script.now c.args.book c.in_default.ensures.none
    ∙ ap (λ (b : Book). lines_by by_residuals files names.base.now names.queries.now names.script.now b) (sym (ap (λ (s : State). s.book) c.new-engine.ensures)))

pub returns-clause-works : goal.returns-clause-works
returns-clause-works g c = λ files told.
    let names = c.args.names.now in
    subst (λ (b : Book). OnOk c.play_on.result (ResidualWorks (residual_counts_by files names.base.now names.queries.now names.script.now c.args.cache b) c.args.meters.now c.play_on.new.meters))
    (ap (λ (s : State). s.book) c.new-engine.ensures)
    (subst (λ (n : ℕ). OnOk c.play_on.result (ResidualWorks (residual_counts_by files names.base.now names.queries.now names.script.now n c.new-engine.result.book) c.args.meters.now c.play_on.new.meters))
    c.in-Ok.ensures.cache
    (on_ok_by c.play_on.result (residual_work _ _ c.args.meters.now c.play_on.new.meters) (c.play_on.ensures.works files told)))
