use Rattle.std.proofs.Common.{◌≡◌, ◌∙◌, ℕ, Ok, sym, ap, ap₂}
use Rattle.book_model.specs.Book.{Book}
use Rattle.play_script.specs.declared.Role.TheVariants as role
use Rattle.query_engine.specs.State.{State}
use Rattle.adc_inputs.specs.Inputs.{rows_held, IsCheckOf}
use Rattle.adc_program.specs.Builds.{built}
use Rattle.adc_program.proofs.BuildTexts.{built_at, built_of}
use Rattle.adc_program.proofs.Filing.{makes_stop}
use Rattle.adc_program.proofs.Outcomes.{checked_at, error_at}
use Rattle.adc_program.proofs.Faults.{well_of}
use Rattle.adc_program.proofs.builds.build_by.Goals as goal

pub returns-in-Err : goal.returns-in-Err
returns-in-Err g c = record {
  makes = makes_stop c.args.job.now.index.now c.in-Err.stop c.in-Err.ensures.reads
      (λ files error told e. built_at files c.args.job.now.base.now c.args.job.now.index.now c.args.book error (error_at files role.Base c.args.job.now.base.now _ _ error c.d.ensures.value e));
}

pub write_built-requires-clause-check : goal.write_built-requires-clause-check
write_built-requires-clause-check g c = λ files told.
    checked_at files role.Base c.args.job.now.base.now _ _ _ (sym c.in-Ok.ensures.size) (c.in-Ok.ensures.reads.found files (sym c.in-Ok.ensures.reads.only.files ∙ told))

pub returns : goal.returns
returns g c =
    let job = c.args.job.now in
    let began : c.new-engine.result.book ≡ c.args.book = ap (λ (s : State). s.book) c.new-engine.ensures in
    record {
      makes = c.write_built.ensures.makes _ _ (well_of c.in-Ok.ensures.reads) (λ files told.
          let check : IsCheckOf files role.Base job.base.now c.args.book.d c.in-Ok.checked = checked_at files role.Base job.base.now _ _ _ c.d.ensures.value (c.in-Ok.ensures.reads.found files told) in
          built_of files job.base.now job.index.now c.args.book _ check.input
          ∙ ap₂ (λ (b : Book) (n : ℕ). Ok (built job.index.now b (rows_held files role.Base job.base.now n))) (sym began) (sym (c.in-Ok.ensures.size ∙ c.d.ensures.value)));
    }
