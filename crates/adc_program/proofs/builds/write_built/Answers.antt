use Rattle.std.proofs.Common.{◌≡◌, ◌∙◌, ℕ, ◌*◌, Ok, refl, sym, ap, ap₂}
use Rattle.book_model.specs.Book.{Book}
use Rattle.cell_store.specs.State.{Store, live_rows, used_count}
use Rattle.play_script.specs.declared.Role.TheVariants as role
use Rattle.play_script.specs.Texts.{build_done}
use Rattle.query_engine.specs.State.{rows_of}
use Rattle.adc_inputs.specs.Inputs.{rows_held}
use Rattle.adc_program.specs.Builds.{with_index}
use Rattle.adc_program.specs.Rows.{cell_count}
use Rattle.adc_program.proofs.BuildTexts.{built_is}
use Rattle.adc_program.proofs.Cells.{cell_count_is}
use Rattle.adc_program.proofs.Faults.{well_on, well_of}
use Rattle.adc_program.proofs.Filing.{makes_stop, makes_memory, makes_after}
use Rattle.adc_program.proofs.builds.write_built.Goals as goal

pub returns-in_default : goal.returns-in_default
returns-in_default g c = record { makes = λ before wanted reads is. makes_memory c.args.name.now reads }

pub returns-in-Err : goal.returns-in-Err
returns-in-Err g c = record {
  makes = λ before wanted reads is. makes_after c.args.name.now _ reads (makes_stop c.args.name.now c.in-Err.stop c.in-Err.ensures.reads (λ files error told e. absurd (cc))) (λ files told. refl);
}

pub returns : goal.returns
returns g c =
    let base = c.args.base.now in
    let engine = c.insert_base.new.engine in
    let line = c.build_done-line.result in
    let same : engine.book ≡ c.args.engine.now.book = c.insert_base.ensures.book in
    let cells : engine.store.cells ≡ c.args.engine.now.book.k0 * c.args.engine.now.book.k1 = c.book.ensures.cells ∙ ap (λ (b : Book). b.k0 * b.k1) same in
    let used : c.used.result ≡ cell_count (c.args.engine.now.book.k0 * c.args.engine.now.book.k1) (rows_of engine) =
    c.used.ensures ∙ ap (λ (s : Store). used_count s) c.store.ensures ∙ cell_count_is engine.store ∙ ap (λ (n : ℕ). cell_count n (rows_of engine)) cells in
    record {
      makes = λ before wanted reads is. c.write_index.ensures.makes before wanted (well_on _ _ _ reads (well_of c.in-Ok-insert_base.ensures.reads)) (λ files told.
          let held = rows_held files base.role base.name.now base.checked.d in
          let told1 = reads.only.files ∙ told in
          is files told
          ∙ ap Ok (built_is c.args.name.now c.args.engine.now.book held line (rows_of engine) (c.in-Ok-insert_base.ensures.reads.found files told1) (c.build_done-line.ensures ∙ ap₂ build_done (c.requires.check files told1).rows used)
          ∙ ap₂ (λ (b : Book) (s : Store). with_index role.Index c.args.name.now line b (live_rows s)) (sym (c.book.ensures.value ∙ same)) (sym c.store-2.ensures)));
    }
