use Rattle.std.proofs.Common.{◌≡◌, ◌∙◌, ℕ, List, [], ◌∷◌, Some, Ok, refl, sym, ap, subst}
use Rattle.std.specs.Prelude.{OnOk, Result}
use Rattle.adc_ports.specs.Files.{Files}
use Rattle.cell_store.specs.State.{live_rows}
use Rattle.index_file.specs.Reading.{Indexed}
use Rattle.play_script.specs.declared.Role.TheVariants as role
use Rattle.adc_inputs.specs.declared.stop.InputError.{InputError}
use Rattle.adc_inputs.specs.Inputs.{IsCheckOf}
use Rattle.adc_program.specs.declared.searcher.Asking.{Asking}
use Rattle.adc_program.specs.Asked.{indexed, questions_of}
use Rattle.adc_program.specs.Outputs.{Output}
use Rattle.adc_program.specs.Searches.{asked_output, searched_by}
use Rattle.adc_program.specs.Steps.{Makes, counts_wanted}
use Rattle.adc_program.specs.Work.{Works}
use Rattle.adc_program.proofs.Filing.{makes_stop, makes_memory}
use Rattle.adc_program.proofs.Outcomes.{checked_at, error_at}
use Rattle.adc_program.proofs.SearchTexts.{searched_at, searched_out, asked_output_is}
use Rattle.adc_program.proofs.Faults.{well_of}
use Rattle.adc_program.proofs.searches.search_by.Goals as goal

abbrev all_ids : List (ℕ × ℕ)
all_ids = (0, 2147483647) ∷ []

pub returns-in-Err-clause-makes : goal.returns-in-Err-clause-makes
returns-in-Err-clause-makes g c =
    let job = c.args.job.now in
    makes_stop job.out.now c.in-Err.stop c.in-Err.ensures.reads
    (λ files error told e. searched_at files job.queries.now job.k job.wanted job.out.now _ error (error_at files role.Queries job.queries.now _ _ error c.d.ensures.value e))

pub returns-in_default-clause-makes : goal.returns-in_default-clause-makes
returns-in_default-clause-makes g c = makes_memory c.args.job.now.out.now (well_of c.in-Ok.ensures.reads)

pub write-requires-clause-check : goal.write-requires-clause-check
write-requires-clause-check g c = λ files told.
    subst (λ (a : Asking). IsCheckOf files a.queries.role a.queries.name.now a.queries.checked.d a.queries.checked) (sym c.in-Ok-new.ensures.asking)
    (checked_at files role.Queries c.args.job.now.queries.now _ _ _ (sym c.in-Ok.ensures.size) (c.in-Ok.ensures.reads.found files (sym c.in-Ok.ensures.reads.only.files ∙ told)))

pub returns-clause-makes : goal.returns-clause-makes
returns-clause-makes g c =
    let job = c.args.job.now in
    let index : Indexed = record { book = c.args.index.book; rows = live_rows c.args.index.store } in
    let made = c.in-Ok-new.searcher in
    let e = c.in-Ok-new.ensures.asking in
    let out : made.asking.out.now ≡ job.out.now = ap (λ (a : Asking). a.out.now) e in
    let is : (files : Files) → (g.H.Shelf.state c.args.shelf.now).files ≡ Some files → searched_by files job.queries.now job.k job.wanted job.out.now index
    ≡ Ok (asked_output made.asking.out.now (indexed made.engine) (questions_of files made.asking all_ids) made.asking.queries.checked.rows c.search_done.result) = (λ files told.
    searched_out files job.queries.now job.k job.wanted job.out.now index c.in-Ok.checked made.asking made.engine all_ids c.search_done.result
    (checked_at files role.Queries job.queries.now _ _ _ c.d.ensures.value (c.in-Ok.ensures.reads.found files told)) (c.in-Ok.ensures.size ∙ c.d.ensures.value)
    (ap (λ (a : Asking). a.queries.role) e) (ap (λ (a : Asking). a.queries.name.now) e) (ap (λ (a : Asking). a.queries.checked) e) (ap (λ (a : Asking). a.k) e) (ap (λ (a : Asking). a.wanted) e) out
    (ap indexed (c.in-Ok-new.ensures.engine ∙ c.from_parts-engine.ensures)) refl c.search_done.ensures) in
    subst (λ (n : List ℕ). Makes (Some n) c.write.result (λ files. searched_by files job.queries.now job.k job.wanted job.out.now index) (g.H.Shelf.state c.args.shelf.now) (g.H.Shelf.state c.write.new.shelf) (g.K.Sink.state c.args.out.now) (g.K.Sink.state c.write.new.out)) out
    (c.write.ensures.makes _ _ (well_of c.in-Ok.ensures.reads) is)

pub returns-clause-works : goal.returns-clause-works
returns-clause-works g c = λ files told.
    let job = c.args.job.now in
    let index : Indexed = record { book = c.args.index.book; rows = live_rows c.args.index.store } in
    let made = c.in-Ok-new.searcher in
    let e = c.in-Ok-new.ensures.asking in
    let is : searched_by files job.queries.now job.k job.wanted job.out.now index
    ≡ Ok (asked_output made.asking.out.now (indexed made.engine) (questions_of files made.asking all_ids) made.asking.queries.checked.rows c.search_done.result) =
    searched_out files job.queries.now job.k job.wanted job.out.now index c.in-Ok.checked made.asking made.engine all_ids c.search_done.result
    (checked_at files role.Queries job.queries.now _ _ _ c.d.ensures.value (c.in-Ok.ensures.reads.found files told)) (c.in-Ok.ensures.size ∙ c.d.ensures.value)
    (ap (λ (a : Asking). a.queries.role) e) (ap (λ (a : Asking). a.queries.name.now) e) (ap (λ (a : Asking). a.queries.checked) e) (ap (λ (a : Asking). a.k) e) (ap (λ (a : Asking). a.wanted) e) (ap (λ (a : Asking). a.out.now) e)
    (ap indexed (c.in-Ok-new.ensures.engine ∙ c.from_parts-engine.ensures)) refl c.search_done.ensures in
    subst (λ (w : Result Output InputError). OnOk c.write.result (Works (counts_wanted w) c.args.meters.now c.write.new.meters)) (sym is)
    (subst (λ (o : Output). OnOk c.write.result (Works o.queries c.args.meters.now c.write.new.meters)) (sym (asked_output_is made.asking.out.now (indexed made.engine) (questions_of files made.asking all_ids) made.asking.queries.checked.rows c.search_done.result))
    (c.write.ensures.works files (c.in-Ok.ensures.reads.only.files ∙ told)))
