use Rattle.std.proofs.Common.{◌≡◌, ◌∙◌, ℕ, List, Some, Ok, refl, sym, ap, subst}
use Rattle.std.specs.Prelude.{OnOk, Result}
use Rattle.adc_ports.specs.Files.{Files}
use Rattle.cell_store.specs.State.{live_rows}
use Rattle.id_filter.specs.Ranges.{pairs_of}
use Rattle.index_file.specs.Reading.{Indexed}
use Rattle.play_script.specs.declared.Role.TheVariants as role
use Rattle.adc_inputs.specs.declared.stop.InputError.{InputError}
use Rattle.adc_inputs.specs.Inputs.{IsCheckOf}
use Rattle.adc_program.specs.declared.searcher.Asking.{Asking}
use Rattle.adc_program.specs.Allows.{allowed_by}
use Rattle.adc_program.specs.Asked.{indexed, questions_of}
use Rattle.adc_program.specs.Outputs.{Output}
use Rattle.adc_program.specs.Searches.{asked_output}
use Rattle.adc_program.specs.Steps.{Makes, counts_wanted}
use Rattle.adc_program.specs.Work.{Works}
use Rattle.adc_program.proofs.AllowTexts.{allowed_out}
use Rattle.adc_program.proofs.Filing.{makes_stop, makes_memory}
use Rattle.adc_program.proofs.Outcomes.{checked_at}
use Rattle.adc_program.proofs.SearchTexts.{asked_output_is}
use Rattle.adc_program.proofs.Faults.{well_of}
use Rattle.adc_program.proofs.allows.search_by.Goals as goal

pub returns-in-Err-clause-makes : goal.returns-in-Err-clause-makes
returns-in-Err-clause-makes g c = makes_stop c.args.job.now.out.now c.in-Err.stop c.in-Err.ensures.reads (λ files error told e. e)

pub returns-in_default-clause-makes : goal.returns-in_default-clause-makes
returns-in_default-clause-makes g c = makes_memory c.args.job.now.out.now (well_of c.in-Ok.ensures.reads)

pub write_among-requires-clause-check : goal.write_among-requires-clause-check
write_among-requires-clause-check g c = λ files told.
    subst (λ (a : Asking). IsCheckOf files a.queries.role a.queries.name.now a.queries.checked.d a.queries.checked) (sym c.in-Ok-new.ensures.asking)
    (checked_at files role.Queries c.args.job.now.queries.now _ _ _ (sym c.in-Ok.ensures.size) (c.in-Ok.ensures.reads.found files (sym c.in-Ok.ensures.reads.only.files ∙ told)).0)

pub returns-clause-makes : goal.returns-clause-makes
returns-clause-makes g c =
    let job = c.args.job.now in
    let index : Indexed = record { book = c.args.index.book; rows = live_rows c.args.index.store } in
    let made = c.in-Ok-new.searcher in
    let e = c.in-Ok-new.ensures.asking in
    let out : made.asking.out.now ≡ job.out.now = ap (λ (a : Asking). a.out.now) e in
    let is : (files : Files) → (g.H.Shelf.state c.args.shelf.now).files ≡ Some files → allowed_by files job.queries.now job.k job.wanted job.allow.now job.out.now index
    ≡ Ok (asked_output made.asking.out.now (indexed made.engine) (questions_of files made.asking (pairs_of c.in-Ok.opened.1)) made.asking.queries.checked.rows c.allowed_done-last.result) = (λ files told.
    allowed_out files job.queries.now job.k job.wanted job.allow.now job.out.now index c.in-Ok.opened.0 made.asking made.engine (pairs_of c.in-Ok.opened.1) (pairs_of c.in-Ok.opened.1) c.allowed_done-last.result
    (c.in-Ok.ensures.reads.found files told).0 c.in-Ok.ensures.size
    (c.in-Ok.ensures.reads.found files told).1
    (ap (λ (a : Asking). a.queries.role) e) (ap (λ (a : Asking). a.queries.name.now) e) (ap (λ (a : Asking). a.queries.checked) e) (ap (λ (a : Asking). a.k) e) (ap (λ (a : Asking). a.wanted) e) out
    (ap indexed (c.in-Ok-new.ensures.engine ∙ c.from_parts-engine.ensures)) refl c.allowed_done-last.ensures) in
    subst (λ (n : List ℕ). Makes (Some n) c.write_among.result (λ files. allowed_by files job.queries.now job.k job.wanted job.allow.now job.out.now index) (g.H.Shelf.state c.args.shelf.now) (g.H.Shelf.state c.write_among.new.shelf) (g.K.Sink.state c.args.out.now) (g.K.Sink.state c.write_among.new.out)) out
    (c.write_among.ensures.makes _ _ (well_of c.in-Ok.ensures.reads) is)

pub returns-clause-works : goal.returns-clause-works
returns-clause-works g c = λ files told.
    let job = c.args.job.now in
    let index : Indexed = record { book = c.args.index.book; rows = live_rows c.args.index.store } in
    let made = c.in-Ok-new.searcher in
    let e = c.in-Ok-new.ensures.asking in
    let is : allowed_by files job.queries.now job.k job.wanted job.allow.now job.out.now index
    ≡ Ok (asked_output made.asking.out.now (indexed made.engine) (questions_of files made.asking (pairs_of c.in-Ok.opened.1)) made.asking.queries.checked.rows c.allowed_done-last.result) =
    allowed_out files job.queries.now job.k job.wanted job.allow.now job.out.now index c.in-Ok.opened.0 made.asking made.engine (pairs_of c.in-Ok.opened.1) (pairs_of c.in-Ok.opened.1) c.allowed_done-last.result
    (c.in-Ok.ensures.reads.found files told).0 c.in-Ok.ensures.size
    (c.in-Ok.ensures.reads.found files told).1
    (ap (λ (a : Asking). a.queries.role) e) (ap (λ (a : Asking). a.queries.name.now) e) (ap (λ (a : Asking). a.queries.checked) e) (ap (λ (a : Asking). a.k) e) (ap (λ (a : Asking). a.wanted) e) (ap (λ (a : Asking). a.out.now) e)
    (ap indexed (c.in-Ok-new.ensures.engine ∙ c.from_parts-engine.ensures)) refl c.allowed_done-last.ensures in
    subst (λ (w : Result Output InputError). OnOk c.write_among.result (Works (counts_wanted w) c.args.meters.now c.write_among.new.meters)) (sym is)
    (subst (λ (o : Output). OnOk c.write_among.result (Works o.queries c.args.meters.now c.write_among.new.meters)) (sym (asked_output_is made.asking.out.now (indexed made.engine) (questions_of files made.asking (pairs_of c.in-Ok.opened.1)) made.asking.queries.checked.rows c.allowed_done-last.result))
    (c.write_among.ensures.works files (c.in-Ok.ensures.reads.only.files ∙ told)))
