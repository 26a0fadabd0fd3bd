use Rattle.std.proofs.Common.{◌≡◌, ◌∙◌, ℕ, List, [], ◌∷◌, Some, Ok, refl, sym, ap, subst}
use Rattle.std.specs.Prelude.{OnOk, Result}
use Rattle.adc_ports.specs.Files.{Files}
use Rattle.cell_store.specs.State.{live_rows}
use Rattle.index_file.specs.Reading.{Indexed}
use Rattle.adc_inputs.specs.declared.stop.InputError.{InputError}
use Rattle.adc_program.specs.declared.searcher.Asking.{Asking}
use Rattle.adc_program.specs.Asked.{indexed, questions_of}
use Rattle.adc_program.specs.Asking.{rows_in, IsChecked}
use Rattle.adc_program.specs.Opened.{AreChecked}
use Rattle.adc_program.specs.Outputs.{Output}
use Rattle.adc_program.specs.Reranks.{reranked, base_and_queries, reranked_by}
use Rattle.adc_program.specs.Steps.{Makes, counts_wanted}
use Rattle.adc_program.specs.Work.{Works}
use Rattle.adc_program.proofs.Filing.{makes_stop, makes_memory}
use Rattle.adc_program.proofs.RerankTexts.{inputs_at, reranked_out, reranked_parts}
use Rattle.adc_program.proofs.Faults.{well_of}
use Rattle.adc_program.proofs.reranks.rerank_by.Goals as goal

abbrev all_ids : List (ℕ × ℕ)
all_ids = (0, 2147483647) ∷ []

pub returns-in-Err-clause-makes : goal.returns-in-Err-clause-makes
returns-in-Err-clause-makes g c =
    let job = c.args.job.now in
    let index : Indexed = record { book = c.args.index.book; rows = live_rows c.args.index.store } in
    makes_stop job.out.now c.in-Err.stop c.in-Err.ensures.reads (λ files error told e. inputs_at files job.base.now job.queries.now job.found job.k job.wanted job.out.now index error
    (ap (base_and_queries files job.base.now job.queries.now) (sym c.d.ensures.value) ∙ e))

pub returns-in_default-clause-makes : goal.returns-in_default-clause-makes
returns-in_default-clause-makes g c = makes_memory c.args.job.now.out.now (well_of c.in-Ok.ensures.reads)

pub write-requires-clause-base : goal.write-requires-clause-base
write-requires-clause-base g c = λ files told. subst (IsChecked files) (sym c.in-Ok-new.ensures.base) (c.in-Ok.ensures.reads.found files (sym c.in-Ok.ensures.reads.only.files ∙ told)).base_is

pub write-requires-clause-queries : goal.write-requires-clause-queries
write-requires-clause-queries g c = λ files told. subst (λ (a : Asking). IsChecked files a.queries) (sym c.in-Ok-new.ensures.asking) (c.in-Ok.ensures.reads.found files (sym c.in-Ok.ensures.reads.only.files ∙ told)).queries_are

pub returns-clause-makes : goal.returns-clause-makes
returns-clause-makes g c =
    let job = c.args.job.now in
    let index : Indexed = record { book = c.args.index.book; rows = live_rows c.args.index.store } in
    let made = c.in-Ok-new.reranker in
    let asking = made.searcher.asking in
    let e = c.in-Ok-new.ensures.asking in
    let out : asking.out.now ≡ job.out.now = ap (λ (a : Asking). a.out.now) e in
    let is : (files : Files) → (g.H.Shelf.state c.args.shelf.now).files ≡ Some files → reranked_by files job.base.now job.queries.now job.found job.k job.wanted job.out.now index
    ≡ Ok (reranked asking.out.now (indexed made.searcher.engine) (questions_of files asking all_ids) (rows_in files made.base) made.k asking.queries.checked.rows) = (λ files told.
    reranked_out files job.base.now job.queries.now job.found job.k job.wanted job.out.now index c.in-Ok.inputs asking made.searcher.engine made.base made.k all_ids
    (subst (λ (d : ℕ). AreChecked files (base_and_queries files job.base.now job.queries.now d) c.in-Ok.inputs.base c.in-Ok.inputs.queries) c.d.ensures.value (c.in-Ok.ensures.reads.found files told))
    (ap (λ (a : Asking). a.queries) e) (ap (λ (a : Asking). a.k) e) (ap (λ (a : Asking). a.wanted) e) out (ap indexed (c.in-Ok-new.ensures.engine ∙ c.from_parts-engine.ensures)) refl
    c.in-Ok-new.ensures.base c.in-Ok-new.ensures.k) in
    subst (λ (n : List ℕ). Makes (Some n) c.write.result (λ files. reranked_by files job.base.now job.queries.now job.found job.k job.wanted job.out.now index) (g.H.Shelf.state c.args.shelf.now) (g.H.Shelf.state c.write.new.shelf) (g.K.Sink.state c.args.out.now) (g.K.Sink.state c.write.new.out)) out
    (c.write.ensures.makes _ _ (well_of c.in-Ok.ensures.reads) is)

pub returns-clause-works : goal.returns-clause-works
returns-clause-works g c = λ files told.
    let job = c.args.job.now in
    let index : Indexed = record { book = c.args.index.book; rows = live_rows c.args.index.store } in
    let made = c.in-Ok-new.reranker in
    let asking = made.searcher.asking in
    let e = c.in-Ok-new.ensures.asking in
    let is : reranked_by files job.base.now job.queries.now job.found job.k job.wanted job.out.now index
    ≡ Ok (reranked asking.out.now (indexed made.searcher.engine) (questions_of files asking all_ids) (rows_in files made.base) made.k asking.queries.checked.rows) =
    reranked_out files job.base.now job.queries.now job.found job.k job.wanted job.out.now index c.in-Ok.inputs asking made.searcher.engine made.base made.k all_ids
    (subst (λ (d : ℕ). AreChecked files (base_and_queries files job.base.now job.queries.now d) c.in-Ok.inputs.base c.in-Ok.inputs.queries) c.d.ensures.value (c.in-Ok.ensures.reads.found files told))
    (ap (λ (a : Asking). a.queries) e) (ap (λ (a : Asking). a.k) e) (ap (λ (a : Asking). a.wanted) e) (ap (λ (a : Asking). a.out.now) e) (ap indexed (c.in-Ok-new.ensures.engine ∙ c.from_parts-engine.ensures)) refl
    c.in-Ok-new.ensures.base c.in-Ok-new.ensures.k in
    subst (λ (w : Result Output InputError). OnOk c.write.result (Works (counts_wanted w) c.args.meters.now c.write.new.meters)) (sym is)
    (subst (λ (o : Output). OnOk c.write.result (Works o.queries c.args.meters.now c.write.new.meters)) (sym (reranked_parts asking.out.now (indexed made.searcher.engine) (questions_of files asking all_ids) (rows_in files made.base) made.k asking.queries.checked.rows))
    (c.write.ensures.works files (c.in-Ok.ensures.reads.only.files ∙ told)))
