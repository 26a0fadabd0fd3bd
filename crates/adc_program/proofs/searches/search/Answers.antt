use Rattle.std.proofs.Common.{◌∙◌, ap, sym, subst}
use Rattle.std.specs.Prelude.{OnOk, Result}
use Rattle.index_file.specs.View.{book_of, store_of, view_index, IsFresh}
use Rattle.index_file.specs.declared.index.AnyIndex.{AnyIndex}
use Rattle.adc_inputs.specs.declared.stop.InputError.{InputError}
use Rattle.adc_program.specs.Outputs.{Output}
use Rattle.adc_program.specs.Searches.{searched_by}
use Rattle.adc_program.specs.Steps.{counts_wanted}
use Rattle.adc_program.specs.Work.{Works}
use Rattle.adc_program.proofs.Filing.{makes_stop, makes_after}
use Rattle.adc_program.proofs.SearchTexts.{search_at, search_by_index}
use Rattle.adc_program.proofs.Faults.{well_of}
use Rattle.adc_program.proofs.searches.search.Goals as goal

pub returns-in-Err-clause-makes : goal.returns-in-Err-clause-makes
returns-in-Err-clause-makes g c =
    let job = c.args.job.now in
    makes_stop job.out.now c.in-Err.stop c.in-Err.ensures.reads (λ files error told e. search_at files job.queries.now job.k job.wanted job.out.now job.index.now error e)

pub search_by-requires-clause-fresh : goal.search_by-requires-clause-fresh
search_by-requires-clause-fresh g c = subst (λ (i : AnyIndex). IsFresh (book_of i) (store_of i)) c.in-F4444.is c.in-Ok.ensures.fresh

pub returns-in-F4444-clause-makes : goal.returns-in-F4444-clause-makes
returns-in-F4444-clause-makes g c =
    let job = c.args.job.now in
    makes_after job.out.now c.search_by.result (well_of c.in-Ok.ensures.reads) c.search_by.ensures.makes
    (λ files told. search_by_index files job.queries.now job.k job.wanted job.out.now job.index.now (view_index c.in-Ok.index) (c.in-Ok.ensures.reads.found files told)
    ∙ ap (λ (i : AnyIndex). searched_by files job.queries.now job.k job.wanted job.out.now (view_index i)) c.in-F4444.is)

pub returns-in-F4444-clause-works : goal.returns-in-F4444-clause-works
returns-in-F4444-clause-works g c = λ files told.
    let job = c.args.job.now in
    subst (λ (w : Result Output InputError). OnOk c.search_by.result (Works (counts_wanted w) c.args.meters.now c.search_by.new.meters))
    (sym (search_by_index files job.queries.now job.k job.wanted job.out.now job.index.now (view_index c.in-Ok.index) (c.in-Ok.ensures.reads.found files told)
    ∙ ap (λ (i : AnyIndex). searched_by files job.queries.now job.k job.wanted job.out.now (view_index i)) c.in-F4444.is))
    (c.search_by.ensures.works files (c.in-Ok.ensures.reads.only.files ∙ told))

pub search_by-requires-in-F555-clause-fresh : goal.search_by-requires-in-F555-clause-fresh
search_by-requires-in-F555-clause-fresh g c = subst (λ (i : AnyIndex). IsFresh (book_of i) (store_of i)) c.in-F555.is c.in-Ok.ensures.fresh

pub returns-in-F555-clause-makes : goal.returns-in-F555-clause-makes
returns-in-F555-clause-makes g c =
    let job = c.args.job.now in
    makes_after job.out.now c.search_by-in-F555.result (well_of c.in-Ok.ensures.reads) c.search_by-in-F555.ensures.makes
    (λ files told. search_by_index files job.queries.now job.k job.wanted job.out.now job.index.now (view_index c.in-Ok.index) (c.in-Ok.ensures.reads.found files told)
    ∙ ap (λ (i : AnyIndex). searched_by files job.queries.now job.k job.wanted job.out.now (view_index i)) c.in-F555.is)

pub returns-in-F555-clause-works : goal.returns-in-F555-clause-works
returns-in-F555-clause-works g c = λ files told.
    let job = c.args.job.now in
    subst (λ (w : Result Output InputError). OnOk c.search_by-in-F555.result (Works (counts_wanted w) c.args.meters.now c.search_by-in-F555.new.meters))
    (sym (search_by_index files job.queries.now job.k job.wanted job.out.now job.index.now (view_index c.in-Ok.index) (c.in-Ok.ensures.reads.found files told)
    ∙ ap (λ (i : AnyIndex). searched_by files job.queries.now job.k job.wanted job.out.now (view_index i)) c.in-F555.is))
    (c.search_by-in-F555.ensures.works files (c.in-Ok.ensures.reads.only.files ∙ told))

pub search_by-requires-in-F664-clause-fresh : goal.search_by-requires-in-F664-clause-fresh
search_by-requires-in-F664-clause-fresh g c = subst (λ (i : AnyIndex). IsFresh (book_of i) (store_of i)) c.in-F664.is c.in-Ok.ensures.fresh

pub returns-in-F664-clause-makes : goal.returns-in-F664-clause-makes
returns-in-F664-clause-makes g c =
    let job = c.args.job.now in
    makes_after job.out.now c.search_by-in-F664.result (well_of c.in-Ok.ensures.reads) c.search_by-in-F664.ensures.makes
    (λ files told. search_by_index files job.queries.now job.k job.wanted job.out.now job.index.now (view_index c.in-Ok.index) (c.in-Ok.ensures.reads.found files told)
    ∙ ap (λ (i : AnyIndex). searched_by files job.queries.now job.k job.wanted job.out.now (view_index i)) c.in-F664.is)

pub returns-in-F664-clause-works : goal.returns-in-F664-clause-works
returns-in-F664-clause-works g c = λ files told.
    let job = c.args.job.now in
    subst (λ (w : Result Output InputError). OnOk c.search_by-in-F664.result (Works (counts_wanted w) c.args.meters.now c.search_by-in-F664.new.meters))
    (sym (search_by_index files job.queries.now job.k job.wanted job.out.now job.index.now (view_index c.in-Ok.index) (c.in-Ok.ensures.reads.found files told)
    ∙ ap (λ (i : AnyIndex). searched_by files job.queries.now job.k job.wanted job.out.now (view_index i)) c.in-F664.is))
    (c.search_by-in-F664.ensures.works files (c.in-Ok.ensures.reads.only.files ∙ told))

pub search_by-requires-in-F88-clause-fresh : goal.search_by-requires-in-F88-clause-fresh
search_by-requires-in-F88-clause-fresh g c = subst (λ (i : AnyIndex). IsFresh (book_of i) (store_of i)) c.in-F88.is c.in-Ok.ensures.fresh

pub returns-in-F88-clause-makes : goal.returns-in-F88-clause-makes
returns-in-F88-clause-makes g c =
    let job = c.args.job.now in
    makes_after job.out.now c.search_by-in-F88.result (well_of c.in-Ok.ensures.reads) c.search_by-in-F88.ensures.makes
    (λ files told. search_by_index files job.queries.now job.k job.wanted job.out.now job.index.now (view_index c.in-Ok.index) (c.in-Ok.ensures.reads.found files told)
    ∙ ap (λ (i : AnyIndex). searched_by files job.queries.now job.k job.wanted job.out.now (view_index i)) c.in-F88.is)

pub returns-in-F88-clause-works : goal.returns-in-F88-clause-works
returns-in-F88-clause-works g c = λ files told.
    let job = c.args.job.now in
    subst (λ (w : Result Output InputError). OnOk c.search_by-in-F88.result (Works (counts_wanted w) c.args.meters.now c.search_by-in-F88.new.meters))
    (sym (search_by_index files job.queries.now job.k job.wanted job.out.now job.index.now (view_index c.in-Ok.index) (c.in-Ok.ensures.reads.found files told)
    ∙ ap (λ (i : AnyIndex). searched_by files job.queries.now job.k job.wanted job.out.now (view_index i)) c.in-F88.is))
    (c.search_by-in-F88.ensures.works files (c.in-Ok.ensures.reads.only.files ∙ told))
