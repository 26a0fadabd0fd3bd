use Rattle.std.proofs.Common.{◌∙◌, List, Ok, ap, sym, subst}
use Rattle.std.specs.Prelude.{OnOk}
use Rattle.index_file.specs.View.{view_index}
use Rattle.index_file.specs.declared.index.AnyIndex.{AnyIndex}
use Rattle.play_script.specs.Play.{Counts}
use Rattle.adc_program.specs.Work.{Works}
use Rattle.adc_program.proofs.Playing.{plays_stop, plays_as}
use Rattle.adc_program.proofs.WithinRadius.{at_index, by_index, counts_by_index}
use Rattle.adc_program.proofs.Faults.{well_of}
use Rattle.adc_program.proofs.radii.print_radius.Goals as goal

pub returns-in-Err-clause-plays : goal.returns-in-Err-clause-plays
returns-in-Err-clause-plays g c =
    let job = c.args.job.now in
    plays_stop c.in-Err.stop c.in-Err.ensures.reads (λ files error told e. at_index files job.index.now job.queries.now job.radius job.wanted error e)

pub returns-in-F4444-clause-plays : goal.returns-in-F4444-clause-plays
returns-in-F4444-clause-plays g c =
    let job = c.args.job.now in
    plays_as c.print_by.result (well_of c.in-Ok.ensures.reads) c.print_by.ensures.plays (λ files told.
    by_index files job.index.now job.queries.now job.radius job.wanted _ (c.in-Ok.ensures.reads.found files told ∙ ap (λ (i : AnyIndex). Ok (view_index i)) c.in-F4444.is))

pub returns-in-F4444-clause-works : goal.returns-in-F4444-clause-works
returns-in-F4444-clause-works g c = λ files told.
    let job = c.args.job.now in
    subst (λ (counts : List Counts). OnOk c.print_by.result (Works counts c.args.meters.now c.print_by.new.meters))
    (sym (counts_by_index files job.index.now job.queries.now job.radius job.wanted _ (c.in-Ok.ensures.reads.found files told ∙ ap (λ (i : AnyIndex). Ok (view_index i)) c.in-F4444.is)))
    (c.print_by.ensures.works files (c.in-Ok.ensures.reads.only.files ∙ told))

pub returns-in-F555-clause-plays : goal.returns-in-F555-clause-plays
returns-in-F555-clause-plays g c =
    let job = c.args.job.now in
    plays_as c.print_by-in-F555.result (well_of c.in-Ok.ensures.reads) c.print_by-in-F555.ensures.plays (λ files told.
    by_index files job.index.now job.queries.now job.radius job.wanted _ (c.in-Ok.ensures.reads.found files told ∙ ap (λ (i : AnyIndex). Ok (view_index i)) c.in-F555.is))

pub returns-in-F555-clause-works : goal.returns-in-F555-clause-works
returns-in-F555-clause-works g c = λ files told.
    let job = c.args.job.now in
    subst (λ (counts : List Counts). OnOk c.print_by-in-F555.result (Works counts c.args.meters.now c.print_by-in-F555.new.meters))
    (sym (counts_by_index files job.index.now job.queries.now job.radius job.wanted _ (c.in-Ok.ensures.reads.found files told ∙ ap (λ (i : AnyIndex). Ok (view_index i)) c.in-F555.is)))
    (c.print_by-in-F555.ensures.works files (c.in-Ok.ensures.reads.only.files ∙ told))

pub returns-in-F664-clause-plays : goal.returns-in-F664-clause-plays
returns-in-F664-clause-plays g c =
    let job = c.args.job.now in
    plays_as c.print_by-in-F664.result (well_of c.in-Ok.ensures.reads) c.print_by-in-F664.ensures.plays (λ files told.
    by_index files job.index.now job.queries.now job.radius job.wanted _ (c.in-Ok.ensures.reads.found files told ∙ ap (λ (i : AnyIndex). Ok (view_index i)) c.in-F664.is))

pub returns-in-F664-clause-works : goal.returns-in-F664-clause-works
returns-in-F664-clause-works g c = λ files told.
    let job = c.args.job.now in
    subst (λ (counts : List Counts). OnOk c.print_by-in-F664.result (Works counts c.args.meters.now c.print_by-in-F664.new.meters))
    (sym (counts_by_index files job.index.now job.queries.now job.radius job.wanted _ (c.in-Ok.ensures.reads.found files told ∙ ap (λ (i : AnyIndex). Ok (view_index i)) c.in-F664.is)))
    (c.print_by-in-F664.ensures.works files (c.in-Ok.ensures.reads.only.files ∙ told))

pub returns-in-F88-clause-plays : goal.returns-in-F88-clause-plays
returns-in-F88-clause-plays g c =
    let job = c.args.job.now in
    plays_as c.print_by-in-F88.result (well_of c.in-Ok.ensures.reads) c.print_by-in-F88.ensures.plays (λ files told.
    by_index files job.index.now job.queries.now job.radius job.wanted _ (c.in-Ok.ensures.reads.found files told ∙ ap (λ (i : AnyIndex). Ok (view_index i)) c.in-F88.is))

pub returns-in-F88-clause-works : goal.returns-in-F88-clause-works
returns-in-F88-clause-works g c = λ files told.
    let job = c.args.job.now in
    subst (λ (counts : List Counts). OnOk c.print_by-in-F88.result (Works counts c.args.meters.now c.print_by-in-F88.new.meters))
    (sym (counts_by_index files job.index.now job.queries.now job.radius job.wanted _ (c.in-Ok.ensures.reads.found files told ∙ ap (λ (i : AnyIndex). Ok (view_index i)) c.in-F88.is)))
    (c.print_by-in-F88.ensures.works files (c.in-Ok.ensures.reads.only.files ∙ told))
