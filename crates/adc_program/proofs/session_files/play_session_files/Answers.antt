use Rattle.std.proofs.Common.{◌∙◌, List, Ok, ap, sym, subst}
use Rattle.std.specs.Prelude.{OnOk}
use Rattle.play_script.specs.Play.{Counts}
use Rattle.adc_program.specs.Work.{Works}
use Rattle.codebook_core.specs.Any.{view_any}
use Rattle.codebook_core.specs.declared.reading.AnyBook.{AnyBook}
use Rattle.adc_program.proofs.Playing.{plays_stop, plays_as}
use Rattle.adc_program.proofs.SessionOutcomes.{at_book, by_book, counts_by_book}
use Rattle.adc_program.proofs.Faults.{well_of}
use Rattle.adc_program.proofs.session_files.play_session_files.Goals as goal

pub returns-in-Err-clause-plays : goal.returns-in-Err-clause-plays
returns-in-Err-clause-plays g c =
    plays_stop c.in-Err.stop c.in-Err.ensures.reads
    (λ files error told e. at_book files c.args.names.now.book.now c.args.names.now.base.now c.args.names.now.queries.now c.args.names.now.script.now error e)

pub returns-in-F4444-clause-plays : goal.returns-in-F4444-clause-plays
returns-in-F4444-clause-plays g c =
    plays_as c.play_by.result (well_of c.in-Ok.ensures.reads) c.play_by.ensures.plays
    (λ files told. by_book files c.args.names.now.book.now c.args.names.now.base.now c.args.names.now.queries.now c.args.names.now.script.now c.in-F4444.book
    (c.in-Ok.ensures.reads.found files told ∙ ap (λ (b : AnyBook). Ok (view_any b)) c.in-F4444.is))

pub returns-in-F555-clause-plays : goal.returns-in-F555-clause-plays
returns-in-F555-clause-plays g c =
    plays_as c.play_by-in-F555.result (well_of c.in-Ok.ensures.reads) c.play_by-in-F555.ensures.plays
    (λ files told. by_book files c.args.names.now.book.now c.args.names.now.base.now c.args.names.now.queries.now c.args.names.now.script.now c.in-F555.book
    (c.in-Ok.ensures.reads.found files told ∙ ap (λ (b : AnyBook). Ok (view_any b)) c.in-F555.is))

pub returns-in-F664-clause-plays : goal.returns-in-F664-clause-plays
returns-in-F664-clause-plays g c =
    plays_as c.play_by-in-F664.result (well_of c.in-Ok.ensures.reads) c.play_by-in-F664.ensures.plays
    (λ files told. by_book files c.args.names.now.book.now c.args.names.now.base.now c.args.names.now.queries.now c.args.names.now.script.now c.in-F664.book
    (c.in-Ok.ensures.reads.found files told ∙ ap (λ (b : AnyBook). Ok (view_any b)) c.in-F664.is))

pub returns-in-F88-clause-plays : goal.returns-in-F88-clause-plays
returns-in-F88-clause-plays g c =
    plays_as c.play_by-in-F88.result (well_of c.in-Ok.ensures.reads) c.play_by-in-F88.ensures.plays
    (λ files told. by_book files c.args.names.now.book.now c.args.names.now.base.now c.args.names.now.queries.now c.args.names.now.script.now c.in-F88.book
    (c.in-Ok.ensures.reads.found files told ∙ ap (λ (b : AnyBook). Ok (view_any b)) c.in-F88.is))

pub returns-in-F4444-clause-works : goal.returns-in-F4444-clause-works
returns-in-F4444-clause-works g c = λ files told.
    let names = c.args.names.now in
    subst (λ (counts : List Counts). OnOk c.play_by.result (Works counts c.args.meters.now c.play_by.new.meters))
    (sym (counts_by_book files names.book.now names.base.now names.queries.now names.script.now c.in-F4444.book (c.in-Ok.ensures.reads.found files told ∙ ap (λ (b : AnyBook). Ok (view_any b)) c.in-F4444.is)))
    (c.play_by.ensures.works files (c.in-Ok.ensures.reads.only.files ∙ told))

pub returns-in-F555-clause-works : goal.returns-in-F555-clause-works
returns-in-F555-clause-works g c = λ files told.
    let names = c.args.names.now in
    subst (λ (counts : List Counts). OnOk c.play_by-in-F555.result (Works counts c.args.meters.now c.play_by-in-F555.new.meters))
    (sym (counts_by_book files names.book.now names.base.now names.queries.now names.script.now c.in-F555.book (c.in-Ok.ensures.reads.found files told ∙ ap (λ (b : AnyBook). Ok (view_any b)) c.in-F555.is)))
    (c.play_by-in-F555.ensures.works files (c.in-Ok.ensures.reads.only.files ∙ told))

pub returns-in-F664-clause-works : goal.returns-in-F664-clause-works
returns-in-F664-clause-works g c = λ files told.
    let names = c.args.names.now in
    subst (λ (counts : List Counts). OnOk c.play_by-in-F664.result (Works counts c.args.meters.now c.play_by-in-F664.new.meters))
    (sym (counts_by_book files names.book.now names.base.now names.queries.now names.script.now c.in-F664.book (c.in-Ok.ensures.reads.found files told ∙ ap (λ (b : AnyBook). Ok (view_any b)) c.in-F664.is)))
    (c.play_by-in-F664.ensures.works files (c.in-Ok.ensures.reads.only.files ∙ told))

pub returns-in-F88-clause-works : goal.returns-in-F88-clause-works
returns-in-F88-clause-works g c = λ files told.
    let names = c.args.names.now in
    subst (λ (counts : List Counts). OnOk c.play_by-in-F88.result (Works counts c.args.meters.now c.play_by-in-F88.new.meters))
    (sym (counts_by_book files names.book.now names.base.now names.queries.now names.script.now c.in-F88.book (c.in-Ok.ensures.reads.found files told ∙ ap (λ (b : AnyBook). Ok (view_any b)) c.in-F88.is)))
    (c.play_by-in-F88.ensures.works files (c.in-Ok.ensures.reads.only.files ∙ told))
