use Rattle.std.proofs.Common.{◌∙◌, List, Ok, ap, sym, subst}
use Rattle.std.specs.Prelude.{OnOk}
use Rattle.book_model.specs.Book.{Book}
use Rattle.play_script.specs.Play.{Counts}
use Rattle.play_script.specs.Sessions.{session_play, session_counts}
use Rattle.query_engine.specs.State.{State}
use Rattle.adc_program.specs.Stages.{stage_of, ArePlayed}
use Rattle.adc_program.specs.Work.{Works}
use Rattle.adc_program.proofs.Playing.{plays_stop, plays_memory, plays_as}
use Rattle.adc_program.proofs.Faults.{well_of}
use Rattle.adc_program.proofs.session_files.play_by.Goals as goal

pub returns-in-Err-clause-plays : goal.returns-in-Err-clause-plays
returns-in-Err-clause-plays g c = plays_stop c.in-Err.stop c.in-Err.ensures.reads (λ files error told e. e)

pub returns-in_default-clause-plays : goal.returns-in_default-clause-plays
returns-in_default-clause-plays g c = plays_memory (well_of c.in-Ok.ensures.reads)

pub play_on-requires-clause-check : goal.play_on-requires-clause-check
play_on-requires-clause-check g c = λ files told.
    subst (λ (b : Book). ArePlayed files b.d c.in-Ok.opened.0) (sym (ap (λ (s : State). s.book) c.in-Ok-new.ensures.engine))
    (c.in-Ok.ensures.reads.found files (sym c.in-Ok.ensures.reads.only.files ∙ told)).played

pub returns-clause-plays : goal.returns-clause-plays
returns-clause-plays g c =
    plays_as c.play_on.result (well_of c.in-Ok.ensures.reads) c.play_on.ensures.plays
    (λ files told. (c.in-Ok.ensures.reads.found files told).output
    ∙ ap (λ (b : Book). Ok (session_play (stage_of files c.in-Ok.opened.0 b) c.in-Ok.opened.1)) (sym (ap (λ (s : State). s.book) c.in-Ok-new.ensures.engine)))

pub returns-clause-works : goal.returns-clause-works
returns-clause-works g c = λ files told.
    subst (λ (counts : List Counts). OnOk c.play_on.result (Works counts c.args.meters.now c.play_on.new.meters))
    (ap (λ (b : Book). session_counts (stage_of files c.in-Ok.opened.0 b) c.in-Ok.opened.1) (ap (λ (s : State). s.book) c.in-Ok-new.ensures.engine) ∙ sym (c.in-Ok.ensures.reads.found files told).counts)
    (c.play_on.ensures.works files (c.in-Ok.ensures.reads.only.files ∙ told))
