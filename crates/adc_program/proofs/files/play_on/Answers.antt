use Rattle.std.proofs.Common.{◌∙◌, List, sym, subst}
use Rattle.std.specs.Prelude.{OnOk}
use Rattle.play_script.specs.Play.{Asking}
use Rattle.adc_program.specs.Played.{HaveAsked}
use Rattle.adc_program.proofs.Playing.{plays_stop, plays_memory, plays_as}
use Rattle.adc_program.proofs.Faults.{well_of}
use Rattle.adc_program.proofs.files.play_on.Goals as goal

pub returns-in-Err-clause-plays : goal.returns-in-Err-clause-plays
returns-in-Err-clause-plays g c = plays_stop c.in-Err.stop c.in-Err.ensures.reads (λ files error told e. e)

pub returns-in_default-clause-plays : goal.returns-in_default-clause-plays
returns-in_default-clause-plays g c = plays_memory (well_of c.in-Ok.ensures.reads)

pub play-requires-clause-check : goal.play-requires-clause-check
play-requires-clause-check g c = λ files told. (c.in-Ok.ensures.reads.found files (sym c.in-Ok.ensures.reads.only.files ∙ told)).played

pub returns-clause-plays : goal.returns-clause-plays
returns-clause-plays g c = plays_as c.play.result (well_of c.in-Ok.ensures.reads) c.play.ensures.plays (λ files told. (c.in-Ok.ensures.reads.found files told).output)

pub returns-clause-works : goal.returns-clause-works
returns-clause-works g c = λ files told.
    let stand = g.E.Played.stand c.args.engine in
    subst (λ (q : List Asking). OnOk c.play.result (HaveAsked g.E.Played.means g.E.Played.computes stand q (g.E.Played.metered c.args.meters.now) (g.E.Played.metered c.play.new.meters)))
    (sym (c.in-Ok.ensures.reads.found files told).asked)
    (c.play.ensures.works files (c.in-Ok.ensures.reads.only.files ∙ told))
