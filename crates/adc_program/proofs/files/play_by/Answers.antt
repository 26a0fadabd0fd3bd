use Rattle.std.proofs.Common.{ap, sym, subst}
use Rattle.std.specs.Prelude.{OnOk}
use Rattle.adc_ports.proofs.StateLemmas.{reads_none}
use Rattle.book_model.specs.Book.{Book}
use Rattle.play_script.specs.Play.{by_codes}
use Rattle.query_engine.specs.State.{State}
use Rattle.adc_program.specs.Plays.{lines_by, counts_by}
use Rattle.adc_program.specs.Work.{Works}
use Rattle.adc_program.proofs.Asking.{codes_early, codes_work}
use Rattle.adc_program.proofs.Playing.{plays_memory, plays_as}
use Rattle.adc_program.proofs.Writing.{on_ok_by}
use Rattle.adc_program.proofs.Faults.{well_none}
use Rattle.adc_program.proofs.files.play_by.Goals as goal

pub returns-in_default-clause-plays : goal.returns-in_default-clause-plays
returns-in_default-clause-plays g c = plays_memory (well_none _)

pub play_on-requires-clause-meters : goal.play_on-requires-clause-meters
play_on-requires-clause-meters g c = codes_early c.args.meters.now c.requires

pub returns-clause-plays : goal.returns-clause-plays
returns-clause-plays g c =
    let names = c.args.names.now in
    plays_as c.play_on.result (well_none _) c.play_on.ensures.plays
    (λ files told. ap (λ (b : Book). lines_by by_codes files names.base.now names.queries.now names.script.now b) (sym (ap (λ (s : State). s.book) c.in-Ok.ensures.engine)))

pub returns-clause-works : goal.returns-clause-works
returns-clause-works g c = λ files told.
    let names = c.args.names.now in
    subst (λ (b : Book). OnOk c.play_on.result (Works (counts_by files names.base.now names.queries.now names.script.now b) c.args.meters.now c.play_on.new.meters))
    (ap (λ (s : State). s.book) c.in-Ok.ensures.engine)
    (on_ok_by c.play_on.result (codes_work _ _ c.args.meters.now c.play_on.new.meters) (c.play_on.ensures.works files told))
