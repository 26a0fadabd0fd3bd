use Rattle.std.proofs.Common.{◌∙◌, Ok, ap, sym, subst, refl}
use Rattle.std.specs.Prelude.{OnOk}
use Rattle.adc_ports.proofs.StateLemmas.{reads_none}
use Rattle.play_script.specs.declared.SessionCommand.{SessionCommand}
use Rattle.play_script.specs.Sessions.{session_reply}
use Rattle.adc_program.specs.Stages.{stage_of}
use Rattle.adc_program.specs.SessionStates.{IsNext}
use Rattle.adc_program.proofs.Playing.{plays_puts, plays_stop, plays_as}
use Rattle.adc_program.proofs.Writing.{on_ok}
use Rattle.adc_program.proofs.SessionLoop.{plays_put_by, stands_by}
use Rattle.adc_program.proofs.Faults.{well_none, well_of}
use Rattle.adc_program.proofs.session_player.SessionPlayer.answer.Goals as goal

pub returns-in-Plain-clause-plays : goal.returns-in-Plain-clause-plays
returns-in-Plain-clause-plays g c standing stands =
    let self = c.args.self.now in
    plays_as c.plain.result (well_none _) (c.plain.ensures.plays standing stands)
    (λ files told. ap (λ (command : SessionCommand). Ok (session_reply (stage_of files self.inputs self.engine.engine.book) (standing files) command).lines) c.in-Plain.is)

pub returns-in-Plain-clause-next : goal.returns-in-Plain-clause-next
returns-in-Plain-clause-next g c standing files told stands =
    let self = c.args.self.now in
    let stage = stage_of files self.inputs self.engine.engine.book in
    subst (λ (command : SessionCommand). OnOk c.plain.result (IsNext stage standing (session_reply stage standing command) c.plain.new.self.engine.engine.store c.plain.new.self.held.items c.args.meters.now c.plain.new.meters))
    (sym c.in-Plain.is) (c.plain.ensures.next standing files told stands)

pub returns-in-Ok-clause-plays : goal.returns-in-Ok-clause-plays
returns-in-Ok-clause-plays g c standing stands =
    let self = c.args.self.now in
    let read = c.in-Ok.ensures.line standing stands in
    plays_puts c.write_line.result (well_of read) c.write_line.ensures.puts (λ files told.
    ap (λ (command : SessionCommand). Ok (session_reply (stage_of files self.inputs self.engine.engine.book) (standing files) command).lines) c.in-Begin.is
    ∙ ap Ok (read.found files told).0)

pub returns-in-Ok-clause-next : goal.returns-in-Ok-clause-next
returns-in-Ok-clause-next g c standing files told stands =
    let self = c.args.self.now in
    let stage = stage_of files self.inputs self.engine.engine.book in
    let read = c.in-Ok.ensures.line (λ _. standing) (stands_by _ files standing _ self.held.items self.inputs self.engine.engine.book told stands) in
    on_ok c.write_line.result (subst (λ (command : SessionCommand). IsNext stage standing (session_reply stage standing command) c.begin.new.self.engine.engine.store c.begin.new.self.held.items c.args.meters.now c.begin.new.meters)
    (sym c.in-Begin.is) (read.found files told).1)

pub returns-in-Err-clause-plays : goal.returns-in-Err-clause-plays
returns-in-Err-clause-plays g c standing stands = plays_stop c.in-Err.stop (c.in-Err.ensures.line standing stands) (λ files error told e. absurd (cc))

pub returns-in-Step-clause-plays : goal.returns-in-Step-clause-plays
returns-in-Step-clause-plays g c standing stands =
    let self = c.args.self.now in
    plays_puts c.write_line-in-Step.result (well_none _) c.write_line-in-Step.ensures.puts (λ files told.
    ap (λ (command : SessionCommand). Ok (session_reply (stage_of files self.inputs self.engine.engine.book) (standing files) command).lines) c.in-Step.is
    ∙ ap Ok (c.step-line.ensures.line (stage_of files self.inputs self.engine.engine.book) (standing files) refl (stands files told)))

pub returns-in-Step-clause-next : goal.returns-in-Step-clause-next
returns-in-Step-clause-next g c standing files told stands =
    let self = c.args.self.now in
    let stage = stage_of files self.inputs self.engine.engine.book in
    on_ok c.write_line-in-Step.result (subst (λ (command : SessionCommand). IsNext stage standing (session_reply stage standing command) self.engine.engine.store c.step-line.new.held.items c.args.meters.now c.step-line.new.meters)
    (sym c.in-Step.is) (c.step-line.ensures.next stage standing refl stands))

pub returns-in-End-clause-plays : goal.returns-in-End-clause-plays
returns-in-End-clause-plays g c standing stands =
    let self = c.args.self.now in
    plays_as c.end.result (well_none _)
    (plays_put_by c.end.result (well_none _) c.end.ensures.only c.end.ensures.unwritten c.end.ensures.counts (λ files told.
    c.end.ensures.puts (stage_of files self.inputs self.engine.engine.book) (standing files) refl (stands files told)))
    (λ files told. ap (λ (command : SessionCommand). Ok (session_reply (stage_of files self.inputs self.engine.engine.book) (standing files) command).lines) c.in-End.is)

pub returns-in-End-clause-next : goal.returns-in-End-clause-next
returns-in-End-clause-next g c standing files told stands =
    let self = c.args.self.now in
    let stage = stage_of files self.inputs self.engine.engine.book in
    on_ok c.end.result (subst (λ (command : SessionCommand). IsNext stage standing (session_reply stage standing command) c.end.new.engine.store c.end.new.held.items c.args.meters.now c.args.meters.now)
    (sym c.in-End.is) (c.end.ensures.next stage standing c.args.meters.now refl stands))
