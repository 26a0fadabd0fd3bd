use Rattle.std.proofs.Common.{◌∙◌, List, Ok, ap, sym, subst}
use Rattle.std.specs.Prelude.{OnOk}
use Rattle.adc_ports.proofs.StateLemmas.{reads_none}
use Rattle.play_script.specs.Play.{Asking}
use Rattle.adc_program.specs.Played.{HaveAsked}
use Rattle.adc_program.specs.Stages.{stage_of}
use Rattle.adc_program.proofs.PlainReplies.{plain_reply, plain_left}
use Rattle.adc_program.proofs.Playing.{plays_as}
use Rattle.adc_program.proofs.Writing.{on_ok_by}
use Rattle.adc_program.proofs.Faults.{well_none}
use Rattle.adc_program.proofs.player.Player.answer_plain.Goals as goal

pub returns-clause-plain : goal.returns-clause-plain
returns-clause-plain g c = record { pins = c.answer-answered.ensures.stays.pins ∙ c.requires.plain.pins; most = c.answer-answered.ensures.most ∙ c.requires.plain.most }

pub returns-clause-plays : goal.returns-clause-plays
returns-clause-plays g c =
    let self = c.args.self.now in
    let stand = g.E.Played.stand self.engine in
    plays_as c.answer-answered.result (well_none _) c.answer-answered.ensures.plays (λ files told.
    ap Ok (sym (plain_reply g.E.Played.means g.met.E.Played.numbered g.E.Played.widths (stage_of files self.inputs stand.book) stand.store c.requires.plain c.live-before.ensures.is c.requires.far.stamp c.args.command.now).lines))

pub returns-clause-rows : goal.returns-clause-rows
returns-clause-rows g c = λ files told.
    let self = c.args.self.now in
    let stand = g.E.Played.stand self.engine in
    on_ok_by c.answer-answered.result (plain_left g.E.Played.means g.met.E.Played.numbered g.E.Played.widths (stage_of files self.inputs stand.book) stand.store c.requires.plain c.live-before.ensures.is c.requires.far.stamp c.args.command.now
    (g.E.Played.stand c.answer-answered.new.engine).store c.live-after.ensures.is) (c.answer-answered.ensures.keeps files told)

pub returns-clause-works : goal.returns-clause-works
returns-clause-works g c = λ files told.
    let self = c.args.self.now in
    let stand = g.E.Played.stand self.engine in
    subst (λ (q : List Asking). OnOk c.answer-answered.result (HaveAsked g.E.Played.means g.E.Played.computes stand q (g.E.Played.metered c.args.meters.now) (g.E.Played.metered c.answer-answered.new.meters)))
    (plain_reply g.E.Played.means g.met.E.Played.numbered g.E.Played.widths (stage_of files self.inputs stand.book) stand.store c.requires.plain c.live-before.ensures.is c.requires.far.stamp c.args.command.now).queries (c.answer-answered.ensures.works files told)
