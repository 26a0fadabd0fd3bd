use Rattle.std.proofs.Common.{Ok, ap, subst}
use Rattle.adc_ports.proofs.StateLemmas.{reads_none}
use Rattle.cell_store.specs.Held.{IsStore}
use Rattle.play_script.specs.Play.{by_codes}
use Rattle.adc_program.specs.Stages.{stage_of}
use Rattle.adc_program.specs.StoreReplies.{store_reply}
use Rattle.adc_program.proofs.Asking.{codes_far, codes_little, codes_work}
use Rattle.adc_program.proofs.OpenSessions.{open_changed}
use Rattle.adc_program.proofs.SessionStands.{plain_lines, plain_next}
use Rattle.adc_program.proofs.Playing.{plays_as}
use Rattle.adc_program.proofs.Writing.{both_ok}
use Rattle.adc_program.proofs.Faults.{well_none}
use Rattle.adc_program.proofs.session_player.SessionPlayer.plain.Goals as goal

pub answer-requires-clause-far : goal.answer-requires-clause-far
answer-requires-clause-far g c =
    let state = c.args.self.now.engine.engine in
    codes_far (record { book = state.book; store = state.store; cache = 0 }) c.args.meters.now c.requires.far

pub returns-clause-open : goal.returns-clause-open
returns-clause-open g c =
    open_changed g.S.Shape.widths c.args.self.now.engine.engine c.answer.new.engine.engine c.args.self.now.held.items c.requires.open c.answer.ensures.book c.answer.ensures.stays

pub returns-clause-little : goal.returns-clause-little
returns-clause-little g c =
    let old = c.args.self.now.engine.engine in
    let new = c.answer.new.engine.engine in
    codes_little 1 (record { book = old.book; store = old.store; cache = 0 }) (record { book = new.book; store = new.store; cache = 0 }) c.args.meters.now c.answer.new.meters c.answer.ensures.little

pub returns-clause-plays : goal.returns-clause-plays
returns-clause-plays g c standing stands =
    let self = c.args.self.now in
    let state = self.engine.engine in
    let is = subst (IsStore g.S.Shape.widths) c.store.ensures c.stamp-stamp.ensures.is in
    plays_as c.answer.result (well_none _) c.answer.ensures.plays (λ files told.
    ap Ok (plain_lines (stage_of files self.inputs state.book) (standing files) state.store self.held.items (stands files told) g.S.Shape.widths is c.requires.far.stamp c.args.command.now))

pub returns-clause-next : goal.returns-clause-next
returns-clause-next g c standing files told stands =
    let self = c.args.self.now in
    let state = self.engine.engine in
    let stage = stage_of files self.inputs state.book in
    let is = subst (IsStore g.S.Shape.widths) c.store.ensures c.stamp-stamp.ensures.is in
    both_ok c.answer.result
    (λ keeps work. plain_next stage standing state.store self.held.items stands g.S.Shape.widths is c.requires.far.stamp c.args.command.now c.answer.new.engine.engine.store c.args.meters.now c.answer.new.meters keeps
    (codes_work (record { book = state.book; store = state.store; cache = 0 }) (store_reply by_codes stage state.store c.args.command.now).queries c.args.meters.now c.answer.new.meters work))
    (c.answer.ensures.keeps files told) (c.answer.ensures.works files told)
