use Rattle.std.proofs.Common.{◌≡◌, ◌∙◌, List, [], ◌∷◌, length, Ok, Err, arith, ap, ap₂, refl, subst}
use Rattle.adc_ports.proofs.StateLemmas.{reads_none}
use Rattle.book_model.specs.Rows.{Row as Stored}
use Rattle.cell_store.specs.State.{Store, live_rows}
use Rattle.cell_store.specs.Held.{IsStore}
use Rattle.play_script.specs.Texts.{end_line}
use Rattle.play_script.specs.Play.{Counts}
use Rattle.play_script.specs.Sessions.{session_replies, no_changes, rows_now}
use Rattle.adc_program.specs.Stages.{stage_of}
use Rattle.adc_program.specs.Work.{Works}
use Rattle.adc_program.proofs.SessionScripts.{text_ends, counts_end}
use Rattle.adc_program.proofs.SessionStands.{rows_live, works_spent}
use Rattle.adc_program.proofs.SessionLoop.{fresh_open, fresh_stands}
use Rattle.adc_program.proofs.Playing.{plays_puts, plays_as, plays_after, plays_cut}
use Rattle.adc_program.proofs.Writing.{on_ok}
use Rattle.adc_program.proofs.Faults.{well_none}
use Rattle.adc_program.proofs.session_player.SessionPlayer.play.Goals as goal

pub answer_all-requires-clause-stamp : goal.answer_all-requires-clause-stamp
answer_all-requires-clause-stamp g c = omega (arith, ap (λ (s : Store). s.stamp) c.requires.fresh)

pub answer_all-requires-clause-open : goal.answer_all-requires-clause-open
answer_all-requires-clause-open g c = fresh_open c.args.self.now.engine.engine.store c.args.self.now.held.items c.requires.none g.S.Shape.widths c.args.self.now.engine.engine (ap (λ (s : Store). s.pins) c.requires.fresh)

pub answer_all-requires-clause-stands : goal.answer_all-requires-clause-stands
answer_all-requires-clause-stands g c = λ files told.
    let self = c.args.self.now in
    fresh_stands self.engine.engine.store self.held.items c.requires.none (stage_of files self.inputs self.engine.engine.book) c.requires.fresh

pub returns-in-Ok-clause-plays : goal.returns-in-Ok-clause-plays
returns-in-Ok-clause-plays g c =
    let self = c.args.self.now in
    let is = subst (IsStore g.S.Shape.widths) c.store-store.ensures c.stamp-stamp.ensures.is in
    plays_as c.write_line.result (well_none _)
    (plays_after {more = λ files. c.end_line.result ∷ []} c.write_line.result c.in-Ok.ensures.plays (plays_puts c.write_line.result (well_none _) c.write_line.ensures.puts (λ files told. refl)))
    (λ files told.
    let stage = stage_of files self.inputs self.engine.engine.book in
    let after = (session_replies stage no_changes c.args.script.now).after in
    let live : c.live.result ≡ length (rows_now after) =
    c.live.ensures.live ∙ ap (λ (s : Store). length (live_rows s)) c.store-store.ensures
    ∙ ap (λ (r : List Stored). length r) (rows_live stage after c.answer_all.new.self.engine.engine.store c.answer_all.new.self.held.items (c.in-Ok.ensures.next files told).stands g.S.Shape.widths is) in
    ap Ok (text_ends stage c.args.script.now c.end_line.result (c.end_line.ensures ∙ ap₂ end_line c.len.ensures live)))

pub returns-in-Err-clause-plays : goal.returns-in-Err-clause-plays
returns-in-Err-clause-plays g c =
    let self = c.args.self.now in
    plays_as (Err c.in-Err.halted) (well_none _)
    (plays_cut c.in-Err.halted (λ files.
    let stage = stage_of files self.inputs self.engine.engine.book in
    end_line (length c.args.script.now) (length (rows_now (session_replies stage no_changes c.args.script.now).after)) ∷ []) c.in-Err.ensures.plays)
    (λ files told. ap Ok (text_ends (stage_of files self.inputs self.engine.engine.book) c.args.script.now _ refl))

pub returns-in-Ok-clause-works : goal.returns-in-Ok-clause-works
returns-in-Ok-clause-works g c = λ files told.
    let self = c.args.self.now in
    let stage = stage_of files self.inputs self.engine.engine.book in
    on_ok c.write_line.result (subst (λ (counts : List Counts). Works counts c.args.meters.now c.answer_all.new.meters) (counts_end stage c.args.script.now)
    (works_spent _ c.args.meters.now c.answer_all.new.meters (c.in-Ok.ensures.next files told).spends))
