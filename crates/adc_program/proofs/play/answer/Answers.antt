use Rattle.std.proofs.Common.{◌≡◌, ◌∙◌, Ok, ap, sym, subst, List}
use Rattle.adc_ports.proofs.StateLemmas.{reads_none}
use Rattle.play_script.specs.declared.Command.{Command}
use Rattle.cell_store.specs.State.{Store}
use Rattle.cell_store.specs.Held.{KeepsAs}
use Rattle.play_script.specs.Play.{Asking}
use Rattle.adc_program.specs.Stages.{stage_of}
use Rattle.adc_program.specs.Played.{Stand, HaveAsked}
use Rattle.adc_program.specs.StoreReplies.{store_reply}
use Rattle.adc_program.proofs.Playing.{plays_puts, plays_stop, plays_as}
use Rattle.adc_program.proofs.StoreReplies.{query_after, keeps_stay}
use Rattle.adc_program.proofs.Asking.{rises_none, asked_none}
use Rattle.adc_program.proofs.Writing.{on_ok}
use Rattle.adc_program.proofs.Faults.{well_none, well_of}
use Rattle.adc_program.proofs.play.answer.Goals as goal

pub returns-in-Ok-clause-plays : goal.returns-in-Ok-clause-plays
returns-in-Ok-clause-plays g c =
    let stand = g.E.Played.stand c.args.engine.now in
    plays_puts c.write_line.result (well_of c.in-Ok.ensures.line) c.write_line.ensures.puts (λ files told.
    ap (λ (command : Command). Ok (store_reply g.E.Played.means (stage_of files c.args.inputs.now stand.book) stand.store command).lines) c.in-Insert.is ∙ ap Ok (c.in-Ok.ensures.line.found files told).lines)

pub returns-in-Ok-clause-keeps : goal.returns-in-Ok-clause-keeps
returns-in-Ok-clause-keeps g c = λ files told.
    let stand = g.E.Played.stand c.args.engine.now in
    on_ok c.write_line.result (subst (λ (command : Command). KeepsAs (g.E.Played.stand c.insert.new.engine).store (store_reply g.E.Played.means (stage_of files c.args.inputs.now stand.book) stand.store command).after) (sym c.in-Insert.is) (c.in-Ok.ensures.line.found files told).keeps)

pub returns-in-Ok-clause-little : goal.returns-in-Ok-clause-little
returns-in-Ok-clause-little g c = rises_none (g.E.Played.stand c.args.engine.now) (g.E.Played.stand c.insert.new.engine) (g.E.Played.metered c.args.meters.now) c.insert.ensures.stamp

pub returns-in-Ok-clause-works : goal.returns-in-Ok-clause-works
returns-in-Ok-clause-works g c = λ files told.
    let stand = g.E.Played.stand c.args.engine.now in
    on_ok c.write_line.result (subst (λ (q : List Asking). HaveAsked g.E.Played.means g.E.Played.computes stand q (g.E.Played.metered c.args.meters.now) (g.E.Played.metered c.args.meters.now))
    (sym (ap (λ (command : Command). (store_reply g.E.Played.means (stage_of files c.args.inputs.now stand.book) stand.store command).queries) c.in-Insert.is ∙ (c.in-Ok.ensures.line.found files told).queries)) (asked_none g.E.Played.means g.E.Played.computes stand (g.E.Played.metered c.args.meters.now)))

pub returns-in-Err-clause-plays : goal.returns-in-Err-clause-plays
returns-in-Err-clause-plays g c = plays_stop c.in-Err.stop c.in-Err.ensures.line (λ files error told e. absurd (cc))

pub returns-in-Err-clause-little : goal.returns-in-Err-clause-little
returns-in-Err-clause-little g c = rises_none (g.E.Played.stand c.args.engine.now) (g.E.Played.stand c.insert.new.engine) (g.E.Played.metered c.args.meters.now) c.insert.ensures.stamp

pub returns-in-Ok-put-clause-plays : goal.returns-in-Ok-put-clause-plays
returns-in-Ok-put-clause-plays g c =
    let stand = g.E.Played.stand c.args.engine.now in
    plays_puts c.write_line-in-Ok-put.result (well_of c.in-Ok-put.ensures.line) c.write_line-in-Ok-put.ensures.puts (λ files told.
    ap (λ (command : Command). Ok (store_reply g.E.Played.means (stage_of files c.args.inputs.now stand.book) stand.store command).lines) c.in-Put.is ∙ ap Ok (c.in-Ok-put.ensures.line.found files told).lines)

pub returns-in-Ok-put-clause-keeps : goal.returns-in-Ok-put-clause-keeps
returns-in-Ok-put-clause-keeps g c = λ files told.
    let stand = g.E.Played.stand c.args.engine.now in
    on_ok c.write_line-in-Ok-put.result (subst (λ (command : Command). KeepsAs (g.E.Played.stand c.put.new.engine).store (store_reply g.E.Played.means (stage_of files c.args.inputs.now stand.book) stand.store command).after) (sym c.in-Put.is) (c.in-Ok-put.ensures.line.found files told).keeps)

pub returns-in-Ok-put-clause-little : goal.returns-in-Ok-put-clause-little
returns-in-Ok-put-clause-little g c = rises_none (g.E.Played.stand c.args.engine.now) (g.E.Played.stand c.put.new.engine) (g.E.Played.metered c.args.meters.now) c.put.ensures.stamp

pub returns-in-Ok-put-clause-works : goal.returns-in-Ok-put-clause-works
returns-in-Ok-put-clause-works g c = λ files told.
    let stand = g.E.Played.stand c.args.engine.now in
    on_ok c.write_line-in-Ok-put.result (subst (λ (q : List Asking). HaveAsked g.E.Played.means g.E.Played.computes stand q (g.E.Played.metered c.args.meters.now) (g.E.Played.metered c.args.meters.now))
    (sym (ap (λ (command : Command). (store_reply g.E.Played.means (stage_of files c.args.inputs.now stand.book) stand.store command).queries) c.in-Put.is ∙ (c.in-Ok-put.ensures.line.found files told).queries)) (asked_none g.E.Played.means g.E.Played.computes stand (g.E.Played.metered c.args.meters.now)))

pub returns-in-Err-put-clause-plays : goal.returns-in-Err-put-clause-plays
returns-in-Err-put-clause-plays g c = plays_stop c.in-Err-put.stop c.in-Err-put.ensures.line (λ files error told e. absurd (cc))

pub returns-in-Err-put-clause-little : goal.returns-in-Err-put-clause-little
returns-in-Err-put-clause-little g c = rises_none (g.E.Played.stand c.args.engine.now) (g.E.Played.stand c.put.new.engine) (g.E.Played.metered c.args.meters.now) c.put.ensures.stamp

pub returns-in-Delete-clause-plays : goal.returns-in-Delete-clause-plays
returns-in-Delete-clause-plays g c =
    let stand = g.E.Played.stand c.args.engine.now in
    plays_puts c.write_line-in-Delete.result (well_none _) c.write_line-in-Delete.ensures.puts (λ files told.
    let stage = stage_of files c.args.inputs.now stand.book in
    ap (λ (command : Command). Ok (store_reply g.E.Played.means stage stand.store command).lines) c.in-Delete.is ∙ ap Ok (c.delete.ensures.line stage).lines)

pub returns-in-Delete-clause-keeps : goal.returns-in-Delete-clause-keeps
returns-in-Delete-clause-keeps g c = λ files told.
    let stand = g.E.Played.stand c.args.engine.now in
    on_ok c.write_line-in-Delete.result (subst (λ (command : Command). KeepsAs (g.E.Played.stand c.delete.new.engine).store (store_reply g.E.Played.means (stage_of files c.args.inputs.now stand.book) stand.store command).after) (sym c.in-Delete.is) (c.delete.ensures.line (stage_of files c.args.inputs.now stand.book)).keeps)

pub returns-in-Delete-clause-little : goal.returns-in-Delete-clause-little
returns-in-Delete-clause-little g c = rises_none (g.E.Played.stand c.args.engine.now) (g.E.Played.stand c.delete.new.engine) (g.E.Played.metered c.args.meters.now) c.delete.ensures.stamp

pub returns-in-Delete-clause-works : goal.returns-in-Delete-clause-works
returns-in-Delete-clause-works g c = λ files told.
    let stand = g.E.Played.stand c.args.engine.now in
    let stage = stage_of files c.args.inputs.now stand.book in
    on_ok c.write_line-in-Delete.result (subst (λ (q : List Asking). HaveAsked g.E.Played.means g.E.Played.computes stand q (g.E.Played.metered c.args.meters.now) (g.E.Played.metered c.args.meters.now))
    (sym (ap (λ (command : Command). (store_reply g.E.Played.means stage stand.store command).queries) c.in-Delete.is ∙ (c.delete.ensures.line stage).queries)) (asked_none g.E.Played.means g.E.Played.computes stand (g.E.Played.metered c.args.meters.now)))

pub returns-in-Query-clause-plays : goal.returns-in-Query-clause-plays
returns-in-Query-clause-plays g c =
    let stand = g.E.Played.stand c.args.engine.now in
    plays_as c.query.result (well_none _) c.query.ensures.plays (λ files told. ap (λ (command : Command). Ok (store_reply g.E.Played.means (stage_of files c.args.inputs.now stand.book) stand.store command).lines) c.in-Query.is)

pub returns-in-Query-clause-keeps : goal.returns-in-Query-clause-keeps
returns-in-Query-clause-keeps g c = λ files told.
    let stand = g.E.Played.stand c.args.engine.now in
    let stage = stage_of files c.args.inputs.now stand.book in
    let new : Store = (g.E.Played.stand c.query.new.engine).store in
    let same : new ≡ stand.store = ap (λ (s : Stand). s.store) c.query.ensures.stand in
    on_ok c.query.result (subst (λ (command : Command). KeepsAs new (store_reply g.E.Played.means stage stand.store command).after) (sym c.in-Query.is)
    (keeps_stay new _ (same ∙ sym (query_after g.E.Played.means stage stand.store c.in-Query.number c.in-Query.k c.in-Query.wanted c.in-Query.ids))))
