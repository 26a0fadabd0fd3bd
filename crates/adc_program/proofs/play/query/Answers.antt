use Rattle.std.proofs.Common.{◌≡◌, ◌∙◌, ℕ, List, [], ◌∷◌, length, sym, ap, subst, arith, Ok}
use Rattle.std.specs.Prelude.{OnOk, Some, None}
use Rattle.adc_ports.proofs.StateLemmas.{reads_none}
use Rattle.play_script.specs.Play.{Asking}
use Rattle.adc_program.specs.Queries.{query_cause}
use Rattle.adc_program.specs.Stages.{stage_of}
use Rattle.adc_program.specs.Played.{HaveAsked}
use Rattle.adc_program.specs.StoreReplies.{StoreReply}
use Rattle.adc_program.proofs.Asking.{asked_none, rises_none}
use Rattle.adc_program.proofs.Playing.{plays_puts, plays_as}
use Rattle.adc_program.proofs.StoreReplies.{query_refused, query_found}
use Rattle.adc_program.proofs.Writing.{on_ok}
use Rattle.adc_program.proofs.Faults.{well_none}
use Rattle.adc_program.proofs.play.query.Goals as goal

pub returns-in-Some-clause-little : goal.returns-in-Some-clause-little
returns-in-Some-clause-little g c =
    let stand = g.E.Played.stand c.args.engine.now in
    rises_none stand stand (g.E.Played.metered c.args.meters.now) (omega arith)

pub returns-in-Some-clause-plays : goal.returns-in-Some-clause-plays
returns-in-Some-clause-plays g c =
    let stand = g.E.Played.stand c.args.engine.now in
    let asked = c.args.asked in
    plays_puts c.write_line.result (well_none _) c.write_line.ensures.puts (λ files told.
    let stage = stage_of files c.args.inputs.now stand.book in
    let cause : query_cause (length stage.queries) asked.number asked.k asked.wanted ≡ Some c.in-Some.cause =
    ap (λ n. query_cause n asked.number asked.k asked.wanted) (sym (c.requires.check files told).queries.rows) ∙ sym c.query_cause.ensures ∙ c.in-Some.is in
    ap (λ (r : StoreReply). Ok r.lines) (query_refused g.E.Played.means stage stand.store asked.number asked.k asked.wanted asked.ids c.in-Some.cause cause) ∙ ap (λ (l : List ℕ). Ok (l ∷ [])) (sym c.query_refused.ensures))

pub returns-in-Some-clause-works : goal.returns-in-Some-clause-works
returns-in-Some-clause-works g c = λ files told.
    let stand = g.E.Played.stand c.args.engine.now in
    let asked = c.args.asked in
    let meters = g.E.Played.metered c.args.meters.now in
    let stage = stage_of files c.args.inputs.now stand.book in
    let cause : query_cause (length stage.queries) asked.number asked.k asked.wanted ≡ Some c.in-Some.cause =
    ap (λ n. query_cause n asked.number asked.k asked.wanted) (sym (c.requires.check files told).queries.rows) ∙ sym c.query_cause.ensures ∙ c.in-Some.is in
    on_ok c.write_line.result (subst (λ (q : List Asking). HaveAsked g.E.Played.means g.E.Played.computes stand q meters meters)
    (sym (ap (λ (r : StoreReply). r.queries) (query_refused g.E.Played.means stage stand.store asked.number asked.k asked.wanted asked.ids c.in-Some.cause cause))) (asked_none g.E.Played.means g.E.Played.computes stand meters))

pub returns-in-None-clause-plays : goal.returns-in-None-clause-plays
returns-in-None-clause-plays g c =
    let stand = g.E.Played.stand c.args.engine.now in
    let asked = c.args.asked in
    plays_as c.find.result (well_none _) c.find.ensures.plays (λ files told.
    let stage = stage_of files c.args.inputs.now stand.book in
    let cause : query_cause (length stage.queries) asked.number asked.k asked.wanted ≡ None =
    ap (λ n. query_cause n asked.number asked.k asked.wanted) (sym (c.requires.check files told).queries.rows) ∙ sym c.query_cause.ensures ∙ c.in-None.is in
    ap (λ (r : StoreReply). Ok r.lines) (query_found g.E.Played.means stage stand.store asked.number asked.k asked.wanted asked.ids cause))

pub returns-in-None-clause-works : goal.returns-in-None-clause-works
returns-in-None-clause-works g c = λ files told.
    let stand = g.E.Played.stand c.args.engine.now in
    let asked = c.args.asked in
    let stage = stage_of files c.args.inputs.now stand.book in
    let cause : query_cause (length stage.queries) asked.number asked.k asked.wanted ≡ None =
    ap (λ n. query_cause n asked.number asked.k asked.wanted) (sym (c.requires.check files told).queries.rows) ∙ sym c.query_cause.ensures ∙ c.in-None.is in
    subst (λ (q : List Asking). OnOk c.find.result (HaveAsked g.E.Played.means g.E.Played.computes stand q (g.E.Played.metered c.args.meters.now) (g.E.Played.metered c.find.new.meters)))
    (sym (ap (λ (r : StoreReply). r.queries) (query_found g.E.Played.means stage stand.store asked.number asked.k asked.wanted asked.ids cause))) (c.find.ensures.works files told)
