use Rattle.std.proofs.Common.{◌∙◌, ap, sym, subst, arith, List, [], ◌∷◌, ℕ, slice_index_or, Ok}
use Rattle.query_engine.specs.Report.{query_of}
use Rattle.play_script.specs.Play.{ranges_of, found_by}
use Rattle.adc_program.specs.Played.{rows_of, HaveAsked}
use Rattle.adc_program.proofs.Asking.{rises_none}
use Rattle.adc_program.proofs.Held.{queries_held}
use Rattle.adc_program.proofs.Playing.{plays_stop, plays_puts}
use Rattle.adc_program.proofs.Writing.{on_ok}
use Rattle.adc_program.proofs.Faults.{well_of}
use Rattle.adc_program.proofs.play.find.Goals as goal

pub returns-in-Err-clause-little : goal.returns-in-Err-clause-little
returns-in-Err-clause-little g c =
    let stand = g.E.Played.stand c.args.engine.now in
    rises_none stand stand (g.E.Played.metered c.args.meters.now) (omega arith)

pub returns-in-Err-clause-plays : goal.returns-in-Err-clause-plays
returns-in-Err-clause-plays g c = plays_stop c.in-Err.stop c.in-Err.ensures.reads (λ files error told e. absurd (cc))

pub returns-in-Ok-clause-plays : goal.returns-in-Ok-clause-plays
returns-in-Ok-clause-plays g c =
    plays_puts c.query.result (well_of c.in-Ok.ensures.reads) c.query.ensures.puts (λ files told.
    let stand = g.E.Played.stand c.args.engine.now in
    let asked = c.args.asked in
    let held = queries_held files stand.book.d c.args.inputs.now (c.requires.check files told) c.requires.queries in
    let read = c.in-Ok.ensures.reads.found files told in
    let row = read ∙ sym (ap (λ (all : List (List ℕ)). slice_index_or all asked.number []) held) in
    ap (λ (v : List ℕ). Ok (found_by g.E.Played.means stand.book asked.number (query_of v asked.k asked.wanted (ranges_of asked.ids)) (rows_of stand))) (sym row))

pub returns-in-Ok-clause-works : goal.returns-in-Ok-clause-works
returns-in-Ok-clause-works g c = λ files told.
    let stand = g.E.Played.stand c.args.engine.now in
    let asked = c.args.asked in
    let held = queries_held files stand.book.d c.args.inputs.now (c.requires.check files told) c.requires.queries in
    let read = c.in-Ok.ensures.reads.found files told in
    let row = read ∙ sym (ap (λ (all : List (List ℕ)). slice_index_or all asked.number []) held) in
    on_ok c.query.result (subst (λ (v : List ℕ). HaveAsked g.E.Played.means g.E.Played.computes stand (record { query = query_of v asked.k asked.wanted (ranges_of asked.ids); rows = rows_of stand } ∷ []) (g.E.Played.metered c.args.meters.now) (g.E.Played.metered c.query.new.meters)) row c.query.ensures.asked)
