use Rattle.std.proofs.Common.{rules, ◌≡◌, ◌∙◌, ℕ, [], ◌∷◌, Err, map, min, refl, sym, ap, arith}
use Rattle.std.proofs.lemmas.Grind.{common_steps}
use Rattle.best_k.specs.Least.{key_of}
use Rattle.play_script.specs.Stream.{Drawn}
use Rattle.play_script.specs.Texts.{query_done}
use Rattle.adc_program.specs.Samples.{first_lines}
use Rattle.adc_program.proofs.Putting.{puts_after, puts_cut, puts_as}
use Rattle.adc_program.proofs.SampleQueries.{asked_lines_are}
use Rattle.adc_program.proofs.samples.write_query.Goals as goal

pub ask-report-requires-clause-wanted_some : goal.ask-report-requires-clause-wanted_some
ask-report-requires-clause-wanted_some g c = omega (arith, c.min-wanted.ensures, c.args.job.some)

pub returns-in-Ok-clause-puts : goal.returns-in-Ok-clause-puts
returns-in-Ok-clause-puts g c =
    let from : c.from.result ≡ c.args.number = first_of (search rules, grind (arith, common_steps)) in
    let report = c.ask-report.result in
    let engine = c.args.engine.now in
    puts_as c.write_first.result
    (asked_lines_are c.args.sample.now c.args.number c.min-wanted.result engine.book engine.store c.query.result.now c.ask-report.new.scratch.best report c.args.meters.now c.ask-report.new.meters
    c.query.ensures.bytes (c.min-wanted.ensures ∙ ap (λ (s : Drawn). min s.rows 100) (sym c.requires.sample)) c.ask-report.ensures.answers
    c.query_done-line.result (map key_of c.answers.result.now) (c.query_done-line.ensures ∙ ap (λ (n : ℕ). query_done n report.cells report.live report.full) from) c.answers.ensures.value)
    (puts_after {first = c.query_done-line.result ∷ []} c.write_first.result c.in-Ok.ensures.puts c.write_first.ensures.puts)

pub returns-in-Err-clause-puts : goal.returns-in-Err-clause-puts
returns-in-Err-clause-puts g c =
    let from : c.from.result ≡ c.args.number = first_of (search rules, grind (arith, common_steps)) in
    let report = c.ask-report.result in
    let engine = c.args.engine.now in
    let best = c.ask-report.new.scratch.best in
    puts_as (Err c.in-Err.halted)
    (asked_lines_are c.args.sample.now c.args.number c.min-wanted.result engine.book engine.store c.query.result.now best report c.args.meters.now c.ask-report.new.meters
    c.query.ensures.bytes (c.min-wanted.ensures ∙ ap (λ (s : Drawn). min s.rows 100) (sym c.requires.sample)) c.ask-report.ensures.answers
    c.query_done-line.result best.pairs (c.query_done-line.ensures ∙ ap (λ (n : ℕ). query_done n report.cells report.live report.full) from) refl)
    (puts_cut {first = c.query_done-line.result ∷ []} c.in-Err.halted (first_lines best.pairs) c.in-Err.ensures.puts)
