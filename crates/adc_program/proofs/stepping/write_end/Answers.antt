use Rattle.std.proofs.Common.{◌≡◌, ◌∙◌, ℕ, List, [], ◌∷◌, Ok, Err, true, sym, ap, ap₂, subst}
use Rattle.std.specs.Prelude.{if◌then◌else◌}
use Rattle.play_script.specs.Texts.{session_done, session_dropped}
use Rattle.play_script.specs.Play.{hits}
use Rattle.query_sessions.specs.Standing.{cells_given}
use Rattle.adc_program.specs.Steps.{Puts}
use Rattle.adc_program.proofs.Putting.{puts_after, puts_cut}
use Rattle.adc_program.proofs.Writing.{handed_on}
use Rattle.adc_program.proofs.stepping.write_end.Goals as goal

pub returns-in_err-write_line-clause-puts : goal.returns-in_err-write_line-clause-puts
returns-in_err-write_line-clause-puts g c =
    let s = c.args.session.now in
    let over : s.ended ≡ true = sym c.ended.ensures ∙ c.if-not-ended.false in
    let old = g.K.Sink.state c.args.out.now in
    let new = g.K.Sink.state c.write_line-2.new.out in
    let done : List ℕ = session_done c.args.sid (cells_given s) s.parts.state.rows s.full in
    let line : c.session_done.result ≡ done =
    c.session_done.ensures ∙ ap₂ (λ (cells live : ℕ). session_done c.args.sid cells live c.report-report.result.full) c.report-report.ensures.cells c.report-report.ensures.live ∙ ap (session_done c.args.sid (cells_given s) s.parts.state.rows) c.report-report.ensures.full in
    subst (λ b. Puts c.from_residual.result (if b then done ∷ hits s.parts.best.pairs else session_dropped c.args.sid ∷ []) old new) (sym over)
    (handed_on (λ r. Puts r (done ∷ hits s.parts.best.pairs) old new) c.from_residual.result c.in_err-write_line.field-0.0 c.from_residual.ensures.1
    (puts_cut c.in_err-write_line.field-0.0 (hits s.parts.best.pairs) (subst (λ (l : List ℕ). Puts (Err c.in_err-write_line.field-0.0) (l ∷ []) old new) line c.in_err-write_line.ensures.puts)))

pub returns-clause-puts : goal.returns-clause-puts
returns-clause-puts g c =
    let s = c.args.session.now in
    let over : s.ended ≡ true = sym c.ended.ensures ∙ c.if-not-ended.false in
    let old = g.K.Sink.state c.args.out.now in
    let mid = g.K.Sink.state c.write_line-2.new.out in
    let new = g.K.Sink.state c.write_hits.new.out in
    let done : List ℕ = session_done c.args.sid (cells_given s) s.parts.state.rows s.full in
    let line : c.session_done.result ≡ done =
    c.session_done.ensures ∙ ap₂ (λ (cells live : ℕ). session_done c.args.sid cells live c.report-report.result.full) c.report-report.ensures.cells c.report-report.ensures.live ∙ ap (session_done c.args.sid (cells_given s) s.parts.state.rows) c.report-report.ensures.full in
    subst (λ b. Puts c.write_hits.result (if b then done ∷ hits s.parts.best.pairs else session_dropped c.args.sid ∷ []) old new) (sym over)
    (puts_after c.write_hits.result (subst (λ (l : List ℕ). Puts (Ok tt) (l ∷ []) old mid) line c.in_ok-write_line.ensures.puts)
    (subst (λ (ps : List (ℕ × ℕ)). Puts c.write_hits.result (hits ps) mid new) c.answers.ensures.value c.write_hits.ensures.puts))
