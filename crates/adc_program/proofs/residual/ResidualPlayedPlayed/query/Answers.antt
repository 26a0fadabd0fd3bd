use Rattle.std.proofs.Common.{◌∙◌, ℕ, List, ◌∷◌, ap, subst}
use Rattle.play_script.specs.Texts.{query_done}
use Rattle.play_script.specs.Play.{hits}
use Rattle.adc_program.specs.Steps.{Puts}
use Rattle.adc_program.proofs.ResidualQueries.{residual_found}
use Rattle.adc_program.proofs.residual.ResidualPlayedPlayed.query.Goals as goal

pub returns-clause-puts : goal.returns-clause-puts
returns-clause-puts g c =
    let engine = c.args.self.now.engine in
    let report = c.ask-report.result in
    subst (λ (lines : List (List ℕ)). Puts c.write_found.result lines (g.K.Sink.state c.args.out.now) (g.K.Sink.state c.write_found.new.out))
    (ap (λ (pairs : List (ℕ × ℕ)). query_done c.args.asked.number report.cells report.live report.full ∷ hits pairs) c.answers.ensures.value
    ∙ residual_found engine.book _ engine.store _ _ report _ _ c.ask-report.ensures.answers c.args.asked.number)
    c.write_found.ensures.puts
