use Rattle.std.proofs.Common.{◌==◌, ◌∙◌}
use Rattle.play_script.proofs.Cuts.{some_part}
use Rattle.play_script.proofs.words.Words.end.Goals as goal

pub returns-in-Some : goal.returns-in-Some
returns-in-Some c = λ none. some_part (λ b. b == 32) c.in-Some.field-0.now (rw c.in-Some.is at (c.self.view_is ∙ none))
