-- The commands of a play are read as the lines spell them.
use Rattle.std.proofs.Common.{ℕ, List, Result}
use Rattle.play_script.specs.declared.Command.{Command}
use Rattle.play_script.specs.declared.script.ScriptError.{ScriptError}
use Rattle.play_script.specs.Gives.{Gives}
use Rattle.play_script.specs.Grammar.{command_of, words_of, script_outcome, outcome_by}
use Rattle.play_script.specs.Spelling.{IsSpelling}
use Rattle.play_script.proofs.Reading.{Tells, spelled, only, first_fault, fault_again}
use Rattle.play_script.proofs.Spelled.{line_spelled, line_again}
use Rattle.play_script.proofs.script.parse.Goals as goal

tells_of : (line : List ℕ) → Tells IsSpelling line (command_of (words_of line))
tells_of line = (line_spelled line, line_again line)

outcome : (bytes : List ℕ) (r : Result (List Command) ScriptError) → Gives (λ (all : List Command). all) r (script_outcome bytes) → Gives (λ (all : List Command). all) r (outcome_by command_of bytes)
unfolding script_outcome
outcome bytes r gives = gives

pub returns-clause-spelled : goal.returns-clause-spelled
returns-clause-spelled c = spelled IsSpelling command_of tells_of c.args.bytes.now c.script_of.result (outcome _ _ c.script_of.ensures)

pub returns-clause-only : goal.returns-clause-only
returns-clause-only c = only IsSpelling command_of tells_of c.args.bytes.now c.script_of.result (outcome _ _ c.script_of.ensures)

pub returns-clause-malformed : goal.returns-clause-malformed
returns-clause-malformed c = first_fault IsSpelling command_of tells_of c.args.bytes.now c.script_of.result (outcome _ _ c.script_of.ensures)

pub returns-clause-first_bad : goal.returns-clause-first_bad
returns-clause-first_bad c = fault_again IsSpelling command_of tells_of c.args.bytes.now c.script_of.result (outcome _ _ c.script_of.ensures)
