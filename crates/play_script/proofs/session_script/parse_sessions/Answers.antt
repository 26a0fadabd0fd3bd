-- The commands of a script with sessions are read as the lines spell them.
use Rattle.std.proofs.Common.{ℕ, List, Result}
use Rattle.play_script.specs.declared.SessionCommand.{SessionCommand}
use Rattle.play_script.specs.declared.script.ScriptError.{ScriptError}
use Rattle.play_script.specs.Gives.{Gives}
use Rattle.play_script.specs.Grammar.{words_of, outcome_by}
use Rattle.play_script.specs.SessionGrammar.{session_command_of, session_outcome}
use Rattle.play_script.specs.Spelling.{IsSessionSpelling}
use Rattle.play_script.proofs.Reading.{Tells, spelled, only, first_fault, fault_again}
use Rattle.play_script.proofs.SessionSpelled.{session_line_spelled, session_line_again}
use Rattle.play_script.proofs.session_script.parse_sessions.Goals as goal

tells_of : (line : List ℕ) → Tells IsSessionSpelling line (session_command_of (words_of line))
tells_of line = (session_line_spelled line, session_line_again line)

outcome : (bytes : List ℕ) (r : Result (List SessionCommand) ScriptError) → Gives (λ (all : List SessionCommand). all) r (session_outcome bytes) → Gives (λ (all : List SessionCommand). all) r (outcome_by session_command_of bytes)
unfolding session_outcome
outcome bytes r gives = gives

pub returns-clause-spelled : goal.returns-clause-spelled
returns-clause-spelled c = spelled IsSessionSpelling session_command_of tells_of c.args.bytes.now c.script_of.result (outcome _ _ c.script_of.ensures)

pub returns-clause-only : goal.returns-clause-only
returns-clause-only c = only IsSessionSpelling session_command_of tells_of c.args.bytes.now c.script_of.result (outcome _ _ c.script_of.ensures)

pub returns-clause-malformed : goal.returns-clause-malformed
returns-clause-malformed c = first_fault IsSessionSpelling session_command_of tells_of c.args.bytes.now c.script_of.result (outcome _ _ c.script_of.ensures)

pub returns-clause-first_bad : goal.returns-clause-first_bad
returns-clause-first_bad c = fault_again IsSessionSpelling session_command_of tells_of c.args.bytes.now c.script_of.result (outcome _ _ c.script_of.ensures)
