-- The grammar of scripts with sessions: the lines of a play, and three more.
use Rattle.std.specs.Prelude.{ℕ, List, [], ◌∷◌, Option, Some, None, Result, bytes_eq, codes, if◌then◌else◌}
use Rattle.play_script.specs.declared.Command.{Command}
use Rattle.play_script.specs.declared.SessionCommand.{SessionCommand}
use Rattle.play_script.specs.declared.SessionCommand.TheVariants.{Plain, Begin, Step, End}
use Rattle.play_script.specs.Grammar.{Fault, number_of, ◌>>=◌, command_of, outcome_by}

-- the numbers behind each verb
abbrev pub begin_of : List (List ℕ) → Option SessionCommand
begin_of (a ∷ b ∷ c ∷ d ∷ []) = do
  sid ← number_of a
  row ← number_of b
  k ← number_of c
  wanted ← number_of d
  Some (Begin sid row k wanted)
begin_of _ = None

abbrev pub step_of : List (List ℕ) → Option SessionCommand
step_of (a ∷ b ∷ []) = do
  sid ← number_of a
  cells ← number_of b
  Some (Step sid cells)
step_of _ = None

abbrev pub end_of : List (List ℕ) → Option SessionCommand
end_of (a ∷ []) = do
  sid ← number_of a
  Some (End sid)
end_of _ = None

-- what the words of a session's line say
unfoldable pub session_line_of : List (List ℕ) → Option SessionCommand
session_line_of [] = None
session_line_of (verb ∷ words) = if bytes_eq verb (codes "begin") then begin_of words
    else (if bytes_eq verb (codes "step") then step_of words
    else (if bytes_eq verb (codes "end") then end_of words else None))

-- a line of a play, or else one of a session
abbrev pub plain_or : Option Command → Option SessionCommand → Option SessionCommand
plain_or (Some command) other = Some (Plain command)
plain_or None other = other

-- what words say
abbrev pub session_command_of : List (List ℕ) → Option SessionCommand
session_command_of words = plain_or (command_of words) (session_line_of words)

-- the commands that bytes say, as those of a play
unfoldable pub session_outcome : List ℕ → Result (List SessionCommand) Fault
session_outcome bytes = outcome_by session_command_of bytes
