-- How commands are spelled, and which lines say them.
use Rattle.std.specs.Prelude.{◌≡◌, ℕ, zero, suc, ◌^◌, ◌<◌, List, [], ◌∷◌, Option, Some, None, codes, decimal}
use Rattle.std.specs.Bool.{MatchBool}
use Rattle.std.specs.List.{join_with_byte}
use Rattle.play_script.specs.declared.Command.{Command}
use Rattle.play_script.specs.declared.Command.TheVariants.{Insert, Delete, Put, Query}
use Rattle.play_script.specs.declared.SessionCommand.{SessionCommand}
use Rattle.play_script.specs.declared.SessionCommand.TheVariants.{Plain, Begin, Step, End}
use Rattle.play_script.specs.Grammar.{is_blank}

abbrev pub range_words : Option (ℕ × ℕ) → List (List ℕ)
range_words None = []
range_words (Some range) = codes "ids" ∷ decimal range.0 ∷ decimal range.1 ∷ []

abbrev pub words : Command → List (List ℕ)
words (Insert id row) = codes "insert" ∷ decimal id ∷ decimal row ∷ []
words (Delete id) = codes "delete" ∷ decimal id ∷ []
words (Put id row) = codes "put" ∷ decimal id ∷ decimal row ∷ []
words (Query row k wanted ids) = codes "query" ∷ decimal row ∷ decimal k ∷ decimal wanted ∷ range_words ids

-- numbers of at most 18 digits
abbrev pub RangeFits : Option (ℕ × ℕ) → Type 0
RangeFits None = Unit {0}
RangeFits (Some range) = (range.0 < 10 ^ 18) × (range.1 < 10 ^ 18)

abbrev pub Fits : Command → Type 0
Fits (Insert id row) = (id < 10 ^ 18) × (row < 10 ^ 18)
Fits (Delete id) = id < 10 ^ 18
Fits (Put id row) = (id < 10 ^ 18) × (row < 10 ^ 18)
Fits (Query row k wanted ids) = (row < 10 ^ 18) × (k < 10 ^ 18) × (wanted < 10 ^ 18) × RangeFits ids

-- the line is the one spelling of a command: its words, with a space between each two
pub record IsSpelling (line : List ℕ) (command : Command) : Type 0 where
  pub fits : Fits command
  pub spelled : line ≡ join_with_byte 32 (words command)

-- the words of a line of a script with sessions
abbrev pub session_words : SessionCommand → List (List ℕ)
session_words (Plain command) = words command
session_words (Begin sid row k wanted) = codes "begin" ∷ decimal sid ∷ decimal row ∷ decimal k ∷ decimal wanted ∷ []
session_words (Step sid cells) = codes "step" ∷ decimal sid ∷ decimal cells ∷ []
session_words (End sid) = codes "end" ∷ decimal sid ∷ []

abbrev pub SessionFits : SessionCommand → Type 0
SessionFits (Plain command) = Fits command
SessionFits (Begin sid row k wanted) = (sid < 10 ^ 18) × (row < 10 ^ 18) × (k < 10 ^ 18) × (wanted < 10 ^ 18)
SessionFits (Step sid cells) = (sid < 10 ^ 18) × (cells < 10 ^ 18)
SessionFits (End sid) = sid < 10 ^ 18

pub record IsSessionSpelling (line : List ℕ) (command : SessionCommand) : Type 0 where
  pub fits : SessionFits command
  pub spelled : line ≡ join_with_byte 32 (session_words command)

-- the lines that are not blank spell these commands, in order, by what spells a command
abbrev pub FirstSays : {C : Type 0} → (List ℕ → C → Type 0) → List ℕ → (List C → Type 0) → List C → Type 0
FirstSays Spells line others [] = ⊥
FirstSays Spells line others (command ∷ commands) = Spells line command × others commands

abbrev pub Says : {C : Type 0} → (List ℕ → C → Type 0) → List (List ℕ) → List C → Type 0
Says Spells [] commands = commands ≡ []
Says Spells (line ∷ lines) commands = MatchBool (is_blank line) (Says Spells lines commands) (FirstSays Spells line (λ rest. Says Spells lines rest) commands)

-- a line that is blank, or spells a command
abbrev pub IsGoodLine : {C : Type 0} → (List ℕ → C → Type 0) → List ℕ → Type 0
IsGoodLine {C} Spells line = MatchBool (is_blank line) (Unit {0}) ((command : C) × Spells line command)

-- the line at this place, from 0 on, is the first that is neither
abbrev pub FirstBad : {C : Type 0} → (List ℕ → C → Type 0) → List (List ℕ) → ℕ → Type 0
FirstBad Spells [] i = ⊥
FirstBad Spells (line ∷ lines) zero = ¬ IsGoodLine Spells line
FirstBad Spells (line ∷ lines) (suc i) = IsGoodLine Spells line × FirstBad Spells lines i
