-- A line says a command of a script with sessions exactly where it is the one spelling of that command.
use Rattle.std.proofs.Common.{◌≡◌, ℕ, inl, inr, true, List, [], ◌∷◌, codes, decimal, Option, Some, None, refl, sym, ap, ◌∙◌, subst}
use Rattle.std.specs.Prelude.{bytes_eq}
use Rattle.std.specs.List.{join_with_byte}
use Rattle.std.proofs.lemmas.List.Splits.{join_with_byte-slice_split}
use Rattle.std.proofs.lemmas.Slice.Eq.{bytes_eq-Decides}
use Rattle.play_script.specs.declared.Command.{Command}
use Rattle.play_script.specs.declared.SessionCommand.{SessionCommand}
use Rattle.play_script.specs.declared.SessionCommand.TheVariants.{Plain, Begin, Step, End}
use Rattle.play_script.specs.Grammar.{number_of, ◌>>=◌, command_of, words_of}
use Rattle.play_script.specs.SessionGrammar.{begin_of, step_of, end_of, session_line_of, plain_or, session_command_of}
use Rattle.play_script.specs.Spelling.{words, session_words, SessionFits, IsSessionSpelling}
use Rattle.play_script.proofs.Digits.{number_again, no_space}
use Rattle.play_script.proofs.Spelled.{chosen, numbered, plain, command_spelled, command_again, parts_of_words, words_have_none, parts_of_command}

-- the words of a command behind its verb
record Spells (verb : List ℕ) (rest : List (List ℕ)) (command : SessionCommand) : Type 0 where
  fits : SessionFits command
  spelled : verb ∷ rest ≡ session_words command

begin_words : (a b c d : List ℕ) (sid row k wanted : ℕ) (command : SessionCommand) → SessionFits (Begin sid row k wanted) → a ≡ decimal sid → b ≡ decimal row → c ≡ decimal k → d ≡ decimal wanted
    → Begin sid row k wanted ≡ command → Spells (codes "begin") (a ∷ b ∷ c ∷ d ∷ []) command
begin_words a b c d sid row k wanted command fits is_sid is_row is_k is_wanted is =
    subst (λ (q : SessionCommand). Spells (codes "begin") (a ∷ b ∷ c ∷ d ∷ []) q) is (record { fits = fits; spelled = cc })

begin_spelled : (rest : List (List ℕ)) (command : SessionCommand) → begin_of rest ≡ Some command → Spells (codes "begin") rest command
begin_spelled [] command h = cc
begin_spelled (a ∷ []) command h = cc
begin_spelled (a ∷ b ∷ []) command h = cc
begin_spelled (a ∷ b ∷ c ∷ []) command h = cc
begin_spelled (a ∷ b ∷ c ∷ d ∷ e ∷ rest) command h = cc
begin_spelled (a ∷ b ∷ c ∷ d ∷ []) command h =
    let sid = numbered a (λ s. number_of b >>= λ n. number_of c >>= λ m. number_of d >>= λ w. Some (Begin s n m w)) command h in
    let row = numbered b (λ n. number_of c >>= λ m. number_of d >>= λ w. Some (Begin sid.0 n m w)) command sid.3 in
    let k = numbered c (λ m. number_of d >>= λ w. Some (Begin sid.0 row.0 m w)) command row.3 in
    let wanted = numbered d (λ w. Some (Begin sid.0 row.0 k.0 w)) command k.3 in
    let is : Begin sid.0 row.0 k.0 wanted.0 ≡ command = cc in
    begin_words a b c d sid.0 row.0 k.0 wanted.0 command (sid.1, row.1, k.1, wanted.1) sid.2 row.2 k.2 wanted.2 is

step_words : (a b : List ℕ) (sid cells : ℕ) (command : SessionCommand) → SessionFits (Step sid cells) → a ≡ decimal sid → b ≡ decimal cells → Step sid cells ≡ command → Spells (codes "step") (a ∷ b ∷ []) command
step_words a b sid cells command fits is_sid is_cells is =
    subst (λ (q : SessionCommand). Spells (codes "step") (a ∷ b ∷ []) q) is (record { fits = fits; spelled = cc })

step_spelled : (rest : List (List ℕ)) (command : SessionCommand) → step_of rest ≡ Some command → Spells (codes "step") rest command
step_spelled [] command h = cc
step_spelled (a ∷ []) command h = cc
step_spelled (a ∷ b ∷ c ∷ rest) command h = cc
step_spelled (a ∷ b ∷ []) command h =
    let sid = numbered a (λ s. number_of b >>= λ n. Some (Step s n)) command h in
    let cells = numbered b (λ n. Some (Step sid.0 n)) command sid.3 in
    let is : Step sid.0 cells.0 ≡ command = cc in
    step_words a b sid.0 cells.0 command (sid.1, cells.1) sid.2 cells.2 is

end_words : (a : List ℕ) (sid : ℕ) (command : SessionCommand) → SessionFits (End sid) → a ≡ decimal sid → End sid ≡ command → Spells (codes "end") (a ∷ []) command
end_words a sid command fits is_sid is = subst (λ (q : SessionCommand). Spells (codes "end") (a ∷ []) q) is (record { fits = fits; spelled = cc })

end_spelled : (rest : List (List ℕ)) (command : SessionCommand) → end_of rest ≡ Some command → Spells (codes "end") rest command
end_spelled [] command h = cc
end_spelled (a ∷ b ∷ rest) command h = cc
end_spelled (a ∷ []) command h =
    let sid = numbered a (λ s. Some (End s)) command h in
    let is : End sid.0 ≡ command = cc in
    end_words a sid.0 command sid.1 sid.2 is

behind : (verb name : List ℕ) (rest : List (List ℕ)) (command : SessionCommand) → bytes_eq verb name ≡ true → Spells name rest command → SessionFits command × (verb ∷ rest ≡ session_words command)
behind verb name rest command same spells =
    let is : verb ≡ name = (bytes_eq-Decides verb name).0 same in (spells.fits, ap (λ (word : List ℕ). word ∷ rest) is ∙ spells.spelled)

-- words that say a line of a session are its words
line_spelled : (line : List (List ℕ)) (command : SessionCommand) → session_line_of line ≡ Some command → SessionFits command × (line ≡ session_words command)
unfolding session_line_of
line_spelled [] command h = cc
line_spelled (verb ∷ rest) command h =
    elim (chosen (bytes_eq verb (codes "begin")) _ _ (Some command) h) [
      | inl said ↦ behind verb (codes "begin") rest command said.0 (begin_spelled rest command said.1)
      | inr no1 ↦ elim (chosen (bytes_eq verb (codes "step")) _ _ (Some command) no1.1) [
        | inl said ↦ behind verb (codes "step") rest command said.0 (step_spelled rest command said.1)
        | inr no2 ↦ elim (chosen (bytes_eq verb (codes "end")) _ _ (Some command) no2.1) [
          | inl said ↦ behind verb (codes "end") rest command said.0 (end_spelled rest command said.1)
          | inr no3 ↦ cc no3.1
        ]
      ]
    ]

-- so are those of any line
either_spelled : (line : List (List ℕ)) (o : Option Command) (command : SessionCommand) → command_of line ≡ o → plain_or o (session_line_of line) ≡ Some command
    → SessionFits command × (line ≡ session_words command)
either_spelled line None command is h = line_spelled line command h
either_spelled line (Some c) command is h =
    let same : Plain c ≡ command = cc in
    subst (λ (q : SessionCommand). SessionFits q × (line ≡ session_words q)) same (command_spelled line c is)

-- and its words say it
session_command_again : (command : SessionCommand) → SessionFits command → session_command_of (session_words command) ≡ Some command
unfolding command_of session_line_of
session_command_again (Plain command) fits = ap (λ (o : Option Command). plain_or o (session_line_of (words command))) (command_again command fits)
session_command_again (Begin sid row k wanted) fits = rw (number_again sid fits.0, number_again row fits.1, number_again k fits.2, number_again wanted fits.3) refl
session_command_again (Step sid cells) fits = rw (number_again sid fits.0, number_again cells fits.1) refl
session_command_again (End sid) fits = rw (number_again sid fits) refl

-- and none of them has a space
parts_of_line : (command : SessionCommand) → SessionFits command → words_of (join_with_byte 32 (session_words command)) ≡ session_words command
parts_of_line (Plain command) fits = parts_of_command command (words_have_none command fits)
parts_of_line (Begin sid row k wanted) fits = parts_of_words _ _ (plain (codes "begin") refl, (no_space sid fits.0, (no_space row fits.1, (no_space k fits.2, (no_space wanted fits.3, tt)))))
parts_of_line (Step sid cells) fits = parts_of_words _ _ (plain (codes "step") refl, (no_space sid fits.0, (no_space cells fits.1, tt)))
parts_of_line (End sid) fits = parts_of_words _ _ (plain (codes "end") refl, (no_space sid fits, tt))

-- a line that says a command is the spelling of it
pub session_line_spelled : (line : List ℕ) (command : SessionCommand) → session_command_of (words_of line) ≡ Some command → IsSessionSpelling line command
session_line_spelled line command h =
    let both = either_spelled (words_of line) (command_of (words_of line)) command refl h in
    record { fits = both.0; spelled = sym (join_with_byte-slice_split 32 line) ∙ ap (join_with_byte 32) both.1 }

-- and the spelling of a command says it
pub session_line_again : (line : List ℕ) (command : SessionCommand) → IsSessionSpelling line command → session_command_of (words_of line) ≡ Some command
session_line_again line command spelling =
    let parts : words_of line ≡ session_words command = ap words_of spelling.spelled ∙ parts_of_line command spelling.fits in
    ap session_command_of parts ∙ session_command_again command spelling.fits
