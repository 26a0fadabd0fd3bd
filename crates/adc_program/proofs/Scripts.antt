-- The replies to commands, one after another.
use Rattle.std.proofs.Common.{◌≡◌, ℕ, ◌+◌, List, [], ◌∷◌, ◌++◌, length, take, drop, Some, slice_get, refl, sym, ap, ◌∙◌, append_assoc}
use Rattle.std.proofs.lemmas.List.{append-nil, take_more, take-append-drop}
use Rattle.std.proofs.lemmas.Option.{slice_get_within, get_or_from_slice_get}
use Rattle.book_model.specs.Rows.{Row as Stored}
use Rattle.play_script.specs.declared.Command.{Command}
use Rattle.play_script.specs.Texts.{end_line}
use Rattle.play_script.specs.Play.{Means, Asking, Stage, Reply, reply, replies, play_by, asked_by}

lines_append : (means : Means) (stage : Stage) (rows : List Stored) (first rest : List Command)
    → (replies means stage rows (first ++ rest)).lines ≡ (replies means stage rows first).lines ++ (replies means stage (replies means stage rows first).rows rest).lines
lines_append means stage rows [] rest = refl
lines_append means stage rows (command ∷ first) rest =
    let now = reply means stage rows command in
    ap (λ (l : List (List ℕ)). now.lines ++ l) (lines_append means stage now.rows first rest)
    ∙ sym (append_assoc now.lines (replies means stage now.rows first).lines (replies means stage (replies means stage now.rows first).rows rest).lines)

rows_append : (means : Means) (stage : Stage) (rows : List Stored) (first rest : List Command)
    → (replies means stage rows (first ++ rest)).rows ≡ (replies means stage (replies means stage rows first).rows rest).rows
rows_append means stage rows [] rest = refl
rows_append means stage rows (command ∷ first) rest = rows_append means stage (reply means stage rows command).rows first rest

queries_append : (means : Means) (stage : Stage) (rows : List Stored) (first rest : List Command)
    → (replies means stage rows (first ++ rest)).queries ≡ (replies means stage rows first).queries ++ (replies means stage (replies means stage rows first).rows rest).queries
queries_append means stage rows [] rest = refl
queries_append means stage rows (command ∷ first) rest =
    let now = reply means stage rows command in
    ap (λ (l : List Asking). now.queries ++ l) (queries_append means stage now.rows first rest)
    ∙ sym (append_assoc now.queries (replies means stage now.rows first).queries (replies means stage (replies means stage now.rows first).rows rest).queries)

one_more : (commands : List Command) (n : ℕ) (command : Command) → slice_get commands n ≡ Some command → take (n + 1) commands ≡ take n commands ++ command ∷ []
one_more commands n command is =
    take_more commands n command (slice_get_within commands n command is) ∙ ap (λ (c : Command). take n commands ++ c ∷ []) (get_or_from_slice_get commands n command command is)

-- the next command, where the first n have been answered
module _ (means : Means) (stage now : Stage) (rows rows1 : List Stored) (commands : List Command) (n : ℕ) (command : Command)
    (is : slice_get commands n ≡ Some command) (same_stage : now ≡ stage) (same_rows : rows1 ≡ (replies means stage rows (take n commands)).rows) where
  replied : reply means now rows1 command ≡ reply means stage (replies means stage rows (take n commands)).rows command
  replied = rw (same_stage, same_rows) refl

  pub next_lines : (replies means stage rows (take (n + 1) commands)).lines ≡ (replies means stage rows (take n commands)).lines ++ (reply means now rows1 command).lines
  next_lines = ap (λ (c : List Command). (replies means stage rows c).lines) (one_more commands n command is)
      ∙ lines_append means stage rows (take n commands) (command ∷ [])
      ∙ ap (λ (l : List (List ℕ)). (replies means stage rows (take n commands)).lines ++ l) (append-nil _ ∙ sym (ap (λ (r : Reply). r.lines) replied))

  pub next_queries : (replies means stage rows (take n commands)).queries ++ (reply means now rows1 command).queries ≡ (replies means stage rows (take (n + 1) commands)).queries
  next_queries = sym (ap (λ (c : List Command). (replies means stage rows c).queries) (one_more commands n command is)
      ∙ queries_append means stage rows (take n commands) (command ∷ [])
      ∙ ap (λ (l : List Asking). (replies means stage rows (take n commands)).queries ++ l) (append-nil _ ∙ sym (ap (λ (r : Reply). r.queries) replied)))

  pub next_rows : (reply means now rows1 command).rows ≡ (replies means stage rows (take (n + 1) commands)).rows
  next_rows = ap (λ (r : Reply). r.rows) replied
      ∙ sym (ap (λ (c : List Command). (replies means stage rows c).rows) (one_more commands n command is) ∙ rows_append means stage rows (take n commands) (command ∷ []))

  -- the lines up to the next command are the first of all
  pub all_lines : (replies means stage rows commands).lines ≡ ((replies means stage rows (take n commands)).lines ++ (reply means now rows1 command).lines)
      ++ (replies means stage (replies means stage rows (take (n + 1) commands)).rows (drop (n + 1) commands)).lines
  all_lines = ap (λ (c : List Command). (replies means stage rows c).lines) (sym (take-append-drop (n + 1) commands))
      ∙ lines_append means stage rows (take (n + 1) commands) (drop (n + 1) commands)
      ∙ ap (λ (l : List (List ℕ)). l ++ (replies means stage (replies means stage rows (take (n + 1) commands)).rows (drop (n + 1) commands)).lines) next_lines

-- a text is the replies and the end line
pub text_ends : (means : Means) (stage : Stage) (commands : List Command) (rows : List Stored) (line : List ℕ) → rows ≡ [] → line ≡ end_line (length commands) (length (replies means stage rows commands).rows)
    → play_by means stage commands ≡ (replies means stage rows commands).lines ++ line ∷ []
unfolding play_by
text_ends means stage commands rows line empty is = rw (is, empty) refl

-- what a script asks, from no rows on
pub asked_end : (means : Means) (stage : Stage) (commands : List Command) (rows : List Stored) → rows ≡ [] → (replies means stage rows commands).queries ≡ asked_by means stage commands
unfolding asked_by
asked_end means stage commands rows empty = rw empty refl
