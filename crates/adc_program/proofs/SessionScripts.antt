-- The replies to the commands of a script with sessions, one after another.
use Rattle.std.proofs.Common.{◌≡◌, ℕ, ◌+◌, List, [], ◌∷◌, ◌++◌, length, map, take, drop, Some, slice_get, refl, sym, ap, ◌∙◌, append_assoc}
use Rattle.std.proofs.lemmas.List.{append-nil, take_more, take-append-drop}
use Rattle.std.proofs.lemmas.Option.{slice_get_within, get_or_from_slice_get}
use Rattle.play_script.specs.declared.SessionCommand.{SessionCommand}
use Rattle.play_script.specs.Texts.{end_line}
use Rattle.play_script.specs.Play.{Counts, Stage}
use Rattle.play_script.specs.Sessions.{Standing, SessionReply, session_reply, session_replies, session_play, session_counts, no_changes, rows_now, visited_by}

lines_append : (stage : Stage) (standing : Standing) (first rest : List SessionCommand)
    → (session_replies stage standing (first ++ rest)).lines ≡ (session_replies stage standing first).lines ++ (session_replies stage (session_replies stage standing first).after rest).lines
lines_append stage standing [] rest = refl
lines_append stage standing (command ∷ first) rest =
    let now = session_reply stage standing command in
    ap (λ (l : List (List ℕ)). now.lines ++ l) (lines_append stage now.after first rest)
    ∙ sym (append_assoc now.lines (session_replies stage now.after first).lines (session_replies stage (session_replies stage now.after first).after rest).lines)

after_append : (stage : Stage) (standing : Standing) (first rest : List SessionCommand)
    → (session_replies stage standing (first ++ rest)).after ≡ (session_replies stage (session_replies stage standing first).after rest).after
after_append stage standing [] rest = refl
after_append stage standing (command ∷ first) rest = after_append stage (session_reply stage standing command).after first rest

visits_append : (stage : Stage) (standing : Standing) (first rest : List SessionCommand)
    → (session_replies stage standing (first ++ rest)).visits ≡ (session_replies stage standing first).visits ++ (session_replies stage (session_replies stage standing first).after rest).visits
visits_append stage standing [] rest = refl
visits_append stage standing (command ∷ first) rest =
    let now = session_reply stage standing command in
    ap (λ (l : List Counts). now.visits ++ l) (visits_append stage now.after first rest)
    ∙ sym (append_assoc now.visits (session_replies stage now.after first).visits (session_replies stage (session_replies stage now.after first).after rest).visits)

one_more : (commands : List SessionCommand) (n : ℕ) (command : SessionCommand) → slice_get commands n ≡ Some command → take (n + 1) commands ≡ take n commands ++ command ∷ []
one_more commands n command is =
    take_more commands n command (slice_get_within commands n command is) ∙ ap (λ (c : SessionCommand). take n commands ++ c ∷ []) (get_or_from_slice_get commands n command command is)

-- the next command, where the first n have been answered
module _ (stage now : Stage) (standing : Standing) (commands : List SessionCommand) (n : ℕ) (command : SessionCommand) (is : slice_get commands n ≡ Some command) (same : now ≡ stage) where
  abbrev so_far : SessionReply
  so_far = session_replies stage standing (take n commands)

  abbrev reply_now : SessionReply
  reply_now = session_reply now so_far.after command

  replied : reply_now ≡ session_reply stage so_far.after command
  replied = ap (λ (s : Stage). session_reply s so_far.after command) same

  pub next_lines : (session_replies stage standing (take (n + 1) commands)).lines ≡ so_far.lines ++ reply_now.lines
  next_lines = ap (λ (c : List SessionCommand). (session_replies stage standing c).lines) (one_more commands n command is)
      ∙ lines_append stage standing (take n commands) (command ∷ [])
      ∙ ap (λ (l : List (List ℕ)). so_far.lines ++ l) (append-nil _ ∙ sym (ap (λ (r : SessionReply). r.lines) replied))

  pub next_visits : so_far.visits ++ reply_now.visits ≡ (session_replies stage standing (take (n + 1) commands)).visits
  next_visits = sym (ap (λ (c : List SessionCommand). (session_replies stage standing c).visits) (one_more commands n command is)
      ∙ visits_append stage standing (take n commands) (command ∷ [])
      ∙ ap (λ (l : List Counts). so_far.visits ++ l) (append-nil _ ∙ sym (ap (λ (r : SessionReply). r.visits) replied)))

  pub next_after : reply_now.after ≡ (session_replies stage standing (take (n + 1) commands)).after
  next_after = ap (λ (r : SessionReply). r.after) replied
      ∙ sym (ap (λ (c : List SessionCommand). (session_replies stage standing c).after) (one_more commands n command is) ∙ after_append stage standing (take n commands) (command ∷ []))

  -- the lines up to the next command are the first of all
  pub all_lines : (session_replies stage standing commands).lines ≡ (so_far.lines ++ reply_now.lines)
      ++ (session_replies stage (session_replies stage standing (take (n + 1) commands)).after (drop (n + 1) commands)).lines
  all_lines = ap (λ (c : List SessionCommand). (session_replies stage standing c).lines) (sym (take-append-drop (n + 1) commands))
      ∙ lines_append stage standing (take (n + 1) commands) (drop (n + 1) commands)
      ∙ ap (λ (l : List (List ℕ)). l ++ (session_replies stage (session_replies stage standing (take (n + 1) commands)).after (drop (n + 1) commands)).lines) next_lines

-- a text is the replies and the end line
pub text_ends : (stage : Stage) (commands : List SessionCommand) (line : List ℕ) → line ≡ end_line (length commands) (length (rows_now (session_replies stage no_changes commands).after))
    → session_play stage commands ≡ (session_replies stage no_changes commands).lines ++ line ∷ []
unfolding session_play
text_ends stage commands line is = rw is refl

pub counts_end : (stage : Stage) (commands : List SessionCommand)
    → (let all : SessionReply = session_replies stage no_changes commands in all.visits ++ map (visited_by stage all.after) all.after.opened) ≡ session_counts stage commands
unfolding session_counts
counts_end stage commands = refl
