-- The worked sessions, from the bytes of a script to the text.
use Rattle.std.proofs.Common.{◌≡◌, ℕ, List, [], ◌∷◌, ◌++◌, refl, Ok, Err, Result}
use Rattle.std.specs.Prelude.{flat_map, codes}
use Rattle.std.specs.Fmt.{digits}
use Rattle.book_model.specs.Order.{sorted}
use Rattle.book_model.specs.Distance.{dist, nearest}
use Rattle.book_model.specs.Rows.{cell_of, code_of}
use Rattle.book_model.specs.Visit.{cells, cell_sum, visit, visited}
use Rattle.book_model.specs.Bound.{tables, picked_sum, base_sum, step_of, small, bound, threshold}
use Rattle.book_model.specs.Answer.{answer, full_count, is_full, table_distance}
use Rattle.play_script.specs.declared.SessionCommand.{SessionCommand}
use Rattle.play_script.specs.Grammar.{Fault, command_of, commands_from}
use Rattle.play_script.specs.SessionGrammar.{session_line_of, session_outcome}
use Rattle.play_script.specs.Texts.{insert_done, refused, delete_done, put_done, query_done, hit, end_line, begin_done, step_done, session_done, session_dropped}
use Rattle.play_script.specs.Play.{Counts, found_by}
use Rattle.play_script.specs.Sessions.{plain_reply, session_reply, session_play, session_counts}
use Rattle.play_script.proofs.Examples.{stage}

abbrev lines : List (List ℕ) → List ℕ
lines texts = flat_map (λ text. text ++ 10 ∷ []) texts

abbrev printed : Result (List SessionCommand) Fault → List ℕ
printed (Ok commands) = flat_map (λ text. text) (session_play stage commands)
printed (Err e) = []

abbrev tallied : Result (List SessionCommand) Fault → List Counts
tallied (Ok commands) = session_counts stage commands
tallied (Err e) = []

abbrev text : List (List ℕ) → List ℕ
unfolding session_outcome commands_from command_of session_line_of session_play session_reply plain_reply found_by insert_done refused delete_done put_done query_done hit end_line begin_done step_done session_done session_dropped digits
    answer full_count is_full cells sorted visit visited tables dist cell_sum cell_of code_of nearest picked_sum base_sum step_of bound threshold small table_distance
text script = printed (session_outcome (lines script))

abbrev counts : List (List ℕ) → List Counts
unfolding session_outcome commands_from command_of session_line_of session_counts session_reply plain_reply digits
    answer full_count is_full cells sorted visit visited tables dist cell_sum cell_of code_of nearest picked_sum base_sum step_of bound threshold small table_distance
counts script = tallied (session_outcome (lines script))

abbrev interleaved : List (List ℕ)
interleaved = codes "insert 0 0" ∷ codes "insert 1 1" ∷ codes "insert 2 2" ∷ codes "begin 1 0 1 3" ∷ codes "delete 0" ∷ codes "step 1 1" ∷ codes "query 0 1 1" ∷ codes "step 1 9" ∷ codes "end 1" ∷ []

a_session_reads_the_rows_of_its_opening : text interleaved ≡ lines (codes "insert 0 cell 0" ∷ codes "insert 1 cell 2" ∷ codes "insert 2 cell 0" ∷ codes "begin 1 stamp 3" ∷ codes "delete 0" ∷ codes "step 1 cells 1 live 2 full 1 more"
    ∷ codes "query 0 cells 1 live 1 full 1" ∷ codes "hit 2 16384" ∷ codes "step 1 cells 3 live 3 full 1 ended" ∷ codes "session 1 cells 3 live 3 full 1" ∷ codes "hit 0 0" ∷ codes "end commands 9 live 2" ∷ [])
unfolding text
a_session_reads_the_rows_of_its_opening = refl

what_was_visited : counts interleaved ≡ record { cells = 1; live = 1; full = 1 } ∷ record { cells = 3; live = 3; full = 1 } ∷ []
unfolding counts
what_was_visited = refl

refused_lines : text (codes "step 4 1" ∷ codes "begin 4 0 1 1" ∷ codes "begin 4 0 1 1" ∷ codes "step 4 0" ∷ codes "end 4" ∷ [])
    ≡ lines (codes "step 4 refused absent" ∷ codes "begin 4 stamp 0" ∷ codes "begin 4 refused taken" ∷ codes "step 4 refused cells" ∷ codes "session 4 dropped" ∷ codes "end commands 5 live 0" ∷ [])
unfolding text
refused_lines = refl

-- a script without sessions says no line of one
begin_of_a_play : text (codes "begin 4 0 1" ∷ []) ≡ []
unfolding text
begin_of_a_play = refl
