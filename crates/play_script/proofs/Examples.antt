-- The worked rows, from the bytes of a script to the text.
use Rattle.std.proofs.Common.{◌≡◌, ℕ, ◌*◌, List, [], ◌∷◌, ◌++◌, map, refl, Ok, Err, Result}
use Rattle.std.specs.Prelude.{flat_map, codes}
use Rattle.std.specs.Fmt.{digits}
use Rattle.book_model.specs.Sums.{numbers_below}
use Rattle.book_model.specs.Order.{sorted}
use Rattle.book_model.specs.Distance.{dist, nearest}
use Rattle.book_model.specs.Rows.{cell_of, code_of}
use Rattle.book_model.specs.Visit.{cells, cell_sum, visit, visited}
use Rattle.book_model.specs.Bound.{tables, picked_sum, base_sum, step_of, small, bound, threshold}
use Rattle.book_model.specs.Answer.{answer, full_count, is_full, table_distance}
use Rattle.play_script.specs.declared.Command.{Command}
use Rattle.play_script.specs.Grammar.{Fault, BadLine, command_of, commands_from, script_outcome}
use Rattle.play_script.specs.Texts.{insert_done, refused, delete_done, put_done, query_done, hit, end_line}
use Rattle.play_script.specs.Stream.{stream}
use Rattle.play_script.specs.Play.{Stage, found_by, reply, play_by, play}

abbrev pub scaled : List (List ℕ)
scaled = map (λ w. 16 * w ∷ []) (numbers_below 16)

abbrev pub stage : Stage
stage = record {
  book = record {
    version = 1;
    scale = 0;
    d = 4;
    h = 2;
    k0 = 2;
    k1 = 2;
    widths = 4 ∷ 4 ∷ 4 ∷ 4 ∷ [];
    g = 1;
    lengths = 1 ∷ 1 ∷ 1 ∷ 1 ∷ [];
    coarse0 = (0 ∷ 0 ∷ []) ∷ (128 ∷ 128 ∷ []) ∷ [];
    coarse1 = (0 ∷ 0 ∷ []) ∷ (128 ∷ 128 ∷ []) ∷ [];
    subs = scaled ∷ scaled ∷ scaled ∷ scaled ∷ [];
  };
  base = (0 ∷ 0 ∷ 0 ∷ 0 ∷ []) ∷ (130 ∷ 120 ∷ 10 ∷ 0 ∷ []) ∷ (64 ∷ 64 ∷ 64 ∷ 64 ∷ []) ∷ (0 ∷ 0 ∷ 128 ∷ 128 ∷ []) ∷ [];
  queries = (0 ∷ 0 ∷ 0 ∷ 0 ∷ []) ∷ [];
}

abbrev played : Result (List Command) Fault → List (List ℕ)
played (Ok commands) = play stage commands
played (Err e) = []

abbrev text : List ℕ → List ℕ
unfolding script_outcome commands_from command_of play_by reply found_by insert_done refused delete_done put_done query_done hit end_line digits
    answer full_count is_full cells sorted visit visited tables dist cell_sum cell_of code_of nearest picked_sum base_sum step_of bound threshold small table_distance
text script = flat_map (λ l. l) (played (script_outcome script))

nearest_row_of_the_first_cell : text (codes "insert 0 0" ++ 10 ∷ [] ++ codes "insert 1 1" ++ 10 ∷ [] ++ codes "insert 2 2" ++ 10 ∷ [] ++ codes "query 0 1 1" ++ 10 ∷ []) ≡ (codes "insert 0 cell 0" ++ 10 ∷ [] ++ codes "insert 1 cell 2" ++ 10 ∷ [] ++ codes "insert 2 cell 0" ++ 10 ∷ [] ++ codes "query 0 cells 1 live 2 full 1" ++ 10 ∷ [] ++ codes "hit 0 0" ++ 10 ∷ [] ++ codes "end commands 4 live 3" ++ 10 ∷ [])
unfolding text
nearest_row_of_the_first_cell = refl

two_nearest_of_three_cells : text (codes "insert 0 0" ++ 10 ∷ [] ++ codes "insert 1 1" ++ 10 ∷ [] ++ codes "insert 2 2" ++ 10 ∷ [] ++ codes "query 0 2 3" ++ 10 ∷ []) ≡ (codes "insert 0 cell 0" ++ 10 ∷ [] ++ codes "insert 1 cell 2" ++ 10 ∷ [] ++ codes "insert 2 cell 0" ++ 10 ∷ [] ++ codes "query 0 cells 3 live 3 full 2" ++ 10 ∷ [] ++ codes "hit 0 0" ++ 10 ∷ [] ++ codes "hit 2 16384" ++ 10 ∷ [] ++ codes "end commands 4 live 3" ++ 10 ∷ [])
unfolding text
two_nearest_of_three_cells = refl

all_rows_and_no_cell_after_them : text (codes "insert 0 0" ++ 10 ∷ [] ++ codes "insert 1 1" ++ 10 ∷ [] ++ codes "insert 2 2" ++ 10 ∷ [] ++ codes "query 0 1000 9" ++ 10 ∷ []) ≡ (codes "insert 0 cell 0" ++ 10 ∷ [] ++ codes "insert 1 cell 2" ++ 10 ∷ [] ++ codes "insert 2 cell 0" ++ 10 ∷ [] ++ codes "query 0 cells 3 live 3 full 3" ++ 10 ∷ [] ++ codes "hit 0 0" ++ 10 ∷ [] ++ codes "hit 2 16384" ++ 10 ∷ [] ++ codes "hit 1 29184" ++ 10 ∷ [] ++ codes "end commands 4 live 3" ++ 10 ∷ [])
unfolding text
all_rows_and_no_cell_after_them = refl

query_over_no_rows : text (codes "query 0 1 1" ++ 10 ∷ []) ≡ (codes "query 0 cells 0 live 0 full 0" ++ 10 ∷ [] ++ codes "end commands 1 live 0" ++ 10 ∷ [])
unfolding text
query_over_no_rows = refl

cells_with_one_sum_go_by_number : text (codes "insert 7 3" ++ 10 ∷ [] ++ codes "insert 1 1" ++ 10 ∷ [] ++ codes "query 0 1 1" ++ 10 ∷ []) ≡ (codes "insert 7 cell 1" ++ 10 ∷ [] ++ codes "insert 1 cell 2" ++ 10 ∷ [] ++ codes "query 0 cells 2 live 1 full 1" ++ 10 ∷ [] ++ codes "hit 7 32768" ++ 10 ∷ [] ++ codes "end commands 3 live 2" ++ 10 ∷ [])
unfolding text
cells_with_one_sum_go_by_number = refl

rows_with_one_distance_go_by_id : text (codes "insert 5 2" ++ 10 ∷ [] ++ codes "insert 3 2" ++ 10 ∷ [] ++ codes "query 0 1 2" ++ 10 ∷ []) ≡ (codes "insert 5 cell 0" ++ 10 ∷ [] ++ codes "insert 3 cell 0" ++ 10 ∷ [] ++ codes "query 0 cells 1 live 2 full 2" ++ 10 ∷ [] ++ codes "hit 3 16384" ++ 10 ∷ [] ++ codes "end commands 3 live 2" ++ 10 ∷ [])
unfolding text
rows_with_one_distance_go_by_id = refl

deleted_id_comes_back_last : text (codes "insert 0 0" ++ 10 ∷ [] ++ codes "insert 1 1" ++ 10 ∷ [] ++ codes "insert 2 2" ++ 10 ∷ [] ++ codes "delete 0" ++ 10 ∷ [] ++ codes "insert 0 0" ++ 10 ∷ [] ++ codes "query 0 1 1" ++ 10 ∷ []) ≡ (codes "insert 0 cell 0" ++ 10 ∷ [] ++ codes "insert 1 cell 2" ++ 10 ∷ [] ++ codes "insert 2 cell 0" ++ 10 ∷ [] ++ codes "delete 0" ++ 10 ∷ [] ++ codes "insert 0 cell 0" ++ 10 ∷ [] ++ codes "query 0 cells 1 live 2 full 2" ++ 10 ∷ [] ++ codes "hit 0 0" ++ 10 ∷ [] ++ codes "end commands 6 live 3" ++ 10 ∷ [])
unfolding text
deleted_id_comes_back_last = refl

present_and_absent_are_refused : text (codes "insert 0 0" ++ 10 ∷ [] ++ codes "insert 0 1" ++ 10 ∷ [] ++ codes "delete 5" ++ 10 ∷ [] ++ codes "query 0 1 1" ++ 10 ∷ []) ≡ (codes "insert 0 cell 0" ++ 10 ∷ [] ++ codes "insert 0 refused present" ++ 10 ∷ [] ++ codes "delete 5 refused absent" ++ 10 ∷ [] ++ codes "query 0 cells 1 live 1 full 1" ++ 10 ∷ [] ++ codes "hit 0 0" ++ 10 ∷ [] ++ codes "end commands 4 live 1" ++ 10 ∷ [])
unfolding text
present_and_absent_are_refused = refl

ids_that_pass : text (codes "insert 0 0" ++ 10 ∷ [] ++ codes "insert 1 1" ++ 10 ∷ [] ++ codes "insert 2 2" ++ 10 ∷ [] ++ codes "query 0 1 1 ids 1 1" ++ 10 ∷ [] ++ codes "query 0 1 1 ids 7 9" ++ 10 ∷ [] ++ codes "query 0 1 1 ids 2 1" ++ 10 ∷ []) ≡ (codes "insert 0 cell 0" ++ 10 ∷ [] ++ codes "insert 1 cell 2" ++ 10 ∷ [] ++ codes "insert 2 cell 0" ++ 10 ∷ [] ++ codes "query 0 cells 3 live 1 full 1" ++ 10 ∷ [] ++ codes "hit 1 29184" ++ 10 ∷ [] ++ codes "query 0 cells 0 live 0 full 0" ++ 10 ∷ [] ++ codes "query 0 cells 0 live 0 full 0" ++ 10 ∷ [] ++ codes "end commands 6 live 3" ++ 10 ∷ [])
unfolding text
ids_that_pass = refl

numbers_out_of_range : text (codes "query 0 0 1" ++ 10 ∷ [] ++ codes "query 0 1001 1" ++ 10 ∷ [] ++ codes "query 0 1 0" ++ 10 ∷ [] ++ codes "query 0 1 4194305" ++ 10 ∷ [] ++ codes "query 1 0 0" ++ 10 ∷ [] ++ codes "insert 2147483648 0" ++ 10 ∷ [] ++ codes "insert 2147483648 4" ++ 10 ∷ [] ++ codes "delete 2147483648" ++ 10 ∷ []) ≡ (codes "query 0 refused k" ++ 10 ∷ [] ++ codes "query 0 refused k" ++ 10 ∷ [] ++ codes "query 0 refused wanted" ++ 10 ∷ [] ++ codes "query 0 refused wanted" ++ 10 ∷ [] ++ codes "query 1 refused row" ++ 10 ∷ [] ++ codes "insert 2147483648 refused id" ++ 10 ∷ [] ++ codes "insert 2147483648 refused row" ++ 10 ∷ [] ++ codes "delete 2147483648 refused id" ++ 10 ∷ [] ++ codes "end commands 8 live 0" ++ 10 ∷ [])
unfolding text
numbers_out_of_range = refl

put_of_a_live_id_goes_last : text (codes "insert 0 0" ++ 10 ∷ [] ++ codes "insert 1 1" ++ 10 ∷ [] ++ codes "insert 2 2" ++ 10 ∷ [] ++ codes "put 0 0" ++ 10 ∷ [] ++ codes "query 0 1 1" ++ 10 ∷ []) ≡ (codes "insert 0 cell 0" ++ 10 ∷ [] ++ codes "insert 1 cell 2" ++ 10 ∷ [] ++ codes "insert 2 cell 0" ++ 10 ∷ [] ++ codes "put 0 cell 0 replaced" ++ 10 ∷ [] ++ codes "query 0 cells 1 live 2 full 2" ++ 10 ∷ [] ++ codes "hit 0 0" ++ 10 ∷ [] ++ codes "end commands 5 live 3" ++ 10 ∷ [])
unfolding text
put_of_a_live_id_goes_last = refl

put_moves_adds_and_is_refused : text (codes "insert 0 0" ++ 10 ∷ [] ++ codes "insert 1 1" ++ 10 ∷ [] ++ codes "insert 2 2" ++ 10 ∷ [] ++ codes "put 0 3" ++ 10 ∷ [] ++ codes "query 0 1 1" ++ 10 ∷ [] ++ codes "put 9 0" ++ 10 ∷ [] ++ codes "query 0 1 1" ++ 10 ∷ [] ++ codes "put 1 9" ++ 10 ∷ []) ≡ (codes "insert 0 cell 0" ++ 10 ∷ [] ++ codes "insert 1 cell 2" ++ 10 ∷ [] ++ codes "insert 2 cell 0" ++ 10 ∷ [] ++ codes "put 0 cell 1 replaced" ++ 10 ∷ [] ++ codes "query 0 cells 1 live 1 full 1" ++ 10 ∷ [] ++ codes "hit 2 16384" ++ 10 ∷ [] ++ codes "put 9 cell 0 added" ++ 10 ∷ [] ++ codes "query 0 cells 1 live 2 full 2" ++ 10 ∷ [] ++ codes "hit 9 0" ++ 10 ∷ [] ++ codes "put 1 refused row" ++ 10 ∷ [] ++ codes "end commands 8 live 4" ++ 10 ∷ [])
unfolding text
put_moves_adds_and_is_refused = refl

abbrev outcome : List ℕ → Result (List Command) Fault
unfolding script_outcome commands_from command_of
outcome script = script_outcome script

words_are_missing : outcome (codes "insert 0") ≡ Err (BadLine 1)
unfolding outcome
words_are_missing = refl

number_with_a_leading_zero : outcome (codes "# a comment" ++ 10 ∷ 10 ∷ [] ++ codes "insert 01 0") ≡ Err (BadLine 3)
unfolding outcome
number_with_a_leading_zero = refl

two_spaces : outcome (codes "delete  0") ≡ Err (BadLine 1)
unfolding outcome
two_spaces = refl

sample_front : stream 4 1 ≡ 131 ∷ 44 ∷ 79 ∷ 136 ∷ []
unfolding stream
sample_front = refl
