-- What a script's commands print, and which rows they leave.
use Rattle.std.specs.Prelude.{ℕ, ◌+◌, ◌*◌, ◌∷◌, [], ◌++◌, List, length, map, sum_by, Option, Some, None, Result, Ok, Err, nat_lt, nat_le, ◌||◌, slice_index_or, codes, if◌then◌else◌}
use Rattle.book_model.specs.declared.limits.TheConstants.{MAX_ID, MAX_ROWS, MAX_K, MAX_WANTED}
use Rattle.book_model.specs.Order.{Pair}
use Rattle.book_model.specs.Book.{Book}
use Rattle.book_model.specs.Rows.{Row as Stored, row_of, cell_of, has_id, insert_row, delete_row, put_row, Refusal, Present as IsPresent, Full as IsFull, Absent as IsAbsent}
use Rattle.book_model.specs.Visit.{Query as Asked, visit, visited}
use Rattle.book_model.specs.Answer.{answer, full_count}
use Rattle.play_script.specs.declared.Command.{Command}
use Rattle.play_script.specs.declared.Command.TheVariants.{Insert, Delete, Put, Query}
use Rattle.play_script.specs.declared.Cause.{Cause}
use Rattle.play_script.specs.declared.Cause.TheVariants.{Row, Id, K, Wanted, Present, Absent, Full}
use Rattle.play_script.specs.Texts.{insert_done, refused, delete_done, put_done, query_done, hit, end_line}

-- what a script is played on
pub record Stage : Type 0 where
  pub book : Book
  pub base : List (List ℕ)
  pub queries : List (List ℕ)

-- what an engine makes of a vector under an id, the answer of a query, and how many of the visited rows are full
pub record Means : Type 0 where
  pub row : Book → ℕ → List ℕ → Stored
  pub answer : Book → Asked → List Stored → List Pair
  pub full : Book → Asked → List Stored → ℕ

-- those of an engine whose rows have the codes of their vectors
abbrev pub by_codes : Means
by_codes = record { row = row_of; answer = answer; full = full_count }

-- a query that is asked of these rows
pub record Asking : Type 0 where
  pub query : Asked
  pub rows : List Stored

-- what a query line tells: how many cells and rows the query visits, and how many of these rows are full
pub record Counts : Type 0 where
  pub cells : ℕ
  pub live : ℕ
  pub full : ℕ

-- the lines that are printed, the rows that are left, and what is asked, if anything is
pub record Reply : Type 0 where
  pub lines : List (List ℕ)
  pub rows : List Stored
  pub queries : List Asking

abbrev pub base_row : Stage → ℕ → List ℕ
base_row stage n = slice_index_or stage.base n []

abbrev pub one_line : List ℕ → List Stored → Reply
one_line text rows = record { lines = text ∷ []; rows = rows; queries = [] }

abbrev pub cause_of : Refusal → Cause
cause_of IsPresent = Present
cause_of IsFull = Full
cause_of IsAbsent = Absent

-- the line of a change that was made, or of its refusal, which leaves the rows
abbrev pub changed : List ℕ → List ℕ → ℕ → List Stored → Result (List Stored) Refusal → Reply
changed done verb id rows (Ok after) = one_line done after
changed done verb id rows (Err e) = one_line (refused verb id (cause_of e)) rows

abbrev pub hits : List Pair → List (List ℕ)
hits pairs = map (λ pair. hit pair.1 pair.0) pairs

abbrev pub asked : Stage → ℕ → ℕ → ℕ → List (ℕ × ℕ) → Asked
asked stage row k wanted ranges = record { vector = slice_index_or stage.queries row []; k = k; wanted = wanted; ranges = ranges }

abbrev pub counts_by : Means → Book → Asked → List Stored → Counts
counts_by means book query rows = record { cells = length (visit book query rows); live = length (visited book query rows); full = means.full book query rows }

abbrev pub counts_of : Book → Asked → List Stored → Counts
counts_of book query rows = counts_by by_codes book query rows

abbrev pub query_line : ℕ → Counts → List ℕ
query_line row counts = query_done row counts.cells counts.live counts.full

-- the line of a query, and a hit for each pair of its answer
unfoldable pub found_by : Means → Book → ℕ → Asked → List Stored → List (List ℕ)
found_by means book row query rows = query_line row (counts_by means book query rows) ∷ hits (means.answer book query rows)

abbrev pub found : Book → ℕ → Asked → List Stored → List (List ℕ)
found book row query rows = found_by by_codes book row query rows

abbrev pub ranges_of : Option (ℕ × ℕ) → List (ℕ × ℕ)
ranges_of None = (0, MAX_ID) ∷ []
ranges_of (Some range) = range ∷ []

-- the first refusal in order; else the change or the answer
unfoldable pub reply : Means → Stage → List Stored → Command → Reply
reply means stage rows (Insert id row) =
    if nat_le (length stage.base) row then one_line (refused (codes "insert") id Row) rows
    else (if nat_lt MAX_ID id then one_line (refused (codes "insert") id Id) rows
    else changed (insert_done id (cell_of stage.book (base_row stage row))) (codes "insert") id rows (insert_row MAX_ROWS rows (means.row stage.book id (base_row stage row))))
reply means stage rows (Delete id) =
    if nat_lt MAX_ID id then one_line (refused (codes "delete") id Id) rows
    else changed (delete_done id) (codes "delete") id rows (delete_row rows id)
reply means stage rows (Put id row) =
    if nat_le (length stage.base) row then one_line (refused (codes "put") id Row) rows
    else (if nat_lt MAX_ID id then one_line (refused (codes "put") id Id) rows
    else changed (put_done id (cell_of stage.book (base_row stage row)) (if has_id rows id then codes "replaced" else codes "added")) (codes "put") id rows
    (put_row MAX_ROWS rows (means.row stage.book id (base_row stage row))))
reply means stage rows (Query row k wanted ids) =
    if nat_le (length stage.queries) row then one_line (refused (codes "query") row Row) rows
    else (if nat_lt k 1 || nat_lt MAX_K k then one_line (refused (codes "query") row K) rows
    else (if nat_lt wanted 1 || nat_lt MAX_WANTED wanted then one_line (refused (codes "query") row Wanted) rows
    else (let query = asked stage row k wanted (ranges_of ids) in
    record { lines = found_by means stage.book row query rows; rows = rows; queries = record { query = query; rows = rows } ∷ [] })))

-- the replies to the commands in order, each asked of the rows that those before it left
abbrev pub replies : Means → Stage → List Stored → List Command → Reply
replies means stage rows [] = record { lines = []; rows = rows; queries = [] }
replies means stage rows (command ∷ commands) =
    let first = reply means stage rows command in
    let others = replies means stage first.rows commands in
    record { lines = first.lines ++ others.lines; rows = others.rows; queries = first.queries ++ others.queries }

-- the lines of a whole script, from no rows on, and what it asks, in order
unfoldable pub play_by : Means → Stage → List Command → List (List ℕ)
play_by means stage commands =
    let all = replies means stage [] commands in
    all.lines ++ end_line (length commands) (length all.rows) ∷ []

unfoldable pub asked_by : Means → Stage → List Command → List Asking
asked_by means stage commands = (replies means stage [] commands).queries

-- what the query lines tell that ask this
abbrev pub told_by : Means → Book → List Asking → List Counts
told_by means book asked = map (λ asking. counts_by means book asking.query asking.rows) asked

-- a play over an engine of codes
abbrev pub play : Stage → List Command → List (List ℕ)
play stage commands = play_by by_codes stage commands

-- how many rows are full in all of these queries, and how many sums of ranked distances they may read
abbrev pub full_sum : List Counts → ℕ
full_sum queries = sum_by (λ query. query.full) queries

abbrev pub sum_limit : List Counts → ℕ
sum_limit queries = sum_by (λ query. 2 * query.cells + 1) queries
