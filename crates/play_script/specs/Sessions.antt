-- What a script with sessions prints.
use Rattle.std.specs.Prelude.{ℕ, ◌+◌, ◌-◌, ◌*◌, Bool, false, ◌||◌, not, List, [], ◌∷◌, ◌++◌, length, map, filter, fold, take, min, Option, Some, None, nat_lt, nat_le, ◌==◌, codes, if◌then◌else◌}
use Rattle.std.specs.List.{list_any, find}
use Rattle.book_model.specs.declared.limits.TheConstants.{MAX_ID, MAX_ROWS, MAX_K, MAX_WANTED}
use Rattle.book_model.specs.Rows.{Row as Stored, Edit, Insert as Inserts, Delete as Deletes, Put as Puts, row_of, cell_of, has_id, rows_after, passing}
use Rattle.book_model.specs.Visit.{Query as Asked, cells, visit, rows_of_cells}
use Rattle.book_model.specs.Answer.{answer, full_after}
use Rattle.cell_store.specs.State.{Store, inserted, empty}
use Rattle.cell_store.specs.Held.{deleted, put_done as with_put, put_cause}
use Rattle.cell_store.specs.Refusals.{insert_refusal}
use Rattle.cell_store.specs.declared.InsertRefusal.{InsertRefusal}
use Rattle.cell_store.specs.declared.InsertRefusal.TheVariants as insert
use Rattle.cell_store.specs.declared.PutRefusal.{PutRefusal}
use Rattle.cell_store.specs.declared.PutRefusal.TheVariants as put
use Rattle.play_script.specs.declared.Command.{Command}
use Rattle.play_script.specs.declared.Command.TheVariants.{Insert, Delete, Put, Query}
use Rattle.play_script.specs.declared.SessionCommand.{SessionCommand}
use Rattle.play_script.specs.declared.SessionCommand.TheVariants.{Plain, Begin, Step, End}
use Rattle.play_script.specs.declared.session_script.TheConstants.{MAX_SESSIONS}
use Rattle.play_script.specs.declared.Cause.{Cause}
use Rattle.play_script.specs.declared.Cause.TheVariants as cause
use Rattle.play_script.specs.Texts.{insert_done, refused, delete_done, put_done, begin_done, step_done, session_done, session_dropped, end_line}
use Rattle.play_script.specs.Play.{Stage, Counts, base_row, asked, ranges_of, counts_of, found, hits}

-- an open session: its number, the stamp whose rows it reads, the row, k and wanted of its query, how many cells it visited, and whether a step
-- said that its visit is over
pub record OpenSession : Type 0 where
  pub sid : ℕ
  pub stamp : ℕ
  pub row : ℕ
  pub k : ℕ
  pub wanted : ℕ
  pub given : ℕ
  pub over : Bool

-- the changes that were accepted so far, and the open sessions
pub record Standing : Type 0 where
  pub edits : List Edit
  pub opened : List OpenSession

-- the lines that are printed, what is left, and what the queries and sessions that are over by this line visited
pub record SessionReply : Type 0 where
  pub lines : List (List ℕ)
  pub after : Standing
  pub visits : List Counts

-- the rows at a stamp: those after so many accepted changes
abbrev pub rows_then : Standing → ℕ → List Stored
rows_then standing stamp = rows_after MAX_ROWS [] (take stamp standing.edits)

abbrev pub rows_now : Standing → List Stored
rows_now standing = rows_then standing (length standing.edits)

-- a store that keeps each row that ever was, in which the stamps of the open sessions are pinned: it tells which change is refused
abbrev pub edited : Store → Edit → Store
edited store (Inserts row) = inserted store row
edited store (Deletes id) = deleted store id
edited store (Puts row) = with_put store row

abbrev pub store_of : Stage → Standing → Store
store_of stage standing = record (fold edited (empty stage.book.g (stage.book.k0 * stage.book.k1) MAX_ROWS) standing.edits) { pins = map (λ session. session.stamp) standing.opened }

-- why a store refuses; that memory runs out is no cause
abbrev pub cause_of_insert : Option InsertRefusal → Option Cause
cause_of_insert None = None
cause_of_insert (Some insert.Present) = Some cause.Present
cause_of_insert (Some insert.Full) = Some cause.Full
cause_of_insert (Some insert.Held) = Some cause.Held
cause_of_insert (Some insert.Memory) = None

abbrev pub cause_of_put : Option PutRefusal → Option Cause
cause_of_put None = None
cause_of_put (Some put.Full) = Some cause.Full
cause_of_put (Some put.Held) = Some cause.Held
cause_of_put (Some put.Memory) = None

-- why a line is refused, by the first cause in order
abbrev pub insert_cause : Stage → Standing → ℕ → ℕ → Option Cause
insert_cause stage standing id row = if nat_le (length stage.base) row then Some cause.Row
    else (if nat_lt MAX_ID id then Some cause.Id else cause_of_insert (insert_refusal (store_of stage standing) id))

abbrev pub delete_cause : Standing → ℕ → Option Cause
delete_cause standing id = if nat_lt MAX_ID id then Some cause.Id
    else (if has_id (rows_now standing) id then None else Some cause.Absent)

abbrev pub put_line_cause : Stage → Standing → ℕ → ℕ → Option Cause
put_line_cause stage standing id row = if nat_le (length stage.base) row then Some cause.Row
    else (if nat_lt MAX_ID id then Some cause.Id else cause_of_put (put_cause (store_of stage standing) (row_of stage.book id (base_row stage row))))

abbrev pub query_cause : Stage → ℕ → ℕ → ℕ → Option Cause
query_cause stage row k wanted = if nat_le (length stage.queries) row then Some cause.Row
    else (if nat_lt k 1 || nat_lt MAX_K k then Some cause.K
    else (if nat_lt wanted 1 || nat_lt MAX_WANTED wanted then Some cause.Wanted else None))

abbrev pub begin_cause : Standing → ℕ → Option Cause
begin_cause standing sid = if list_any (λ session. session.sid == sid) standing.opened then Some cause.Taken
    else (if nat_le MAX_SESSIONS (length standing.opened) then Some cause.Sessions else None)

-- a refused line leaves all as it was
abbrev pub refuses : Cause → List ℕ → ℕ → Standing → SessionReply
refuses why verb n standing = record { lines = refused verb n why ∷ []; after = standing; visits = [] }

abbrev pub unless : Option Cause → List ℕ → ℕ → Standing → SessionReply → SessionReply
unless None verb n standing done = done
unless (Some why) verb n standing done = refuses why verb n standing

abbrev pub changes : List ℕ → Edit → Standing → SessionReply
changes text edit standing = record { lines = text ∷ []; after = record standing { edits = standing.edits ++ edit ∷ [] }; visits = [] }

-- a line of a play
unfoldable pub plain_reply : Stage → Standing → Command → SessionReply
plain_reply stage standing (Insert id row) =
    unless (insert_cause stage standing id row) (codes "insert") id standing (changes (insert_done id (cell_of stage.book (base_row stage row))) (Inserts (row_of stage.book id (base_row stage row))) standing)
plain_reply stage standing (Delete id) = unless (delete_cause standing id) (codes "delete") id standing (changes (delete_done id) (Deletes id) standing)
plain_reply stage standing (Put id row) =
    unless (put_line_cause stage standing id row) (codes "put") id standing
    (changes (put_done id (cell_of stage.book (base_row stage row)) (if has_id (rows_now standing) id then codes "replaced" else codes "added")) (Puts (row_of stage.book id (base_row stage row))) standing)
plain_reply stage standing (Query row k wanted ids) =
    let query = asked stage row k wanted (ranges_of ids) in
    unless (query_cause stage row k wanted) (codes "query") row standing
    (record { lines = found stage.book row query (rows_now standing); after = standing; visits = counts_of stage.book query (rows_now standing) ∷ [] })

-- the query of a session, which all ids pass, and the rows of the first cells that it visited
abbrev pub query_of : Stage → OpenSession → Asked
query_of stage session = asked stage session.row session.k session.wanted (ranges_of None)

abbrev pub seen_by : Stage → Standing → OpenSession → List Stored
seen_by stage standing session =
    let query = query_of stage session in
    rows_of_cells (passing query.ranges (rows_then standing session.stamp)) (take session.given (cells stage.book query.vector))

-- what it visited by now
abbrev pub visited_by : Stage → Standing → OpenSession → Counts
visited_by stage standing session =
    let seen = seen_by stage standing session in
    record { cells = session.given; live = length seen; full = full_after stage.book (query_of stage session).vector session.k [] seen }

-- a step visits the lesser of its cells and of those that remain of the visit, which is over if none remains
abbrev pub stepped : Stage → Standing → ℕ → OpenSession → OpenSession
stepped stage standing budget session =
    let all = length (visit stage.book (query_of stage session) (rows_then standing session.stamp)) in
    let given = session.given + min budget (all - session.given) in
    record session { given = given; over = given == all }

-- the open session of a number, all with a new one in its place, and the others
abbrev pub session_of : Standing → ℕ → Option OpenSession
session_of standing sid = find (λ session. session.sid == sid) standing.opened

abbrev pub with_session : Standing → OpenSession → List OpenSession
with_session standing now = map (λ session. if session.sid == now.sid then now else session) standing.opened

abbrev pub others_of : Standing → ℕ → List OpenSession
others_of standing sid = filter (λ session. not (session.sid == sid)) standing.opened

-- the lines of a session
abbrev pub begins : Standing → ℕ → ℕ → ℕ → ℕ → SessionReply
begins standing sid row k wanted =
    let stamp = length standing.edits in
    record {
      lines = begin_done sid stamp ∷ [];
      after = record standing { opened = standing.opened ++ record { sid = sid; stamp = stamp; row = row; k = k; wanted = wanted; given = 0; over = false } ∷ [] };
      visits = [];
    }

abbrev pub step_line : ℕ → Counts → Bool → List ℕ
step_line sid counts over = step_done sid counts.cells counts.live counts.full over

abbrev pub steps : Stage → Standing → ℕ → ℕ → Option OpenSession → SessionReply
steps stage standing sid budget None = refuses cause.Absent (codes "step") sid standing
steps stage standing sid budget (Some session) =
    let now = stepped stage standing budget session in
    unless (if nat_lt budget 1 || nat_lt 1048576 budget then Some cause.Cells else None) (codes "step") sid standing
    (record { lines = step_line sid (visited_by stage standing now) now.over ∷ []; after = record standing { opened = with_session standing now }; visits = [] })

abbrev pub session_line : ℕ → Counts → List ℕ
session_line sid counts = session_done sid counts.cells counts.live counts.full

abbrev pub ends : Stage → Standing → ℕ → Option OpenSession → SessionReply
ends stage standing sid None = refuses cause.Absent (codes "end") sid standing
ends stage standing sid (Some session) =
    let counts = visited_by stage standing session in
    record {
      lines = if session.over then session_line sid counts ∷ hits (answer stage.book (query_of stage session) (rows_then standing session.stamp)) else session_dropped sid ∷ [];
      after = record standing { opened = others_of standing sid };
      visits = counts ∷ [];
    }

-- the reply to a line
unfoldable pub session_reply : Stage → Standing → SessionCommand → SessionReply
session_reply stage standing (Plain command) = plain_reply stage standing command
session_reply stage standing (Begin sid row k wanted) = unless (query_cause stage row k wanted) (codes "begin") sid standing (unless (begin_cause standing sid) (codes "begin") sid standing (begins standing sid row k wanted))
session_reply stage standing (Step sid budget) = steps stage standing sid budget (session_of standing sid)
session_reply stage standing (End sid) = ends stage standing sid (session_of standing sid)

-- the replies to the commands in order, each asked of what those before it left
abbrev pub session_replies : Stage → Standing → List SessionCommand → SessionReply
session_replies stage standing [] = record { lines = []; after = standing; visits = [] }
session_replies stage standing (command ∷ commands) =
    let first = session_reply stage standing command in
    let others = session_replies stage first.after commands in
    record { lines = first.lines ++ others.lines; after = others.after; visits = first.visits ++ others.visits }

-- before the first line no change was made, and no session is open
abbrev pub no_changes : Standing
no_changes = record { edits = []; opened = [] }

-- the lines of a whole script; sessions that are still open print nothing
unfoldable pub session_play : Stage → List SessionCommand → List (List ℕ)
session_play stage commands =
    let all = session_replies stage no_changes commands in
    all.lines ++ end_line (length commands) (length (rows_now all.after)) ∷ []

-- what all queries and sessions of a whole script visited, those among them that are still open
unfoldable pub session_counts : Stage → List SessionCommand → List Counts
session_counts stage commands =
    let all = session_replies stage no_changes commands in
    all.visits ++ map (visited_by stage all.after) all.after.opened
