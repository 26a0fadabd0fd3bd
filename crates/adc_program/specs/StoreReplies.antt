-- What a line of a play prints over a store, which tells what is refused, and the store that it leaves.
use Rattle.std.specs.Prelude.{◌≡◌, ℕ, List, [], ◌∷◌, Option, Some, None, nat_lt, nat_le, codes, length, if◌then◌else◌}
use Rattle.book_model.specs.declared.limits.TheConstants.{MAX_ID}
use Rattle.book_model.specs.Book.{Book}
use Rattle.book_model.specs.Rows.{cell_of, has_id}
use Rattle.cell_store.specs.State.{Store, live_rows, inserted, PinnedStay}
use Rattle.cell_store.specs.Held.{deleted, put_done as with_put, put_cause, KeepsAs}
use Rattle.cell_store.specs.Refusals.{insert_refusal}
use Rattle.play_script.specs.declared.Command.{Command}
use Rattle.play_script.specs.declared.Command.TheVariants.{Insert, Delete, Put, Query}
use Rattle.play_script.specs.declared.Cause.{Cause}
use Rattle.play_script.specs.declared.Cause.TheVariants as cause
use Rattle.play_script.specs.Texts.{insert_done, refused, delete_done, put_done}
use Rattle.play_script.specs.Play.{Means, Stage, Asking, base_row, asked, ranges_of, found_by}
use Rattle.play_script.specs.Sessions.{cause_of_insert, cause_of_put}
use Rattle.adc_program.specs.Queries.{query_cause}

-- the lines that are printed, the store that is left, and what is asked, if anything is
pub record StoreReply : Type 0 where
  pub lines : List (List ℕ)
  pub after : Store
  pub queries : List Asking

abbrev pub says : List ℕ → Store → StoreReply
says text store = record { lines = text ∷ []; after = store; queries = [] }

-- a refused line leaves the store
abbrev pub unless : Option Cause → List ℕ → ℕ → Store → StoreReply → StoreReply
unless None verb n store done = done
unless (Some why) verb n store done = says (refused verb n why) store

-- why a row number or an id is refused, before a store is asked
abbrev pub number_cause : Stage → ℕ → ℕ → Option Cause → Option Cause
number_cause stage id row others = if nat_le (length stage.base) row then Some cause.Row else (if nat_lt MAX_ID id then Some cause.Id else others)

abbrev pub id_cause : Store → ℕ → Option Cause
id_cause store id = if nat_lt MAX_ID id then Some cause.Id else (if has_id (live_rows store) id then None else Some cause.Absent)

-- an insert and a put that a store accepts
abbrev pub with_insert : Means → Book → Store → ℕ → List ℕ → StoreReply
with_insert means book store id v = says (insert_done id (cell_of book v)) (inserted store (means.row book id v))

abbrev pub with_vector : Means → Book → Store → ℕ → List ℕ → StoreReply
with_vector means book store id v = says (put_done id (cell_of book v) (if has_id (live_rows store) id then codes "replaced" else codes "added")) (with_put store (means.row book id v))

-- an insert and a put of a vector
abbrev pub insert_over : Means → Book → Store → ℕ → List ℕ → StoreReply
insert_over means book store id v = unless (cause_of_insert (insert_refusal store id)) (codes "insert") id store (with_insert means book store id v)

abbrev pub put_over : Means → Book → Store → ℕ → List ℕ → StoreReply
put_over means book store id v = unless (cause_of_put (put_cause store (means.row book id v))) (codes "put") id store (with_vector means book store id v)

abbrev pub query_over : Means → Stage → Store → ℕ → ℕ → ℕ → Option (ℕ × ℕ) → StoreReply
query_over means stage store row k wanted ids =
    let query = asked stage row k wanted (ranges_of ids) in
    record { lines = found_by means stage.book row query (live_rows store); after = store; queries = record { query = query; rows = live_rows store } ∷ [] }

-- a line of a play
unfoldable pub store_reply : Means → Stage → Store → Command → StoreReply
store_reply means stage store (Insert id row) = unless (number_cause stage id row (cause_of_insert (insert_refusal store id))) (codes "insert") id store (with_insert means stage.book store id (base_row stage row))
store_reply means stage store (Delete id) = unless (id_cause store id) (codes "delete") id store (says (delete_done id) (deleted store id))
store_reply means stage store (Put id row) =
    unless (number_cause stage id row (cause_of_put (put_cause store (means.row stage.book id (base_row stage row))))) (codes "put") id store (with_vector means stage.book store id (base_row stage row))
store_reply means stage store (Query row k wanted ids) = unless (query_cause (length stage.queries) row k wanted) (codes "query") row store (query_over means stage store row k wanted ids)

-- a line that is all of a reply, and a store that keeps what the reply leaves
pub record IsReply (line : List ℕ) (store : Store) (reply : StoreReply) : Type 0 where
  pub lines : reply.lines ≡ line ∷ []
  pub keeps : KeepsAs store reply.after
  pub queries : reply.queries ≡ []

-- the pins are as they were, and so are the rows at each pinned stamp
pub record StaysPinned (old new : Store) : Type 0 where
  pub pins : new.pins ≡ old.pins
  pub rows : PinnedStay old new

-- two replies that print the same, over stores that keep the same
pub record SameReply (a b : StoreReply) : Type 0 where
  pub lines : a.lines ≡ b.lines
  pub keeps : KeepsAs a.after b.after
  pub queries : a.queries ≡ b.queries
