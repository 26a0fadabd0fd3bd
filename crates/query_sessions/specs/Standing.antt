-- What a session keeps, and the book and rows that it stands for.
use Rattle.std.specs.Prelude.{◌≡◌, ℕ, ◌<◌, ◌≤◌, Bool, true, List, length}
use Rattle.std.specs.List.{Contains}
use Rattle.book_model.specs.Book.{Book}
use Rattle.book_model.specs.Rows.{Row, passing}
use Rattle.book_model.specs.Visit.{Query, visit, visited, needed}
use Rattle.book_model.specs.Answer.{answer, full_count}
use Rattle.cell_store.specs.State.{rows_at}
use Rattle.coarse_rank.specs.Ranked.{cells_of}
use Rattle.query_engine.specs.Parts.{Scratched, StandsFor}
use Rattle.query_engine.specs.Progress.{HasVisited, first_full}
use Rattle.query_engine.specs.Report.{query_of}
use Rattle.query_engine.specs.State.{State}
use Rattle.query_sessions.specs.declared.Step.{Step}
use Rattle.query_sessions.specs.declared.Step.TheVariants.{More, Ended}

-- what callers see of a session: its pinned stamp, its query, how many rows its visit is to hold, its parts, how many visited rows were
-- full, and whether a step answered that it ended
pub record Opened : Type 0 where
  pub stamp : ℕ
  pub query : List ℕ
  pub k : ℕ
  pub wanted : ℕ
  pub ranges : List (ℕ × ℕ)
  pub needed : ℕ
  pub parts : Scratched
  pub full : ℕ
  pub ended : Bool

-- its query
abbrev pub asked_by : Opened → Query
asked_by session = query_of session.query session.k session.wanted session.ranges

-- how many cells it visited
abbrev pub cells_given : Opened → ℕ
cells_given session = session.parts.walk.given

-- how many cells its visit has over these rows
abbrev pub cells_in_all : Book → List Row → Opened → ℕ
cells_in_all book rows session = length (visit book (asked_by session) rows)

-- the session stands for a book and a list of rows: it was asked by the book, its parts stand for the rows of the first cells of its visit, and
-- its counts are theirs
pub record StandsOver (widths : List ℕ) (book : Book) (rows : List Row) (session : Opened) : Type 0 where
  pub asked : StandsFor widths book session.query session.parts.ranks session.parts.full
  pub visited : HasVisited widths (passing session.ranges rows) session.parts
  pub k : session.parts.best.k ≡ session.k
  pub needed_is : session.needed ≡ needed (asked_by session) rows
  pub within : cells_given session ≤ cells_in_all book rows session
  pub full : session.full ≡ first_full book session.query session.k (passing session.ranges rows) (cells_of session.parts.ranks) (cells_given session)
  pub over : session.ended ≡ true → cells_given session ≡ cells_in_all book rows session

-- the session can go on over an engine: its stamp is pinned, and it stands for the book and the rows at its stamp
pub record CanGoOn (widths : List ℕ) (engine : State) (session : Opened) : Type 0 where
  pub pinned : Contains engine.store.pins session.stamp
  pub stands : StandsOver widths engine.book (rows_at session.stamp engine.store.kept) session

-- its best pairs are the answer over these rows, and its counts are those of the whole visit
pub record HasAnswered (book : Book) (rows : List Row) (session : Opened) : Type 0 where
  pub answers : session.parts.best.pairs ≡ answer book (asked_by session) rows
  pub cells : cells_given session ≡ cells_in_all book rows session
  pub live : session.parts.state.rows ≡ length (visited book (asked_by session) rows)
  pub full : session.full ≡ full_count book (asked_by session) rows

-- the session was opened at this stamp with this question
pub record IsQuestion (stamp : ℕ) (query : List ℕ) (k wanted : ℕ) (ranges : List (ℕ × ℕ)) (session : Opened) : Type 0 where
  pub stamp_is : session.stamp ≡ stamp
  pub query_is : session.query ≡ query
  pub k_is : session.k ≡ k
  pub wanted_is : session.wanted ≡ wanted
  pub ranges_is : session.ranges ≡ ranges

-- the question and the pin are as before
pub record SameQuestion (old new : Opened) : Type 0 where
  pub stamp : new.stamp ≡ old.stamp
  pub query : new.query ≡ old.query
  pub k : new.k ≡ old.k
  pub wanted : new.wanted ≡ old.wanted
  pub ranges : new.ranges ≡ old.ranges

-- more if cells remain, ended if none does
abbrev pub SaysWhether : Step → ℕ → ℕ → Type 0
SaysWhether More given all = given < all
SaysWhether Ended given all = given ≡ all
