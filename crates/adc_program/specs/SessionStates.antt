-- A play with sessions as it stands: its engine and its sessions, and the changes and sessions of the definition that they stand for.
use Rattle.std.specs.Prelude.{◌≡◌, ℕ, ◌+◌, ◌≤◌, ◌<◌, Bool, ◌==◌, true, false, List, [], ◌∷◌, ◌++◌, length, map, ⊤}
use Rattle.std.specs.List.{AllByRecursion, IsDistinct}
use Rattle.book_model.specs.declared.limits.TheConstants.{MAX_ROWS}
use Rattle.cell_store.specs.State.{Store, rows_at, live_rows}
use Rattle.cell_store.specs.Held.{KeepsAs, IsTimed}
use Rattle.play_script.specs.Play.{Stage, Counts, full_sum, sum_limit}
use Rattle.play_script.specs.Sessions.{Standing, OpenSession, SessionReply, store_of, rows_now, rows_then, query_of, visited_by}
use Rattle.query_engine.specs.State.{State}
use Rattle.prune_scan.specs.declared.meters.Meters.{Meters}
use Rattle.query_sessions.specs.Standing.{Opened, CanGoOn, cells_given}
use Rattle.adc_program.specs.declared.opened.HeldSession.{HeldSession}

abbrev pub stamp_of : {S : Type 0} → HeldSession S → ℕ
stamp_of held = held.session.stamp

-- what is known of a session: its number, its stamp, its query, how many cells it visited, and whether it is over
pub record Known : Type 0 where
  pub sid : ℕ
  pub stamp : ℕ
  pub vector : List ℕ
  pub k : ℕ
  pub wanted : ℕ
  pub ranges : List (ℕ × ℕ)
  pub given : ℕ
  pub over : Bool

abbrev pub known_by : ℕ → Opened → Known
known_by sid s = record { sid = sid; stamp = s.stamp; vector = s.query; k = s.k; wanted = s.wanted; ranges = s.ranges; given = cells_given s; over = s.ended }

abbrev pub known : {S : Type 0} → HeldSession S → Known
known held = known_by held.sid held.session

abbrev pub known_of : Stage → OpenSession → Known
known_of stage s = (let q = query_of stage s in record { sid = s.sid; stamp = s.stamp; vector = q.vector; k = q.k; wanted = q.wanted; ranges = q.ranges; given = s.given; over = s.over })

-- a held session can go on
abbrev pub IsOpen : {S : Type 0} → List ℕ → State → HeldSession S → Type 0
IsOpen widths engine held = CanGoOn widths engine held.session

-- none is above one behind it
abbrev pub Ascending : List ℕ → Type 0
Ascending [] = ⊤
Ascending (x ∷ xs) = AllByRecursion (λ y. x ≤ y) xs × Ascending xs

-- the held sessions are those of the engine's pins, in the order in which they were opened
pub record AreOpen {S : Type 0} (widths : List ℕ) (engine : State) (held : List (HeldSession S)) : Type 0 where
  pub pins : engine.store.pins ≡ map stamp_of held
  pub rising : Ascending engine.store.pins
  pub each : AllByRecursion (IsOpen widths engine) held

-- the store of these changes has their rows, now and at each pinned stamp
pub record IsModel (stage : Stage) (standing : Standing) : Type 0 where
  pub timed : IsTimed (store_of stage standing)
  pub most : (store_of stage standing).most ≡ MAX_ROWS
  pub stamp : (store_of stage standing).stamp ≡ length standing.edits
  pub now : live_rows (store_of stage standing) ≡ rows_now standing
  pub pinned : AllByRecursion (λ s. rows_at s (store_of stage standing).kept ≡ rows_then standing s) (map (λ session. session.stamp) standing.opened)
  pub apart : IsDistinct (λ a b. a == b) (map (λ session. session.sid) standing.opened)

-- engine and held sessions are those of these changes and open sessions
pub record StandsAs {S : Type 0} (stage : Stage) (standing : Standing) (store : Store) (held : List (HeldSession S)) : Type 0 where
  pub model : IsModel stage standing
  pub keeps : KeepsAs store (store_of stage standing)
  pub sessions : map known held ≡ map (known_of stage) standing.opened

-- what the open sessions visited by now
abbrev pub open_counts : Stage → Standing → List Counts
open_counts stage standing = map (visited_by stage standing) standing.opened

-- the work from these visits on to those
pub record Spends (before after : List Counts) (old new : Meters) : Type 0 where
  pub full : new.full + full_sum before ≡ old.full + full_sum after
  pub pairs : (old.pairs ≤ new.pairs) × (new.pairs + sum_limit before ≤ old.pairs + sum_limit after)

-- after the reply to a line, engine and held sessions are those that it leaves, and the meters rose by what it and the sessions visited
pub record IsNext {S : Type 0} (stage : Stage) (before : Standing) (reply : SessionReply) (store : Store) (held : List (HeldSession S)) (old new : Meters) : Type 0 where
  pub stands : StandsAs stage reply.after store held
  pub spends : Spends (open_counts stage before) (reply.visits ++ open_counts stage reply.after) old new

-- a session is over exactly if it visited all cells of its visit
abbrev pub SaysOver : Bool → ℕ → ℕ → Type 0
SaysOver true given all = given ≡ all
SaysOver false given all = given < all
