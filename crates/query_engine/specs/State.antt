-- What an engine means: its book and its store.
use Rattle.std.specs.Prelude.{◌≡◌, ℕ, ◌*◌, List, [], ◌∷◌, ◌++◌}
use Rattle.book_model.specs.Book.{Book, IsGood}
use Rattle.book_model.specs.Rows.{Row}
use Rattle.cell_store.specs.State.{Store, live_rows}

pub record State : Type 0 where
  pub book : Book
  pub store : Store

-- the book is good and of the shape, and the store has its sizes
pub record IsEngine (widths : List ℕ) (book : Book) (store : Store) : Type 0 where
  pub good : IsGood book
  pub shape : book.widths ≡ widths
  pub g : store.g ≡ book.g
  pub cells : store.cells ≡ book.k0 * book.k1

-- a store with a pin of its present stamp
abbrev pub pinned_now : Store → Store
pinned_now store = record store { pins = store.pins ++ store.stamp ∷ [] }

-- the live rows of an engine
abbrev pub rows_of : State → List Row
rows_of engine = live_rows engine.store
