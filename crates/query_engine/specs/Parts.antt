-- The parts of a query, and the book and the query that they stand for.
use Rattle.std.specs.Prelude.{◌≡◌, ℕ, List}
use Rattle.book_model.specs.Book.{Book}
use Rattle.book_model.specs.Visit.{cells}
use Rattle.coarse_rank.specs.Ranked.{Ranked, IsFilled, ranks_of, cells_of}
use Rattle.pair_walk.specs.Walking.{Walking}
use Rattle.adc_tables.specs.Full.{Full, IsFilledFor}
use Rattle.adc_tables.specs.Small.{Small}
use Rattle.best_k.specs.Least.{Kept}
use Rattle.prune_scan.specs.declared.state.ScanState.{ScanState}

-- what callers see of a scratch: ranked coarse words, a walk over them, full tables, small tables, the best pairs,
-- and how far the scan has come
pub record Scratched : Type 0 where
  pub ranks : Ranked
  pub walk : Walking
  pub full : Full
  pub small : Small
  pub best : Kept
  pub state : ScanState

-- the room is that of the book's sizes
pub record HasRoomFor (book : Book) (scratch : Scratched) : Type 0 where
  pub k0 : scratch.ranks.k0 ≡ book.k0
  pub k1 : scratch.ranks.k1 ≡ book.k1
  pub full : scratch.full.g ≡ book.g
  pub small : scratch.small.g ≡ book.g

-- ranks and full tables are those that the two fills give for a book and a query
pub record StandsFor (widths : List ℕ) (book : Book) (query : List ℕ) (ranks : Ranked) (full : Full) : Type 0 where
  pub ranks_are : ranks ≡ ranks_of book query
  pub ranked : IsFilled ranks
  pub order : cells_of ranks ≡ cells book query
  pub tables : IsFilledFor widths book query full

-- they are those of some book and query
pub record IsAsked (widths : List ℕ) (ranks : Ranked) (full : Full) : Type 0 where
  pub book : Book
  pub query : List ℕ
  pub stands : StandsFor widths book query ranks full

-- the query is the same: its ranks and tables, and how many pairs it keeps
pub record SameQuery (old new : Scratched) : Type 0 where
  pub ranks : new.ranks ≡ old.ranks
  pub full : new.full ≡ old.full
  pub k : new.best.k ≡ old.best.k
  pub room : new.best.room ≡ old.best.room
