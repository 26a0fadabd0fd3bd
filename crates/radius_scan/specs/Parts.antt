-- The parts of a query by radius.
use Rattle.std.specs.Prelude.{◌≡◌, ℕ, List}
use Rattle.book_model.specs.Book.{Book}
use Rattle.book_model.specs.Order.{Pair}
use Rattle.coarse_rank.specs.Ranked.{Ranked}
use Rattle.pair_walk.specs.Walking.{Walking}
use Rattle.adc_tables.specs.Full.{Full}
use Rattle.adc_tables.specs.Small.{Small}

-- what callers see of a scratch: ranked coarse words, a walk over them, full tables, small tables, for how many pairs there is room, and the pairs
pub record RadiusParts : Type 0 where
  pub ranks : Ranked
  pub walk : Walking
  pub full : Full
  pub small : Small
  pub room : ℕ
  pub pairs : List Pair

-- the room is that of the book's sizes
pub record HasRadiusRoom (book : Book) (scratch : RadiusParts) : Type 0 where
  pub k0 : scratch.ranks.k0 ≡ book.k0
  pub k1 : scratch.ranks.k1 ≡ book.k1
  pub full : scratch.full.g ≡ book.g
  pub small : scratch.small.g ≡ book.g
