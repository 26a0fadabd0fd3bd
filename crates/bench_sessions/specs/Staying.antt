-- What the changes of a benchmark leave of an engine.
use Rattle.std.specs.Prelude.{◌≡◌}
use Rattle.cell_store.specs.State.{PinnedStay}
use Rattle.query_engine.specs.State.{State}

-- the book, the pins and the rows at each pinned stamp are as before
pub record Stays (old new : State) : Type 0 where
  pub book : new.book ≡ old.book
  pub pins : new.store.pins ≡ old.store.pins
  pub rows : PinnedStay old.store new.store
