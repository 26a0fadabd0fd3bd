-- What the parts of a query's scan stand for: the rows that were visited so far.
use Rattle.std.specs.Prelude.{◌≡◌, ℕ, ◌+◌, ◌≤◌, true, List, ◌++◌, length, take, nat_le}
use Rattle.std.specs.List.{AllByRecursion}
use Rattle.book_model.specs.Book.{Book}
use Rattle.book_model.specs.Rows.{Row}
use Rattle.book_model.specs.Order.{kth_least}
use Rattle.book_model.specs.Answer.{pairs_of, full_after}
use Rattle.shape_core.specs.Word.{IsCode}
use Rattle.best_k.specs.Least.{Kept, least}
use Rattle.adc_tables.specs.Full.{Full, IsFilledFor}
use Rattle.adc_tables.specs.Small.{Small, small_of}
use Rattle.prune_scan.specs.declared.state.ScanState.{ScanState}

-- the parts stand for the rows that a query by a book saw: how many they are, whether they reached k, the k-th least distance
-- of the first k with the small tables that it fills, and the k least pairs
pub record Stands (widths : List ℕ) (tables : Full) (book : Book) (query : List ℕ) (seen : List Row) (state : ScanState) (small : Small) (best : Kept) : Type 0 where
  pub filled : IsFilledFor widths book query tables
  pub codes : AllByRecursion (λ row. IsCode widths tables.g row.code) seen
  pub some : 1 ≤ best.k
  pub rows : state.rows ≡ length seen
  pub pruning : state.pruning ≡ nat_le best.k (length seen)
  pub theta0 : best.k ≤ length seen → state.theta0 ≡ kth_least best.k (pairs_of book query (take best.k seen))
  pub made : best.k ≤ length seen → small ≡ small_of widths tables state.theta0
  pub held : best.pairs ≡ least best.k (pairs_of book query seen)

-- the parts stand for some rows
pub record IsStanding (widths : List ℕ) (tables : Full) (state : ScanState) (small : Small) (best : Kept) : Type 0 where
  pub book : Book
  pub query : List ℕ
  pub seen : List Row
  pub stands : Stands widths tables book query seen state small best

-- the parts, which stood for some rows, stand for them and these
pub record Adds (widths : List ℕ) (tables : Full) (rows : List Row) (state state' : ScanState) (small small' : Small) (best best' : Kept) : Type 0 where
  pub stands : (book : Book) (query : List ℕ) (seen : List Row) → Stands widths tables book query seen state small best → Stands widths tables book query (seen ++ rows) state' small' best'
  pub sizes : (small'.g ≡ small.g) × (best'.k ≡ best.k) × (best'.room ≡ best.room)
  pub stays : state.pruning ≡ true → (small' ≡ small) × (state'.pruning ≡ true)

-- and the meter rose by as many as are full of these
abbrev pub Counts : List ℕ → Full → List Row → ScanState → Small → Kept → ℕ → ℕ → Type 0
Counts widths tables rows state small best full full' = (book : Book) (query : List ℕ) (seen : List Row) → Stands widths tables book query seen state small best →
    full' ≡ full + full_after book query best.k seen rows
