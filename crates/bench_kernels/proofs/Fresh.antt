-- A scan that begins, and the rows of one cell.
use Rattle.std.proofs.Common.{◌≡◌, ℕ, zero, suc, ◌≤◌, false, List, [], length, refl, sym, ap, ◌∙◌, arith, Bool, ◌==◌}
use Rattle.std.specs.Prelude.{filter}
use Rattle.std.proofs.lemmas.Bool.{lt-leb}
use Rattle.book_model.specs.Book.{Book}
use Rattle.book_model.specs.Order.{sorted}
use Rattle.best_k.specs.Least.{Kept, least}
use Rattle.adc_tables.specs.Full.{Full, IsFilledFor}
use Rattle.adc_tables.specs.Small.{Small}
use Rattle.prune_scan.specs.Standing.{IsStanding}
use Rattle.cell_store.specs.State.{Kept as KeptRow, passing_at, kept_in}
use Rattle.cell_store.specs.Slots.{slot_passes}
use Rattle.cell_store.specs.Blocks.{slot_of}
use Rattle.cell_store.proofs.Counts.{passing_count}
use Rattle.book_model.proofs.FilterLemmas.{filter_swap, length_filter_le}

least_none : (k : ℕ) → least k [] ≡ []
unfolding least sorted
least_none zero = refl
least_none (suc k) = refl

pub fresh : (widths : List ℕ) (tables : Full) (book : Book) (query : List ℕ) (small : Small) (best : Kept) → IsFilledFor widths book query tables → 1 ≤ best.k → best.pairs ≡ []
    → IsStanding widths tables (record { rows = 0; pruning = false; theta0 = 0 }) small best
fresh widths tables book query small best filled some none = record {
  book = book;
  query = query;
  seen = [];
  stands = record {
    filled = filled;
    codes = tt;
    some = some;
    rows = refl;
    pruning = sym (lt-leb best.k 0 (omega (arith, some)));
    theta0 = λ le. absurd (omega (arith, le, some));
    made = λ le. absurd (omega (arith, le, some));
    held = none ∙ sym (least_none best.k);
  };
}

-- no more rows of one cell pass than of all
pub passing_in_cell : (ranges : List (ℕ × ℕ)) (stamp cell : ℕ) (xs : List KeptRow) → length (passing_at ranges stamp (kept_in cell xs)) ≤ length (passing_at ranges stamp xs)
passing_in_cell ranges stamp cell xs =
    let in_cell : KeptRow → Bool = λ k. k.row.cell == cell in
    let passes : KeptRow → Bool = λ k. slot_passes ranges stamp (slot_of k) in
    omega (
      arith,
      passing_count ranges stamp (kept_in cell xs),
      passing_count ranges stamp xs,
      ap length (filter_swap passes in_cell xs),
      length_filter_le in_cell (filter passes xs),
    )
