-- The codes of a cell's rows that pass.
use Rattle.std.proofs.Common.{ℕ, List, ◌==◌}
use Rattle.std.specs.List.{AllByRecursion}
use Rattle.book_model.specs.Rows.{Row}
use Rattle.book_model.proofs.AllLemmas.{all_filter, all_weaken}
use Rattle.shape_core.specs.Word.{IsCode}
use Rattle.cell_store.specs.State.{Kept, passing_at, kept_in}
use Rattle.cell_store.specs.Held.{IsRow}
use Rattle.query_engine.proofs.Passing.{passing_all}

pub cell_codes : (ranges : List (ℕ × ℕ)) (stamp cell : ℕ) (kept : List Kept) (widths : List ℕ) (g n : ℕ) → AllByRecursion (λ (k : Kept). IsRow widths g n k.row) kept
    → AllByRecursion (λ (row : Row). IsCode widths g row.code) (passing_at ranges stamp (kept_in cell kept))
cell_codes ranges stamp cell kept widths g n rows =
    passing_all ranges stamp (kept_in cell kept) (λ (row : Row). IsCode widths g row.code)
    (all_filter (λ (k : Kept). IsCode widths g k.row.code) (λ (k : Kept). k.row.cell == cell) kept (all_weaken (λ (k : Kept). IsCode widths g k.row.code) (λ (k : Kept). IsRow widths g n k.row) kept (λ k row. row.code) rows))
