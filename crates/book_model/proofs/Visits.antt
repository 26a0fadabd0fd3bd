-- What a visit holds where the rows lie in the book's cells, and that an answer has the least of its pairs.
use Rattle.std.proofs.Common.{◌≡◌, ℕ, zero, suc, ◌+◌, ◌*◌, ◌<◌, List, length, map, take, drop, refl, ap, ◌∙◌, arith, inl, inr}
use Rattle.std.specs.List.{AllByRecursion, sum_by}
use Rattle.std.proofs.lemmas.List.{length-take, take-append-drop}
use Rattle.std.proofs.lemmas.List.Concat.{length-flat_map}
use Rattle.std.proofs.lemmas.List.FromFn.{sum_by-map-range_with_len_more}
use Rattle.std.proofs.lemmas.List.Sorted.{sum_by-IsPermutation}
use Rattle.book_model.specs.Sums.{sum_below, numbers_below}
use Rattle.book_model.specs.Order.{Pair, sorted, pair_cmp}
use Rattle.book_model.specs.Distance.{nearest}
use Rattle.book_model.specs.Book.{Book, part0, part1}
use Rattle.book_model.specs.Rows.{Row, cell_of, rows_in, passing, in_ranges}
use Rattle.book_model.specs.Visit.{cell_sum, cells, visited, rows_of_cells}
use Rattle.book_model.specs.Answer.{answer, pairs_of}
use Rattle.book_model.specs.Laws.{AnswerIsLeast, AreLeast, RowsLieInCells, VisitHoldsNeeded}
use Rattle.book_model.proofs.AllLemmas.{all_filter}
use Rattle.book_model.proofs.Best.{length-sorted}
use Rattle.book_model.proofs.Cells.{cells_are_ordered, total_rows, visit_is_shortest}
use Rattle.book_model.proofs.Nearest.{nearest_is_first}
use Rattle.book_model.proofs.Sorting.{sorted-moves, sorted-rises, pair_total, pair_exact}

-- the k least of any pairs
pub take-sorted : (k : ℕ) (pairs : List Pair) → AreLeast k pairs (take k (sorted pair_cmp pairs))
take-sorted k pairs =
    let whole : List Pair = sorted pair_cmp pairs in
    let split = take-append-drop k whole in
    record {
      others = drop k whole;
      together = rw split (sorted-moves pair_cmp pair_total pair_exact pairs);
      rising = rw split (sorted-rises pair_cmp pair_total pair_exact pairs);
      count = omega (arith, length-take k whole, length-sorted pair_cmp pairs);
    }

pub answer_is_least : AnswerIsLeast
unfolding answer
answer_is_least book query rows = take-sorted query.k (pairs_of book query.vector (visited book query rows))

-- a sum over the numbers below n, as a list
sum_by-numbers : (f : Pair → ℕ) (g : ℕ → Pair) (n : ℕ) → sum_by f (map g (numbers_below n)) ≡ sum_below n (λ i. f (g i))
sum_by-numbers f g zero = refl
sum_by-numbers f g (suc n) =
    ap (λ k. sum_by f (map g (numbers_below k))) {x = suc n} {y = n + 1} (omega arith)
    ∙ sum_by-map-range_with_len_more f g 0 n n (omega arith)
    ∙ ap (λ s. s + f (g n)) (sum_by-numbers f g n)

-- all cells hold all rows
pub all_cells_hold_all : (book : Book) (v : List ℕ) (rows : List Row) → AllByRecursion (λ row. row.cell < book.k0 * book.k1) rows → length (rows_of_cells rows (cells book v)) ≡ length rows
all_cells_hold_all book v rows inside =
    let n : ℕ = book.k0 * book.k1 in
    let key : ℕ → Pair = λ cell. (cell_sum book v cell, cell) in
    let size : Pair → ℕ = λ cell. length (rows_in cell.1 rows) in
    length-flat_map (λ (cell : Pair). rows_in cell.1 rows) (cells book v)
    ∙ sum_by-IsPermutation size (map key (numbers_below n)) (cells book v) (cells_are_ordered book v).0
    ∙ sum_by-numbers size key n
    ∙ total_rows n rows inside

pub visit_holds_needed : VisitHoldsNeeded
unfolding visited
visit_holds_needed book query rows inside =
    let those : List Row = passing query.ranges rows in
    let n : ℕ = book.k0 * book.k1 in
    elim (visit_is_shortest book query rows).enough [
      | inl holds ↦ holds
      | inr all ↦ omega (arith, ap (λ order. length (rows_of_cells those order)) all, all_cells_hold_all book query.vector those (all_filter (λ row. row.cell < n) (λ row. in_ranges query.ranges row.id) rows inside))
    ]

place_below : (a b m n : ℕ) → a < m → b < n → a * n + b < m * n
place_below a b m n la lb = grind arith

pub rows_lie_in_cells : RowsLieInCells
unfolding cell_of
rows_lie_in_cells book good id v =
    let first = nearest_is_first book.scale book.coarse0 (part0 book v) (omega (arith, good.coarse0.count, good.k0.0)) in
    let second = nearest_is_first book.scale book.coarse1 (part1 book v) (omega (arith, good.coarse1.count, good.k1.0)) in
    place_below (nearest book.scale book.coarse0 (part0 book v)) (nearest book.scale book.coarse1 (part1 book v)) book.k0 book.k1
    (omega (arith, first.within, good.coarse0.count)) (omega (arith, second.within, good.coarse1.count))
