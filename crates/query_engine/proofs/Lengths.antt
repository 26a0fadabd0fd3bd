-- When the visit is over, and how many rows are full.
use Rattle.std.proofs.Common.{◌≡◌, ℕ, ◌+◌, ◌≤◌, ◌<◌, List, [], length, take, sym, ap, ◌∙◌, arith, inl, inr}
use Rattle.std.proofs.lemmas.List.{length-take}
use Rattle.std.proofs.lemmas.Bool.{cases_lt}
use Rattle.book_model.specs.Order.{Pair}
use Rattle.book_model.specs.Book.{Book}
use Rattle.book_model.specs.Rows.{Row}
use Rattle.book_model.specs.Visit.{shortest_prefix, rows_of_cells}
use Rattle.book_model.specs.Laws.{IsShortestPrefix}
use Rattle.book_model.proofs.Cells.{shortest_prefix_is}
use Rattle.book_model.proofs.Fullness.{full_after-le}
use Rattle.query_engine.specs.Progress.{first_rows, first_full}

module _ (rows : List Row) (n : ℕ) (order : List Pair) where
  is : IsShortestPrefix rows n order (shortest_prefix rows n order)
  is = shortest_prefix_is rows n order

  pub prefix_le : length (shortest_prefix rows n order) ≤ length order
  prefix_le = omega (arith, ap length is.front, length-take (length (shortest_prefix rows n order)) order)

  -- enough rows: the visit is over
  pub over_by_rows : (c : ℕ) → n ≤ length (first_rows rows order c) → length (shortest_prefix rows n order) ≤ c
  over_by_rows c enough = elim (cases_lt c (length (shortest_prefix rows n order))) [
    | inl lt ↦ omega (arith, is.no_less c lt, enough)
    | inr le ↦ le
  ]

  -- too few rows, and a cell is left: the visit goes on
  pub goes_on : (c : ℕ) → c ≤ length (shortest_prefix rows n order) → length (first_rows rows order c) < n → c < length order → c + 1 ≤ length (shortest_prefix rows n order)
  goes_on c within few left = elim (cases_lt c (length (shortest_prefix rows n order))) [
    | inl lt ↦ omega (arith, lt)
    | inr le ↦ elim is.enough [
      | inl enough ↦
          let all : length (shortest_prefix rows n order) ≡ c = omega (arith, within, le) in
          let front : shortest_prefix rows n order ≡ take c order = is.front ∙ ap (λ m. take m order) all in
          omega (arith, enough, few, ap (λ cells. length (rows_of_cells rows cells)) front)
      | inr whole ↦ omega (arith, ap length whole, within, le, left)
    ]
  ]

  -- where as many cells were given as the visit has, these are the visit
  pub first_is_visit : (c : ℕ) → c ≡ length (shortest_prefix rows n order) → take c order ≡ shortest_prefix rows n order
  first_is_visit c e = ap (λ m. take m order) e ∙ sym is.front

pub full_le : (book : Book) (query : List ℕ) (k : ℕ) (rows : List Row) (order : List Pair) (c : ℕ) → first_full book query k rows order c ≤ length (first_rows rows order c)
full_le book query k rows order c = full_after-le book query k [] (first_rows rows order c)
