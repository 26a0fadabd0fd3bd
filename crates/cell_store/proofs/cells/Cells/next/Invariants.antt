use Rattle.cell_store.proofs.Words.{◌≡◌, ◌<◌, ◌≤◌, ℕ, [], rows_for}
use Rattle.cell_store.proofs.cells.Cells.next.Given as goal

abbrev pub invariant-loop-cell : goal.invariant-loop-cell
invariant-loop-cell g l = (c : ℕ) → l.from ≤ c → c < l.cell → rows_for l.self c ≡ []
