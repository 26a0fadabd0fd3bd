use Rattle.book_model.proofs.Visits.{rows_lie_in_cells}
use Rattle.book_model.proofs.laws.rows_lie_in_cells.Goals as goal

pub returns : goal.returns
returns c = rows_lie_in_cells
