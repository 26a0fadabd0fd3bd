use Rattle.book_model.proofs.Cells.{cells_are_ordered}
use Rattle.book_model.proofs.laws.cells_are_ordered.Goals as goal

pub returns : goal.returns
returns c = cells_are_ordered
