use Rattle.book_model.proofs.Cells.{depends_on_cells}
use Rattle.book_model.proofs.laws.depends_on_cells.Goals as goal

pub returns : goal.returns
returns c = depends_on_cells
