use Rattle.index_file.proofs.ByCell.{finds_same_by_cell}
use Rattle.index_file.proofs.laws.finds_same_by_cell.Goals as goal

pub returns : goal.returns
returns c = finds_same_by_cell
