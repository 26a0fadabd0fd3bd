use Rattle.std.proofs.Common.{◌-◌, ◌≤◌, Ok}
use Rattle.index_file.specs.Written.{Adds}
use Rattle.index_file.specs.Grouped.{cells_text}
use Rattle.index_file.proofs.writing.put_groups.Given as goal

abbrev pub invariant-cells : goal.invariant-cells
invariant-cells g l = record {
  from : l.from ≤ l.store.cells;
  adds : Adds l.name (Ok tt) (g.H.Shelf.state l.fn.shelf) (g.H.Shelf.state l.shelf) l.fn.pieces l.pieces (cells_text g.S.Shape.widths l.store.g l.stamp l.store.kept l.from);
}

abbrev pub decreases-cells : goal.decreases-cells
decreases-cells g l = l.store.cells - l.from
