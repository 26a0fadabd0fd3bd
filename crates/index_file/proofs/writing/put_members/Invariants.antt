use Rattle.std.proofs.Common.{◌≡◌, ◌*◌, Ok, take}
use Rattle.index_file.specs.Written.{Adds}
use Rattle.index_file.specs.Grouped.{members_text}
use Rattle.index_file.proofs.writing.put_members.Given as goal

abbrev pub invariant-loop-n : goal.invariant-loop-n
invariant-loop-n g l = record {
  meter : l.meter ≡ l.n;
  adds : Adds l.name (Ok tt) (g.H.Shelf.state l.fn.shelf) (g.H.Shelf.state l.shelf) l.fn.pieces l.pieces (members_text g.S.Shape.widths l.view.g l.stamp (take (32 * l.n) l.view.rows));
}
