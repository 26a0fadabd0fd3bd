use Rattle.std.proofs.Common.{◌*◌, Ok, take, drop}
use Rattle.index_file.specs.Written.{Adds}
use Rattle.index_file.specs.Grouped.{members_text}
use Rattle.index_file.proofs.writing.put_slots.Given as goal

abbrev pub invariant-loop-i : goal.invariant-loop-i
invariant-loop-i g l = Adds l.name (Ok tt) (g.H.Shelf.state l.fn.shelf) (g.H.Shelf.state l.shelf) l.fn.pieces l.pieces (members_text g.S.Shape.widths l.view.g l.stamp (take l.i (take 32 (drop (32 * l.n) l.view.rows))))
