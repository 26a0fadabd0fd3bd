use Rattle.std.proofs.Common.{◌-◌, ◌≤◌, Ok, length, take}
use Rattle.index_file.specs.Written.{Adds}
use Rattle.index_file.proofs.writing.put_text.Given as goal

abbrev pub invariant-text : goal.invariant-text
invariant-text g l = record {
  at : l.at ≤ length l.text;
  adds : Adds l.name (Ok tt) (g.H.Shelf.state l.fn.shelf) (g.H.Shelf.state l.shelf) l.fn.pieces l.pieces (take l.at l.text);
}

abbrev pub decreases-text : goal.decreases-text
decreases-text g l = length l.text - l.at
