use Rattle.cell_store.proofs.Words.{◌≡◌, ◌≤◌, ℕ, length, is_held, rows_in, HasCodes}
use Rattle.cell_store.proofs.Compacting.{IsCompacted}
use Rattle.cell_store.proofs.rows.Rows.compact.Given as goal

abbrev pub invariant-loop-from : goal.invariant-loop-from
invariant-loop-from g l = record {
  is : HasCodes g.S.Shape.widths l.initial.self.codes.g l.self;
  size : length l.self.slots.items ≡ length l.initial.self.slots.items;
  live : l.self.live ≡ l.initial.self.live;
  order : l.to ≤ l.from;
  rows : (cell : ℕ) → IsCompacted (is_held l.pins) (rows_in g.S.Shape.widths cell l.self) (rows_in g.S.Shape.widths cell l.initial.self) l.to l.from;
}
