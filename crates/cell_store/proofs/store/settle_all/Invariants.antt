use Rattle.cell_store.proofs.Words.{◌≡◌, ◌≤◌, ◌<◌, ◌-◌, ◌*◌, length, ℕ, filter, rows_for, rows_below, IsTidied, AreFew, is_needed_dead}
use Rattle.cell_store.specs.Groups.{StaysGrouped}
use Rattle.cell_store.proofs.store.settle_all.Given as goal

abbrev pub invariant-cells : goal.invariant-cells
invariant-cells g l = record {
  within : l.from ≤ l.cells;
  g : l.lists.g ≡ l.fn.lists.g;
  tidied : (c : ℕ) → c < l.from → IsTidied l.pins (rows_for l.fn.lists c) (rows_for l.lists c);
  few : (c : ℕ) → c < l.from → AreFew l.pins (rows_for l.lists c);
  rest : (c : ℕ) → l.from ≤ c → rows_for l.lists c ≡ rows_for l.fn.lists c;
  counted : l.needed ≡ length (filter (is_needed_dead l.pins) (rows_below (rows_for l.lists) l.from));
  bound : l.needed ≤ 16777248 * l.from;
  groups : StaysGrouped (rows_for l.fn.lists) (rows_for l.lists) l.fn.ids l.ids;
}

abbrev pub decreases-cells : goal.decreases-cells
decreases-cells g l = l.cells - l.from
