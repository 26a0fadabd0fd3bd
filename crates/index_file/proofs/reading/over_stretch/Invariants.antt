use Rattle.std.proofs.Common.{◌≡◌, ℕ, ◌+◌, ◌≤◌, List, length, take, drop, min}
use Rattle.cell_store.specs.State.{live_rows}
use Rattle.index_file.specs.Ahead.{layout, rest, steps_ahead, IsBefore}
use Rattle.index_file.proofs.reading.over_stretch.Given as goal

abbrev pub invariant-steps : goal.invariant-steps
invariant-steps g l = record {
  place : l.place ≤ length l.stretch;
  code : length l.code ≡ 32;
  before : IsBefore l.sizes l.ahead l.store;
  fewer : steps_ahead l.ahead + min l.place 1 ≤ steps_ahead l.fn.ahead;
  first : l.place ≡ 0 → l.ahead ≡ l.fn.ahead;
  rest : (bytes : List ℕ) → l.stretch ≡ take 8192 (drop l.at bytes)
      → rest (layout g.S.Shape.widths l.sizes) l.ahead (live_rows l.store) bytes (l.at + l.place) ≡ rest (layout g.S.Shape.widths l.sizes) l.fn.ahead (live_rows l.fn.store) bytes l.at;
}

abbrev pub decreases-steps : goal.decreases-steps
decreases-steps g l = steps_ahead l.ahead
