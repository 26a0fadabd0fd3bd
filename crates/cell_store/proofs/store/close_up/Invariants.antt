use Rattle.cell_store.proofs.Words.{◌≡◌, ◌<◌, ◌≤◌, ◌+◌, ℕ, slice_index}
use Rattle.cell_store.proofs.store.close_up.Given as goal

abbrev pub invariant-loop-j : goal.invariant-loop-j
invariant-loop-j l = record {
  before : (k : ℕ) → k < l.at → slice_index l.pins k ≡ slice_index l.fn.pins k;
  moved : (k : ℕ) → l.at ≤ k → k + 1 < l.j → slice_index l.pins k ≡ slice_index l.fn.pins (k + 1);
  rest : (k : ℕ) → l.j ≤ k → slice_index l.pins k ≡ slice_index l.fn.pins k;
}
