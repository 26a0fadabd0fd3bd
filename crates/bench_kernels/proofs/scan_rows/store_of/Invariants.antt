use Rattle.std.proofs.Common.{◌≡◌}
use Rattle.bench_kernels.proofs.scan_rows.store_of.Given as goal

abbrev pub invariant-loop-code : goal.invariant-loop-code
invariant-loop-code g l = record {
  next : (goal.iterator-loop-code g).can_next l.code-iterator;
  ends : (goal.iterator-loop-code g).is_finite l.code-iterator;
  g : l.store.g ≡ l.groups;
  cells : l.store.cells ≡ l.cells;
}
