use Rattle.std.proofs.Common.{◌≡◌}
use Rattle.bench_kernels.proofs.scan_fills.fill_full.Given as goal

abbrev pub invariant-loop-query : goal.invariant-loop-query
invariant-loop-query g l = record {
  next : (goal.iterator-loop-query g).can_next l.query-iterator;
  ends : (goal.iterator-loop-query g).is_finite l.query-iterator;
  g : l.tables.g ≡ l.book.g;
}

abbrev pub invariant-loop-round : goal.invariant-loop-round
invariant-loop-round g l = l.tables.g ≡ l.book.g
