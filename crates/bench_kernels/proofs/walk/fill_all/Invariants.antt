use Rattle.std.proofs.Common.{◌≡◌}
use Rattle.bench_kernels.proofs.walk.fill_all.Given as goal

abbrev pub invariant-loop-query : goal.invariant-loop-query
invariant-loop-query l = record {
  next : (goal.iterator-loop-query).can_next l.query-iterator;
  ends : (goal.iterator-loop-query).is_finite l.query-iterator;
  k0 : l.ranks.k0 ≡ l.book.k0;
  k1 : l.ranks.k1 ≡ l.book.k1;
}

abbrev pub invariant-loop-i : goal.invariant-loop-i
invariant-loop-i l = record { k0 : l.ranks.k0 ≡ l.book.k0; k1 : l.ranks.k1 ≡ l.book.k1 }
