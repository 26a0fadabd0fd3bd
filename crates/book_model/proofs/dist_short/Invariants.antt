use Rattle.std.proofs.Common.{◌≡◌, ◌≤◌, ◌*◌, get_or}
use Rattle.book_model.specs.Sums.{sum_below}
use Rattle.book_model.specs.Distance.{squared_gap}
use Rattle.book_model.proofs.dist_short.Given as goal

abbrev pub invariant-loop-i : goal.invariant-loop-i
invariant-loop-i l = record {
  total : l.total ≡ sum_below l.i (λ i. squared_gap l.scale (get_or l.a i 0) (get_or l.c i 0));
  small : l.total ≤ l.i * 4294836225;
}
