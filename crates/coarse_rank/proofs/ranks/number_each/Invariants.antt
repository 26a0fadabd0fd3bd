use Rattle.std.proofs.Common.{◌≡◌, ℕ, ◌+◌, ◌*◌, ◌<◌, ◌≤◌, get_or}
use Rattle.coarse_rank.proofs.ranks.number_each.Given as goal

abbrev pub invariant-loop-w : goal.invariant-loop-w
invariant-loop-w l = record {
  done : (k : ℕ) → k < l.w → get_or l.distances k 0 ≡ get_or l.initial.distances k 0 * 1024 + k;
  rest : (k : ℕ) → l.w ≤ k → get_or l.distances k 0 ≡ get_or l.initial.distances k 0;
}
