use Rattle.std.proofs.Common.{◌≡◌, ◌+◌, ◌*◌, ◌-◌, ◌<◌, ◌≤◌, ℕ, length}
use Rattle.vec_files.specs.Standing.{IsRowThere}
use Rattle.vec_files.proofs.some_rows.rows_in_front.Given as goal

abbrev pub decreases-loop-at : goal.decreases-loop-at
decreases-loop-at l = length l.bytes - l.at

abbrev pub invariant-loop-at : goal.invariant-loop-at
invariant-loop-at l = record {
  place : l.at ≡ l.count * (4 + l.d);
  within : l.at ≤ length l.bytes;
  there : (i : ℕ) → i < l.count → IsRowThere l.bytes l.d i;
}
