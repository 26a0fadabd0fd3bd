use Rattle.std.proofs.Common.{◌≡◌, ◌≤◌, ◌*◌, length, take}
use Rattle.index_file.specs.Grouped.{living}
use Rattle.index_file.proofs.writing.living_count.Given as goal

abbrev pub invariant-loop-n : goal.invariant-loop-n
invariant-loop-n g l = record {
  count : l.count ≡ length (living l.stamp (take (32 * l.n) l.view.rows));
  few : l.count ≤ 32 * l.n;
}
