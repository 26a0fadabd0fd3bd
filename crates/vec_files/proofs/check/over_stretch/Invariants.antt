use Rattle.std.proofs.Common.{◌-◌, ◌≡◌, ◌≤◌, ℕ, List, length, take, drop, Some, IfSome}
use Rattle.vec_files.specs.Progress.{rest}
use Rattle.vec_files.proofs.check.over_stretch.Given as goal

abbrev pub decreases-loop-now : goal.decreases-loop-now
decreases-loop-now l = l.now.end - l.now.at

abbrev pub invariant-loop-now : goal.invariant-loop-now
invariant-loop-now l = record {
  same_end : l.now.end ≡ l.from.end;
  after : l.from.at ≤ l.now.at;
  wanted : IfSome l.from.d (λ d. l.now.d ≡ Some d);
  rest : (bytes : List ℕ) → length bytes ≡ l.from.end → l.stretch ≡ take (length l.stretch) (drop l.from.at bytes) → rest l.width l.now bytes ≡ rest l.width l.from bytes;
}
