use Rattle.std.proofs.Common.{◌≡◌, ℕ, ◌<◌, get_or}
use Rattle.residual_scan.proofs.halved.clear.Given as goal

abbrev pub invariant-loop-place : goal.invariant-loop-place
invariant-loop-place l = (key : ℕ) → key < l.place-index → get_or l.places key 0 ≡ l.none
