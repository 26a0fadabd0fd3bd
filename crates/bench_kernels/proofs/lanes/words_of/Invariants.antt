use Rattle.std.proofs.Common.{◌≡◌, vec_len}
use Rattle.bench_kernels.proofs.lanes.words_of.Given as goal

abbrev pub invariant-loop-place : goal.invariant-loop-place
invariant-loop-place l = vec_len l.words ≡ l._place
