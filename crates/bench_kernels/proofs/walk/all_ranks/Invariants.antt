use Rattle.std.specs.List.{All}
use Rattle.coarse_rank.specs.Ranked.{IsFilled}
use Rattle.bench_kernels.proofs.walk.all_ranks.Given as goal

abbrev pub invariant-loop-query : goal.invariant-loop-query
invariant-loop-query l = All IsFilled l.all.items
