use Rattle.std.proofs.lemmas.List.Elements.{All-push}
use Rattle.coarse_rank.specs.Ranked.{IsFilled}
use Rattle.bench_kernels.proofs.walk.all_ranks.Goals as goal

pub loop-query-preserved-in-Continue-branch-2 : goal.loop-query-preserved-in-Continue-branch-2
loop-query-preserved-in-Continue-branch-2 c = rw c.in_ok-push.ensures.items (All-push IsFilled c.loop-query.all.items c.fill.new.self c.loop-query.invariant c.fill.ensures.filled)
