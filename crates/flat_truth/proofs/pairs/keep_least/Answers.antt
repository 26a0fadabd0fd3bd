use Rattle.std.proofs.Common.{List, subst}
use Rattle.itertools.specs.Extremes.{IsKLeast, by_cmp}
use Rattle.flat_truth.specs.declared.TruePair.{TruePair}
use Rattle.flat_truth.specs.Pairs.{by_key}
use Rattle.flat_truth.proofs.Kept.{k_least_is_first}
use Rattle.flat_truth.proofs.pairs.keep_least.Goals as goal

pub returns-clause-kept : goal.returns-clause-kept
returns-clause-kept c =
    k_least_is_first c.args.k c.args.pairs.now.items c.in-Ok.least.items
    (subst (λ (pairs : List TruePair). IsKLeast (by_cmp by_key) c.args.k pairs c.in-Ok.least.items) c.deref.ensures.value c.in-Ok.ensures)
