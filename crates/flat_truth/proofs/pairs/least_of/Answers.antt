use Rattle.std.proofs.Common.{◌≡◌, List, length, vec_len, subst, sym, refl}
use Rattle.std.specs.Global.{Vec}
use Rattle.std.specs.Vec.Iter.{into_iter_items}
use Rattle.std.proofs.lemmas.Iterator.Adapters.{fact_from_collect, YieldsList-from_vec}
use Rattle.std.proofs.lemmas.Result.{IfOk-weaker}
use Rattle.itertools.specs.Extremes.{IsKLeast, by_cmp}
use Rattle.flat_truth.specs.declared.TruePair.{TruePair}
use Rattle.flat_truth.specs.Pairs.{by_key}
use Rattle.flat_truth.proofs.pairs.least_of.Goals as goal

-- a vector of these pairs
abbrev gathered : List TruePair → Vec TruePair → Type 0
gathered pairs v = (v.items ≡ pairs) × (vec_len v ≡ length pairs)

pub returns : goal.returns
returns c =
    let least = c.in_ok-least.least in
    let all : List TruePair = into_iter_items least in
    IfOk-weaker c.collect.result (λ v. gathered all v) (λ v. IsKLeast (by_cmp by_key) c.args.k c.args.pairs.now v.items)
    (λ v held. subst (λ (pairs : List TruePair). IsKLeast (by_cmp by_key) c.args.k c.args.pairs.now pairs) (sym held.0) c.in_ok-least.ensures)
    (fact_from_collect gathered c.collect.result c.collect.ensures.ran (YieldsList-from_vec {s = least} all refl least.rest.ok.0))
