use Rattle.std.proofs.lemmas.List.Sorted.{IsPermutation-trans, IsPermutation-cons}
use Rattle.std.proofs.Common.{rules}
use Rattle.best_k.proofs.best.replace_top.Goals as goal

pub returns-in-Some-clause-items : goal.returns-in-Some-clause-items
returns-in-Some-clause-items c =
    let t = IsPermutation-trans _ _ _ (IsPermutation-cons c.args.pair _ _ c.in-Some.ensures.rest) (c.drop-top.ensures.permutation (search rules)) in
    search rules
