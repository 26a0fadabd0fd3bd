use Rattle.std.proofs.Common.{◌∙◌, List, ap, map, take, sym, subst}
use Rattle.book_model.specs.Order.{Pair, sorted, pair_cmp, IsRising}
use Rattle.book_model.proofs.Sorting.{sorted-rises, pair_total, pair_exact}
use Rattle.flat_truth.specs.declared.TruePair.{TruePair}
use Rattle.flat_truth.specs.Pairs.{key_of}
use Rattle.flat_truth.proofs.Kept.{kept_again, rising-take}
use Rattle.flat_truth.proofs.pairs.keep_few.Goals as goal

pub returns-clause-same : goal.returns-clause-same
returns-clause-same c =
    ap (λ (pairs : List Pair). take c.args.k (sorted pair_cmp pairs)) c.in_ok-keep_least.ensures.kept ∙ kept_again c.args.k (map key_of c.args.pairs.now.items)

pub reach-requires : goal.reach-requires
reach-requires c =
    let all : List Pair = map key_of c.args.pairs.now.items in
    record { rising = subst (λ (pairs : List TruePair). IsRising pair_cmp (map key_of pairs)) (sym c.deref.ensures.value) (subst (IsRising pair_cmp) (sym c.in_ok-keep_least.ensures.kept) (rising-take pair_cmp c.args.k (sorted pair_cmp all) (sorted-rises pair_cmp pair_total pair_exact all))) }
