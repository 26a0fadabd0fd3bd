use Rattle.std.proofs.Common.{List, ℕ, map, ap, ◌∙◌, arith}
use Rattle.std.proofs.lemmas.List.{take_at}
use Rattle.book_model.specs.Order.{sorted, pair_cmp}
use Rattle.coarse_rank.specs.Ranked.{ranked, rank_of}
use Rattle.coarse_rank.proofs.Keys.{sorted_keys}
use Rattle.coarse_rank.proofs.ranks.rank.Goals as goal

pub returns-clause-ranked : goal.returns-clause-ranked
unfolding ranked
returns-clause-ranked c =
    sorted_keys _ c.sort_unstable.new.self.items c.sort_unstable.ensures.permutation c.sort_unstable.ensures.sorted
    ∙ ap (λ (l : List ℕ). sorted pair_cmp (map rank_of l)) (take_at c.keys.new.into _ _ (omega (arith, c.keys.auto.into, c.deref_mut.ensures.len)))
    ∙ ap (sorted pair_cmp) c.keys.ensures
