use Rattle.std.proofs.Common.{map, arith, refl, rules, ap, ◌∙◌}
use Rattle.std.specs.List.Sorted.{IsPermutation, IsSorted}
use Rattle.std.specs.BinaryHeap.{heap_items}
use Rattle.book_model.specs.Order.{pair_cmp}
use Rattle.book_model.proofs.Sorting.{pair_total, pair_exact, sorted-rises}
use Rattle.std.proofs.lemmas.List.Sorted.{length_permutation}
use Rattle.book_model.proofs.Rising.{sorted_from_sort}
use Rattle.best_k.specs.Least.{key_of, by_key}
use Rattle.best_k.proofs.best.Best.finish.Goals as goal

pub returns : goal.returns
returns c =
    let moved : IsPermutation (heap_items c.self.inside.heap) c.as_slice-2.result.now = search rules in
    let up : IsSorted by_key c.as_slice-2.result.now = search rules in
    ((refl, λ _. tt, c.self.view_is), record { unchanged = tt; value = sorted_from_sort pair_cmp pair_total pair_exact key_of (heap_items c.self.inside.heap) c.as_slice-2.result.now moved up ∙ ap (λ w. w.pairs) c.self.view_is; in_order = rw (← c.self.view_is) (sorted-rises pair_cmp pair_total pair_exact (map key_of (heap_items c.self.inside.heap))); most = rw (← c.self.view_is) (omega (arith, length_permutation _ _ moved)) })
