use Rattle.std.proofs.Common.{◌≡◌, ◌∷◌, true, false, rules, arith, ◌∙◌}
use Rattle.std.specs.List.Sorted.{IsPermutation}
use Rattle.std.specs.Ordering.{is_lt}
use Rattle.std.specs.BinaryHeap.{heap_items}
use Rattle.best_k.specs.Least.{key_of, by_key}
use Rattle.best_k.proofs.LeastLemmas.{held-added, held-replaced, held-left, kept-with, least_of_all}
use Rattle.best_k.proofs.best.Best.offer.Goals as goal

pub returns-then-held-self-clause-kept : goal.returns-then-held-self-clause-kept
returns-then-held-self-clause-kept c =
    let moved : IsPermutation (c.args.pair ∷ heap_items c.self.inside.heap) (heap_items c.push.new.self) = search rules in
    rw (← c.self.view_is) (kept-with c.self.inside.room c.self.inside.k _ _ (held-added c.self.inside.k (heap_items c.self.inside.heap) (heap_items c.push.new.self) c.args.pair (omega arith) moved))

pub returns-then-held-self-clause-of_all : goal.returns-then-held-self-clause-of_all
returns-then-held-self-clause-of_all c =
    let moved : IsPermutation (c.args.pair ∷ heap_items c.self.inside.heap) (heap_items c.push.new.self) = search rules in
    rw (← c.self.view_is) (λ offered e. held-added c.self.inside.k (heap_items c.self.inside.heap) (heap_items c.push.new.self) c.args.pair (omega arith) moved
    ∙ least_of_all c.self.inside.k offered _ (key_of c.args.pair) e)

pub returns-then-lt-clause-kept : goal.returns-then-lt-clause-kept
returns-then-lt-clause-kept c =
    let below : is_lt (by_key c.args.pair c.in-Some.worst.now) ≡ true = search rules in
    rw (← c.self.view_is) (kept-with c.self.inside.room c.self.inside.k _ _ (held-replaced c.self.inside.k (heap_items c.self.inside.heap) (heap_items c.replace_top.new.heap) c.in-Some.worst.now c.args.pair c.self.invariant.some (omega arith) c.in-Some.ensures.lookup (c.in-Some.ensures.greatest c.self.invariant.heap_order) below c.replace_top.ensures.items))

pub returns-then-lt-clause-of_all : goal.returns-then-lt-clause-of_all
returns-then-lt-clause-of_all c =
    let below : is_lt (by_key c.args.pair c.in-Some.worst.now) ≡ true = search rules in
    rw (← c.self.view_is) (λ offered e. held-replaced c.self.inside.k (heap_items c.self.inside.heap) (heap_items c.replace_top.new.heap) c.in-Some.worst.now c.args.pair c.self.invariant.some (omega arith) c.in-Some.ensures.lookup (c.in-Some.ensures.greatest c.self.invariant.heap_order) below c.replace_top.ensures.items
    ∙ least_of_all c.self.inside.k offered _ (key_of c.args.pair) e)

pub returns-else-lt-clause-kept : goal.returns-else-lt-clause-kept
returns-else-lt-clause-kept c =
    let above : is_lt (by_key c.args.pair c.in-Some.worst.now) ≡ false = search rules in
    rw (← c.self.view_is) (kept-with c.self.inside.room c.self.inside.k _ _ (held-left c.self.inside.k (heap_items c.self.inside.heap) c.in-Some.worst.now c.args.pair c.self.invariant.some (omega arith) c.in-Some.ensures.lookup (c.in-Some.ensures.greatest c.self.invariant.heap_order) above))

pub returns-else-lt-clause-of_all : goal.returns-else-lt-clause-of_all
returns-else-lt-clause-of_all c =
    let above : is_lt (by_key c.args.pair c.in-Some.worst.now) ≡ false = search rules in
    rw (← c.self.view_is) (λ offered e. held-left c.self.inside.k (heap_items c.self.inside.heap) c.in-Some.worst.now c.args.pair c.self.invariant.some (omega arith) c.in-Some.ensures.lookup (c.in-Some.ensures.greatest c.self.invariant.heap_order) above
    ∙ least_of_all c.self.inside.k offered _ (key_of c.args.pair) e)
