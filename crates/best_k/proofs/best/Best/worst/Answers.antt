use Rattle.std.proofs.Common.{rules, arith}
use Rattle.std.specs.BinaryHeap.{heap_items}
use Rattle.best_k.specs.Least.{key_of}
use Rattle.best_k.proofs.LeastLemmas.{length-held, held-worst, kth_of_all}
use Rattle.best_k.proofs.best.Best.worst.Goals as goal

pub returns-then-len-self-clause-none : goal.returns-then-len-self-clause-none
returns-then-len-self-clause-none c = rw (← c.self.view_is) (λ _. omega (arith, length-held (heap_items c.self.inside.heap)), λ _. search rules)

pub returns-clause-none : goal.returns-clause-none
returns-clause-none c = rw (← c.self.view_is) (λ h. cc, λ lt. absurd (omega (arith, lt, length-held (heap_items c.self.inside.heap))))

pub returns-clause-greatest : goal.returns-clause-greatest
returns-clause-greatest c =
    rw (← c.self.view_is) (held-worst c.self.inside.k (heap_items c.self.inside.heap) c.in_ok-worst.worst.now c.self.invariant.some (omega arith) c.in_ok-worst.ensures.lookup (c.in_ok-worst.ensures.greatest c.self.invariant.heap_order))

pub returns-clause-of_all : goal.returns-clause-of_all
returns-clause-of_all c =
    rw (← c.self.view_is) (λ offered e. kth_of_all c.self.inside.k _ offered (key_of c.in_ok-worst.worst.now) c.self.invariant.some
    (held-worst c.self.inside.k (heap_items c.self.inside.heap) c.in_ok-worst.worst.now c.self.invariant.some (omega arith) c.in_ok-worst.ensures.lookup (c.in_ok-worst.ensures.greatest c.self.invariant.heap_order)) e)
