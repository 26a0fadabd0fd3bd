-- What the fields of a best list stand for.
use Rattle.std.specs.Prelude.{◌≡◌, ◌≤◌, map, length}
use Rattle.std.specs.Vec.{vec_capacity}
use Rattle.std.specs.BinaryHeap.{heap_items, heap_len, heap_capacity, IsHeap}
use Rattle.book_model.specs.Order.{sorted, pair_cmp}
use Rattle.book_model.specs.declared.limits.TheConstants.{MAX_K}
use Rattle.best_k.specs.declared.best.Best.TheInside.{Inside}
use Rattle.best_k.specs.Least.{key_of, by_key, Kept}

abbrev pub view_best : Inside → Kept
view_best best = record { room = best.room; k = best.k; pairs = sorted pair_cmp (map key_of (heap_items best.heap)) }

-- the pairs are a heap within the room
pub record IsBest (best : Inside) : Type 0 where
  pub some : 1 ≤ best.k
  pub most : (best.k ≤ best.room) × (best.room ≤ MAX_K)
  pub count : heap_len best.heap ≡ length (heap_items best.heap)
  pub fits : heap_len best.heap ≤ best.k
  pub heap_room : best.room ≤ heap_capacity best.heap
  pub order_room : best.room ≤ vec_capacity best.in_order
  pub heap_order : IsHeap by_key (heap_items best.heap)
