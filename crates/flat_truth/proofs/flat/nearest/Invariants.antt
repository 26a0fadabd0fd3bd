use Rattle.std.proofs.Common.{◌≡◌, ◌-◌, ◌≤◌, ◌<◌, ℕ, map, take}
use Rattle.std.specs.List.{enumerate_from}
use Rattle.std.specs.Option.{ForSome}
use Rattle.adc_ports.specs.Files.{bytes_of}
use Rattle.adc_ports.specs.States.{OnlyReads, SameReads}
use Rattle.book_model.specs.Order.{sorted, pair_cmp}
use Rattle.vec_files.specs.Standing.{rows_standing, IsRowThere}
use Rattle.flat_truth.specs.Flat.{flat_pairs}
use Rattle.flat_truth.specs.Pairs.{key_of, IsReach}
use Rattle.flat_truth.proofs.flat.nearest.Given as goal

abbrev pub decreases-loop-first : goal.decreases-loop-first
decreases-loop-first g l = l.checked.rows - l.first

abbrev pub invariant-loop-first : goal.invariant-loop-first
invariant-loop-first g l = record {
  few : l.first ≤ l.checked.rows;
  reads : OnlyReads (g.H.Shelf.state l.fn.shelf) (g.H.Shelf.state l.shelf);
  counts : SameReads (g.H.Shelf.state l.fn.shelf) (g.H.Shelf.state l.shelf);
  there : ForSome (g.H.Shelf.state l.fn.shelf).files (λ files. (i : ℕ) → i < l.first → IsRowThere (bytes_of files l.name) l.checked.d i);
  reach : ForSome l.most (IsReach l.k (map key_of l.pairs.items));
  least : ForSome (g.H.Shelf.state l.fn.shelf).files (λ files. take l.k (sorted pair_cmp (map key_of l.pairs.items))
      ≡ take l.k (sorted pair_cmp (flat_pairs l.query (enumerate_from 0 (rows_standing l.checked.d l.first (bytes_of files l.name))))));
}
