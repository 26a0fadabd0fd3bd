use Rattle.std.proofs.Common.{◌≡◌, ◌<◌, ℕ, map, take}
use Rattle.std.specs.Prelude.{slice_index}
use Rattle.std.specs.Option.{ForSome}
use Rattle.adc_ports.specs.Files.{bytes_of}
use Rattle.adc_ports.specs.States.{OnlyReads, SameReads}
use Rattle.vec_files.specs.Standing.{IsRowThere}
use Rattle.flat_truth.specs.Pairs.{key_of}
use Rattle.flat_truth.proofs.FlatLemmas.{pair_standing}
use Rattle.flat_truth.proofs.chosen.rerank.Given as goal

abbrev pub invariant-loop-id : goal.invariant-loop-id
invariant-loop-id g l = record {
  reads : OnlyReads (g.H.Shelf.state l.fn.shelf) (g.H.Shelf.state l.shelf);
  counts : SameReads (g.H.Shelf.state l.fn.shelf) (g.H.Shelf.state l.shelf);
  there : ForSome (g.H.Shelf.state l.fn.shelf).files (λ files. (i : ℕ) → i < l.id-index → IsRowThere (bytes_of files l.name) l.checked.d (slice_index l.ids i));
  pairs : ForSome (g.H.Shelf.state l.fn.shelf).files (λ files. map key_of l.pairs.items ≡ map (pair_standing l.query l.checked.d (bytes_of files l.name)) (take l.id-index l.ids));
}
