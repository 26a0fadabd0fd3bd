use Rattle.std.proofs.Common.{◌-◌, ◌≡◌, Some, length, IfSome}
use Rattle.std.specs.Option.{ForSome}
use Rattle.adc_ports.specs.Files.{bytes_of}
use Rattle.adc_ports.specs.States.{OnlyReads, SameReads}
use Rattle.vec_files.specs.Progress.{rest}
use Rattle.vec_files.proofs.check.to_the_end.Given as goal

abbrev pub decreases-loop-now : goal.decreases-loop-now
decreases-loop-now g l = l.now.end - l.now.at

abbrev pub invariant-loop-now : goal.invariant-loop-now
invariant-loop-now g l = record {
  reads : OnlyReads (g.H.Shelf.state l.fn.shelf) (g.H.Shelf.state l.shelf);
  counts : SameReads (g.H.Shelf.state l.fn.shelf) (g.H.Shelf.state l.shelf);
  wanted : IfSome l.fn.from.d (λ d. l.now.d ≡ Some d);
  rest : ForSome (g.H.Shelf.state l.fn.shelf).files (λ files. l.fn.from.end ≡ length (bytes_of files l.name)
      → (l.now.end ≡ l.fn.from.end) × (rest l.width l.now (bytes_of files l.name) ≡ rest l.width l.fn.from (bytes_of files l.name)));
}
