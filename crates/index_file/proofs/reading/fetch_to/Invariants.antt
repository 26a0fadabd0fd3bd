use Rattle.std.proofs.Common.{◌≡◌, ◌-◌, ◌≤◌, length, take}
use Rattle.std.specs.Option.{ForSome}
use Rattle.adc_ports.specs.Files.{bytes_of}
use Rattle.adc_ports.specs.States.{OnlyReads, SameReads}
use Rattle.index_file.proofs.reading.fetch_to.Given as goal

abbrev pub invariant-fetches : goal.invariant-fetches
invariant-fetches g l = record {
  reads : OnlyReads (g.H.Shelf.state l.fn.shelf) (g.H.Shelf.state l.shelf);
  counts : SameReads (g.H.Shelf.state l.fn.shelf) (g.H.Shelf.state l.shelf);
  few : length l.bytes.items ≤ l.n;
  longer : length l.fn.bytes.items ≤ length l.bytes.items;
  value : ForSome (g.H.Shelf.state l.fn.shelf).files (λ files. l.fn.bytes.items ≡ take (length l.fn.bytes.items) (bytes_of files l.name)
      → l.bytes.items ≡ take (length l.bytes.items) (bytes_of files l.name));
}

abbrev pub decreases-fetches : goal.decreases-fetches
decreases-fetches g l = l.n - length l.bytes.items
