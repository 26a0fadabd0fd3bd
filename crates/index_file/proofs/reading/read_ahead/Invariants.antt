use Rattle.std.proofs.Common.{◌≡◌, ◌+◌, ◌*◌, ◌≤◌}
use Rattle.std.specs.Option.{ForSome}
use Rattle.adc_ports.specs.Files.{bytes_of}
use Rattle.adc_ports.specs.States.{OnlyReads, SameReads}
use Rattle.cell_store.specs.State.{live_rows}
use Rattle.index_file.specs.Ahead.{layout, rest, steps_ahead, IsBefore}
use Rattle.index_file.proofs.reading.read_ahead.Given as goal

abbrev pub invariant-stretches : goal.invariant-stretches
invariant-stretches g l = record {
  reads : OnlyReads (g.H.Shelf.state l.fn.shelf) (g.H.Shelf.state l.shelf);
  counts : SameReads (g.H.Shelf.state l.fn.shelf) (g.H.Shelf.state l.shelf);
  before : IsBefore l.sizes l.ahead l.store;
  at : l.at + 8192 * steps_ahead l.ahead ≤ l.fn.at + 8192 * steps_ahead l.fn.ahead;
  rest : ForSome (g.H.Shelf.state l.fn.shelf).files (λ files. rest (layout g.S.Shape.widths l.sizes) l.ahead (live_rows l.store) (bytes_of files l.name) l.at
      ≡ rest (layout g.S.Shape.widths l.sizes) l.fn.ahead (live_rows l.fn.store) (bytes_of files l.name) l.fn.at);
}

abbrev pub decreases-stretches : goal.decreases-stretches
decreases-stretches g l = steps_ahead l.ahead
