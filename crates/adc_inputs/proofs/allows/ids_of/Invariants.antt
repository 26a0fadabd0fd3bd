use Rattle.std.proofs.Common.{◌≡◌, ◌≤◌, take}
use Rattle.std.specs.Option.{ForSome}
use Rattle.adc_ports.specs.States.{OnlyReads, SameReads}
use Rattle.id_filter.specs.Allowed.{single_ranges, allowed_ranges}
use Rattle.adc_inputs.specs.Numbers.{numbers_held}
use Rattle.adc_inputs.proofs.allows.ids_of.Given as goal

-- the ids of the rows so far
abbrev pub invariant-loop-number : goal.invariant-loop-number
invariant-loop-number g l = record {
  within : l.number ≤ l.rows.checked.rows;
  reads : OnlyReads (g.H.Shelf.state l.initial.shelf) (g.H.Shelf.state l.shelf);
  counts : SameReads (g.H.Shelf.state l.initial.shelf) (g.H.Shelf.state l.shelf);
  ids : ForSome (g.H.Shelf.state l.initial.shelf).files (λ files. single_ranges l.ids.items ≡ allowed_ranges (take l.number (numbers_held files l.rows.role l.rows.name.now)));
}
