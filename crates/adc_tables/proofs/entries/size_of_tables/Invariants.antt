use Rattle.std.proofs.Common.{◌≡◌, ◌*◌, ◌≤◌}
use Rattle.adc_tables.specs.Full.{table_start}
use Rattle.adc_tables.proofs.entries.size_of_tables.Given as goal

abbrev pub invariant-loop-j : goal.invariant-loop-j
invariant-loop-j g l = (l.size ≡ table_start g.S.Shape.widths l.j) × (l.size ≤ 256 * l.j)
