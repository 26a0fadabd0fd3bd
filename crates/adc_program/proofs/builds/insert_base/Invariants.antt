use Rattle.std.proofs.Common.{◌≡◌, ◌≤◌}
use Rattle.std.specs.Option.{ForSome}
use Rattle.query_engine.specs.State.{rows_of}
use Rattle.adc_inputs.specs.Inputs.{rows_held}
use Rattle.adc_program.specs.Builds.{base_vector}
use Rattle.adc_program.specs.Rows.{numbered_rows}
use Rattle.adc_program.specs.Steps.{ReadsWell}
use Rattle.adc_program.specs.Work.{IsPlain}
use Rattle.adc_program.proofs.builds.insert_base.Given as goal

-- the rows so far were read and inserted in order
abbrev pub invariant-loop-number : goal.invariant-loop-number
invariant-loop-number g l = record {
  book : l.engine.book ≡ l.initial.engine.book;
  within : l.number ≤ l.base.checked.rows;
  plain : IsPlain l.engine.store;
  stamp : l.engine.store.stamp ≤ l.number;
  reads : ReadsWell (g.H.Shelf.state l.initial.shelf) (g.H.Shelf.state l.shelf);
  rows : ForSome (g.H.Shelf.state l.initial.shelf).files (λ files. rows_of l.engine ≡ numbered_rows l.initial.engine.book (base_vector (rows_held files l.base.role l.base.name.now l.base.checked.d)) l.number);
}
