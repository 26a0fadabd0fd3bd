use Rattle.std.proofs.Common.{◌≡◌, ◌≤◌}
use Rattle.play_script.specs.Stream.{sample_row}
use Rattle.query_engine.specs.State.{rows_of}
use Rattle.adc_program.specs.Rows.{numbered_rows}
use Rattle.adc_program.specs.Work.{IsPlain}
use Rattle.adc_program.proofs.samples.insert_rows.Given as goal

-- the rows so far were inserted in order
abbrev pub invariant-loop-n : goal.invariant-loop-n
invariant-loop-n g l = record {
  book : l.engine.book ≡ l.initial.engine.book;
  within : l.n ≤ l.fn.job.rows;
  plain : IsPlain l.engine.store;
  stamp : l.engine.store.stamp ≤ l.n;
  rows : rows_of l.engine ≡ numbered_rows l.initial.engine.book (sample_row l.sample) l.n;
}
