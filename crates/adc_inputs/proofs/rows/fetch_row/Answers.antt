use Rattle.std.proofs.Common.{ap, Err}
use Rattle.std.specs.Prelude.{Some}
use Rattle.adc_inputs.proofs.CheckLemmas.{rows_cause, row_sound}
use Rattle.adc_inputs.proofs.rows.fetch_row.Goals as goal

pub returns-in-Err : goal.returns-in-Err
returns-in-Err g c = record {
  reads = rw c.of_rows.ensures (record {
    only = c.in-Err.ensures.reads;
    counts = tt;
    cause = rows_cause c.args.rows.now.role c.in-Err.error _ _ c.in-Err.ensures.reads (λ e. c.in-Err.ensures.failed (ap Err e)) (λ e. c.in-Err.ensures.memory (ap Err e));
    found = λ files told.
        let check = c.requires.check files told in
        row_sound files c.args.rows.now.role c.in-Err.error _ _ _ (c.in-Err.ensures.listed files told (Some _) _ check.outcome check.finds);
  });
}
