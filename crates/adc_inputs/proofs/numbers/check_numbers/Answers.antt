use Rattle.std.proofs.Common.{rules, ap, Err}
use Rattle.adc_inputs.proofs.CheckLemmas.{rows_cause}
use Rattle.adc_inputs.proofs.NumberLemmas.{numbers_ok, numbers_err}
use Rattle.adc_inputs.proofs.numbers.check_numbers.Goals as goal

pub returns-in-Ok-clause-reads : goal.returns-in-Ok-clause-reads
returns-in-Ok-clause-reads g c = record {
  only = search rules;
  counts = c.in-Ok.ensures.counts;
  cause = tt;
  found = λ files told. numbers_ok files c.args.role c.args.name.now c.in-Ok.checked (c.in-Ok.ensures.outcome files told);
}

pub returns-in-Err-clause-reads : goal.returns-in-Err-clause-reads
returns-in-Err-clause-reads g c = rw c.of_rows.ensures (record {
  only = c.in-Err.ensures.reads;
  counts = tt;
  cause = rows_cause c.args.role c.in-Err.error _ _ c.in-Err.ensures.reads (λ e. c.in-Err.ensures.failed (ap Err e)) (λ e. c.in-Err.ensures.memory (ap Err e));
  found = λ files told. numbers_err files c.args.role c.args.name.now c.in-Err.error (c.in-Err.ensures.outcome files told);
})
