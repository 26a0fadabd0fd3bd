use Rattle.std.proofs.Common.{rules, ap, Err}
use Rattle.index_file.specs.View.{view_index}
use Rattle.adc_inputs.proofs.IndexLemmas.{index_ok, index_err, index_cause}
use Rattle.adc_inputs.proofs.indexes.read_index.Goals as goal

pub returns-in-Ok-clause-reads : goal.returns-in-Ok-clause-reads
returns-in-Ok-clause-reads g c = record {
  only = search rules;
  counts = c.in-Ok.ensures.counts;
  cause = tt;
  found = λ files told. index_ok files c.args.name.now (view_index c.in-Ok.index) (c.in-Ok.ensures.answers files told);
}

pub returns-in-Err-clause-reads : goal.returns-in-Err-clause-reads
returns-in-Err-clause-reads g c = rw c.of_index.ensures (record {
  only = c.in-Err.ensures.reads;
  counts = tt;
  cause = index_cause c.in-Err.error _ _ c.in-Err.ensures.reads (λ e. c.in-Err.ensures.failed (ap Err e)) (λ e. c.in-Err.ensures.memory (ap Err e));
  found = λ files told. index_err files c.args.name.now c.in-Err.error (c.in-Err.ensures.answers files told);
})
