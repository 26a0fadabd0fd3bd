use Rattle.std.proofs.Common.{refl, ◌∙◌, sym, ap}
use Rattle.adc_ports.proofs.StateLemmas.{reads_none, reads_on}
use Rattle.play_script.specs.declared.Role.TheVariants as role
use Rattle.adc_inputs.specs.Inputs.{rows_input}
use Rattle.adc_inputs.proofs.Reading.{reads_stop}
use Rattle.adc_program.proofs.Outcomes.{checked_at}
use Rattle.adc_program.proofs.RerankTexts.{base_at, queries_at, both_are}
use Rattle.adc_program.proofs.reranks.open.Goals as goal

pub returns-in-Err-clause-reads : goal.returns-in-Err-clause-reads
returns-in-Err-clause-reads g c =
    let job = c.args.job.now in
    reads_stop c.in-Err.stop (reads_none _) refl c.in-Err.ensures.reads (λ files error told e. base_at files job.base.now job.queries.now c.args.d error e)

pub returns-in-Err-check_rows-clause-reads : goal.returns-in-Err-check_rows-clause-reads
returns-in-Err-check_rows-clause-reads g c =
    let job = c.args.job.now in
    reads_stop c.in-Err-check_rows.stop c.in-Ok.ensures.reads.only c.in-Ok.ensures.reads.counts c.in-Err-check_rows.ensures.reads (λ files error told e.
    queries_at files job.base.now job.queries.now c.args.d _ error (c.in-Ok.ensures.reads.found files told).input e)

pub returns-clause-reads : goal.returns-clause-reads
returns-clause-reads g c =
    let job = c.args.job.now in
    record {
      only = reads_on _ _ _ c.in-Ok.ensures.reads.only c.in-Ok-check_rows.ensures.reads.only;
      counts = c.in-Ok-check_rows.ensures.reads.counts ∙ c.in-Ok.ensures.reads.counts;
      cause = tt;
      found = λ files told.
          let base = checked_at files role.Base job.base.now _ _ _ (sym c.in-Ok.ensures.size) (c.in-Ok.ensures.reads.found files told) in
          let queries = checked_at files role.Queries job.queries.now _ _ _ (sym c.in-Ok-check_rows.ensures.size) (c.in-Ok-check_rows.ensures.reads.found files (c.in-Ok.ensures.reads.only.files ∙ told)) in
          record {
            base_is = base;
            queries_are = queries;
            rows = both_are files job.base.now job.queries.now c.args.d _ _ (ap (rows_input files role.Base job.base.now) (sym c.in-Ok.ensures.size) ∙ base.input)
                (ap (rows_input files role.Queries job.queries.now) (sym c.in-Ok-check_rows.ensures.size) ∙ queries.input);
          };
    }
