use Rattle.std.proofs.Common.{refl, ◌∙◌, Ok, sym, ap}
use Rattle.adc_ports.specs.States.{OnlyReads}
use Rattle.adc_ports.proofs.StateLemmas.{reads_none, reads_on}
use Rattle.cell_store.specs.State.{live_rows}
use Rattle.index_file.specs.Reading.{Indexed}
use Rattle.play_script.specs.declared.Role.TheVariants as role
use Rattle.adc_inputs.specs.Inputs.{rows_held}
use Rattle.adc_inputs.proofs.Reading.{reads_stop}
use Rattle.adc_program.proofs.AllowTexts.{queries_at, list_at}
use Rattle.adc_program.proofs.Outcomes.{checked_at, error_at}
use Rattle.adc_program.proofs.allows.open.Goals as goal

pub returns-in-Err-clause-reads : goal.returns-in-Err-clause-reads
returns-in-Err-clause-reads g c =
    let job = c.args.job.now in
    reads_stop c.in-Err.stop (reads_none _) refl c.in-Err.ensures.reads
    (λ files error told e. queries_at files job.queries.now job.k job.wanted job.allow.now job.out.now _ error (error_at files role.Queries job.queries.now _ _ error c.d.ensures.value e))

pub returns-in-Err-read_allowed-clause-reads : goal.returns-in-Err-read_allowed-clause-reads
returns-in-Err-read_allowed-clause-reads g c =
    let job = c.args.job.now in
    let index : Indexed = record { book = c.args.index.now.book; rows = live_rows c.args.index.now.store } in
    reads_stop c.in-Err-read_allowed.stop c.in-Ok.ensures.reads.only c.in-Ok.ensures.reads.counts c.in-Err-read_allowed.ensures.reads
    (λ files error told e. list_at files job.queries.now job.k job.wanted job.allow.now job.out.now index (rows_held files role.Queries job.queries.now index.book.d) error
    (checked_at files role.Queries job.queries.now _ _ _ c.d.ensures.value (c.in-Ok.ensures.reads.found files told)).input e)

pub returns-in_default-clause-reads : goal.returns-in_default-clause-reads
returns-in_default-clause-reads g c =
    let only : OnlyReads _ _ = reads_on _ _ _ c.in-Ok.ensures.reads.only c.in-Ok-read_allowed.ensures.reads.only in
    record { only = only; counts = tt; cause = (c.in-Ok-read_allowed.ensures.reads.counts ∙ c.in-Ok.ensures.reads.counts, only.writes); found = λ files told. tt }

pub returns-clause-reads : goal.returns-clause-reads
returns-clause-reads g c = record {
  only = reads_on _ _ _ c.in-Ok.ensures.reads.only c.in-Ok-read_allowed.ensures.reads.only;
  counts = c.in-Ok-read_allowed.ensures.reads.counts ∙ c.in-Ok.ensures.reads.counts;
  cause = tt;
  found = λ files told. (
    checked_at files role.Queries c.args.job.now.queries.now _ _ _ c.d.ensures.value (c.in-Ok.ensures.reads.found files told),
    (c.in-Ok-read_allowed.ensures.reads.found files (c.in-Ok.ensures.reads.only.files ∙ told) ∙ ap Ok (sym c.in-Ok-allowed.ensures.ranges)),
  );
}
