use Rattle.std.proofs.Common.{◌∙◌, refl}
use Rattle.adc_ports.proofs.StateLemmas.{reads_none, reads_on}
use Rattle.play_script.specs.declared.Role.TheVariants as role
use Rattle.adc_inputs.proofs.Reading.{reads_stop}
use Rattle.adc_program.proofs.Outcomes.{at_base, at_queries, at_script, opens, checked_at, error_at}
use Rattle.adc_program.proofs.files.open.Goals as goal

pub returns-in-Err-clause-reads : goal.returns-in-Err-clause-reads
returns-in-Err-clause-reads g c =
    let names = c.args.names.now in
    let book = (g.E.Played.stand c.args.engine.now).book in
    reads_stop c.in-Err.stop (reads_none _) refl c.in-Err.ensures.reads
    (λ files error told e. at_base g.E.Played.means files names.base.now names.queries.now names.script.now book error (error_at files role.Base names.base.now _ _ error c.d-d.ensures.value e))

pub returns-in-Err-check_rows-clause-reads : goal.returns-in-Err-check_rows-clause-reads
returns-in-Err-check_rows-clause-reads g c =
    let names = c.args.names.now in
    let book = (g.E.Played.stand c.args.engine.now).book in
    reads_stop c.in-Err-check_rows.stop c.in-Ok.ensures.reads.only c.in-Ok.ensures.reads.counts c.in-Err-check_rows.ensures.reads
    (λ files error told e. at_queries g.E.Played.means files names.base.now names.queries.now names.script.now book _ error
    (checked_at files role.Base names.base.now _ _ _ c.d-d.ensures.value (c.in-Ok.ensures.reads.found files told)).input
    (error_at files role.Queries names.queries.now _ _ error c.d-d.ensures.value e))

pub returns-in-Err-read_script-clause-reads : goal.returns-in-Err-read_script-clause-reads
returns-in-Err-read_script-clause-reads g c =
    let names = c.args.names.now in
    let book = (g.E.Played.stand c.args.engine.now).book in
    reads_stop c.in-Err-read_script.stop (reads_on _ _ _ c.in-Ok.ensures.reads.only c.in-Ok-check_rows.ensures.reads.only) (c.in-Ok-check_rows.ensures.reads.counts ∙ c.in-Ok.ensures.reads.counts) c.in-Err-read_script.ensures.reads
    (λ files error told e. at_script g.E.Played.means files names.base.now names.queries.now names.script.now book _ _ error
    (checked_at files role.Base names.base.now _ _ _ c.d-d.ensures.value (c.in-Ok.ensures.reads.found files told)).input
    (checked_at files role.Queries names.queries.now _ _ _ c.d-d.ensures.value (c.in-Ok-check_rows.ensures.reads.found files (c.in-Ok.ensures.reads.only.files ∙ told))).input e)

pub returns-in-Ok-read_script-clause-reads : goal.returns-in-Ok-read_script-clause-reads
returns-in-Ok-read_script-clause-reads g c = record {
  only = reads_on _ _ _ (reads_on _ _ _ c.in-Ok.ensures.reads.only c.in-Ok-check_rows.ensures.reads.only) c.in-Ok-read_script.ensures.reads.only;
  counts = c.in-Ok-read_script.ensures.reads.counts ∙ c.in-Ok-check_rows.ensures.reads.counts ∙ c.in-Ok.ensures.reads.counts;
  cause = tt;
  found = λ files told.
      let names = c.args.names.now in
      let told1 = c.in-Ok.ensures.reads.only.files ∙ told in
      opens g.E.Played.means files names (g.E.Played.stand c.args.engine.now).book _ c.in-Ok-read_script.script refl refl refl refl
      (checked_at files role.Base names.base.now _ _ _ c.d-d.ensures.value (c.in-Ok.ensures.reads.found files told))
      (checked_at files role.Queries names.queries.now _ _ _ c.d-d.ensures.value (c.in-Ok-check_rows.ensures.reads.found files told1))
      (c.in-Ok-read_script.ensures.reads.found files (c.in-Ok-check_rows.ensures.reads.only.files ∙ told1));
}
