use Rattle.std.proofs.Common.{refl, ◌∙◌, ℕ, List, Ok, sym, ap, ap₂}
use Rattle.adc_ports.proofs.StateLemmas.{reads_none, reads_on}
use Rattle.play_script.specs.declared.Role.TheVariants as role
use Rattle.play_script.specs.Texts.{exact_done}
use Rattle.adc_inputs.specs.Vectors.{vectors_input}
use Rattle.adc_inputs.specs.Inputs.{rows_held}
use Rattle.adc_inputs.proofs.Reading.{reads_stop}
use Rattle.adc_program.specs.Exacts.{with_nearest}
use Rattle.adc_program.proofs.NearestRows.{wanted_is, at_base, at_asked, by_both}
use Rattle.adc_program.proofs.exacts.open.Goals as goal

pub returns-in-Err-clause-reads : goal.returns-in-Err-clause-reads
returns-in-Err-clause-reads g c =
    let job = c.args.job.now in
    reads_stop c.in-Err.stop (reads_none _) refl c.in-Err.ensures.reads (λ files error told e. at_base files job.base.now job.queries.now job.k job.out.now error e)

pub returns-in-Err-check_vectors-clause-reads : goal.returns-in-Err-check_vectors-clause-reads
returns-in-Err-check_vectors-clause-reads g c =
    let job = c.args.job.now in
    reads_stop c.in-Err-check_vectors.stop c.in-Ok.ensures.reads.only c.in-Ok.ensures.reads.counts c.in-Err-check_vectors.ensures.reads (λ files error told e.
    let first = c.in-Ok.ensures.reads.found files told in
    let wanted = c.length_of-wanted.ensures ∙ wanted_is c.in-Ok.checked (rows_held files role.Base job.base.now c.in-Ok.checked.d) first.check.rows first.check.finds in
    at_asked files job.base.now job.queries.now job.k job.out.now _ error first.input (ap (vectors_input files role.Queries job.queries.now) (sym wanted) ∙ e))

pub returns-clause-reads : goal.returns-clause-reads
returns-clause-reads g c =
    let job = c.args.job.now in
    record {
      only = reads_on _ _ _ c.in-Ok.ensures.reads.only c.in-Ok-check_vectors.ensures.reads.only;
      counts = c.in-Ok-check_vectors.ensures.reads.counts ∙ c.in-Ok.ensures.reads.counts;
      cause = tt;
      found = λ files told.
          let first = c.in-Ok.ensures.reads.found files told in
          let second = c.in-Ok-check_vectors.ensures.reads.found files (c.in-Ok.ensures.reads.only.files ∙ told) in
          let held : List (List ℕ) = rows_held files role.Base job.base.now c.in-Ok.checked.d in
          let asked : List (List ℕ) = rows_held files role.Queries job.queries.now c.in-Ok-check_vectors.checked.d in
          let wanted = c.length_of-wanted.ensures ∙ wanted_is c.in-Ok.checked held first.check.rows first.check.finds in
          record {
            base_is = first.check;
            queries_are = second.check;
            output = by_both files job.base.now job.queries.now job.k job.out.now held asked first.input (ap (vectors_input files role.Queries job.queries.now) (sym wanted) ∙ second.input)
                ∙ ap₂ (λ (q b : ℕ). Ok (with_nearest job.out.now (exact_done q b) held asked job.k q)) (sym second.check.rows) (sym first.check.rows);
          };
    }
