use Rattle.std.proofs.Common.{refl, ◌≢◌, ◌∙◌, ℕ, length, Err, sym, ap}
use Rattle.adc_ports.proofs.StateLemmas.{reads_none, reads_on}
use Rattle.play_script.specs.declared.Role.TheVariants as role
use Rattle.adc_inputs.specs.declared.stop.InputError.TheVariants.{Malformed}
use Rattle.adc_inputs.specs.Numbers.{numbers_held}
use Rattle.adc_inputs.proofs.Reading.{reads_stop}
use Rattle.adc_program.proofs.Recalling.{at_found, at_truth, by_both, recalled_unpaired, unpaired_is}
use Rattle.adc_program.proofs.recalls.check_both.Goals as goal

pub returns-in-Err : goal.returns-in-Err
returns-in-Err g c =
    let job = c.args.job.now in
    record { reads = reads_stop c.in-Err.stop (reads_none _) refl c.in-Err.ensures.reads (λ files error told e. at_found files job.found.now job.truth.now job.k error e) }

pub returns-in-Err-check_numbers : goal.returns-in-Err-check_numbers
returns-in-Err-check_numbers g c =
    let job = c.args.job.now in
    record {
      reads = reads_stop c.in-Err-check_numbers.stop c.in-Ok.ensures.reads.only c.in-Ok.ensures.reads.counts c.in-Err-check_numbers.ensures.reads
          (λ files error told e. at_truth files job.found.now job.truth.now job.k _ error (c.in-Ok.ensures.reads.found files told).input e);
    }

pub returns-then-truth-found : goal.returns-then-truth-found
returns-then-truth-found g c =
    let job = c.args.job.now in
    record {
      reads = record {
        only = reads_on _ _ _ c.in-Ok.ensures.reads.only c.in-Ok-check_numbers.ensures.reads.only;
        counts = tt;
        cause = tt;
        found = λ files told.
            let founds = numbers_held files role.Found job.found.now in
            let truths = numbers_held files role.Truth job.truth.now in
            let first = c.in-Ok.ensures.reads.found files told in
            let second = c.in-Ok-check_numbers.ensures.reads.found files (c.in-Ok.ensures.reads.only.files ∙ told) in
            let differ : length founds ≢ length truths = λ same. c.if-truth-found.true (second.rows ∙ sym same ∙ sym first.rows) in
            by_both files job.found.now job.truth.now job.k founds truths first.input second.input
            ∙ recalled_unpaired job.k founds truths differ
            ∙ ap (λ (at : ℕ). Err (Malformed role.Truth at)) (unpaired_is founds truths c.in-Ok.checked c.in-Ok-check_numbers.checked first.rows second.rows second.finds ∙ sym c.unpaired_at.ensures);
      };
    }
