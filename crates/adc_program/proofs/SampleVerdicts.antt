-- A sample is never a wrong input.
use Rattle.std.proofs.Common.{◌≡◌, ◌∙◌, ℕ, List, Some, ap}
use Rattle.std.specs.Prelude.{Result}
use Rattle.adc_ports.specs.Files.{Files}
use Rattle.play_script.specs.Play.{Counts}
use Rattle.play_script.specs.Stream.{Drawn}
use Rattle.adc_inputs.specs.declared.stop.InputError.{InputError}
use Rattle.adc_inputs.specs.Names.{Name}
use Rattle.adc_inputs.specs.Words.{Sample, job_of}
use Rattle.adc_program.specs.Outputs.{Good, printed, verdict_of}
use Rattle.adc_program.specs.Samples.{sample_lines, sample_counts, counts_of_sample}
use Rattle.adc_program.specs.Verdict.{verdict, verdict_by}
use Rattle.adc_program.specs.Laws.{SamplesAreGood}
use Rattle.adc_program.proofs.Making.{output_by, sample_is}
use Rattle.adc_program.proofs.SampleBook.{drawn_book, book_good, book_spelled, book_is}
use Rattle.adc_program.proofs.SampleQueries.{lines_by_book, counts_by_book}

prints : (sample : Drawn) (words : List Name) (files : Files) → job_of words ≡ Some (Sample sample.start sample.rows)
    → verdict words files ≡ Good (printed (sample_lines (drawn_book sample) sample) (sample_counts (drawn_book sample) sample))
unfolding verdict
prints sample words files is =
    let book = drawn_book sample in
    ap (verdict_by files) is ∙ ap verdict_of (sample_is files sample.start sample.rows)
    ∙ ap (λ (lines : Result (List (List ℕ)) InputError). verdict_of (output_by lines (counts_of_sample sample))) (lines_by_book sample book (book_is sample))
    ∙ ap (λ (counts : List Counts). Good (printed (sample_lines book sample) counts)) (counts_by_book sample book (book_is sample))

pub samples_are_good : SamplesAreGood
samples_are_good words files start rows is =
    let sample : Drawn = record { start = start; rows = rows } in
    record { book = drawn_book sample; good = book_good sample; spelled = book_spelled sample; prints = prints sample words files is }
