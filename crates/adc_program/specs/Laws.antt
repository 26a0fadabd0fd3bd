-- Laws over what words and files come to.
use Rattle.std.specs.Prelude.{◌≡◌, ℕ, List, Some}
use Rattle.adc_ports.specs.Files.{Files}
use Rattle.book_model.specs.Book.{Book, IsGood}
use Rattle.codebook_core.specs.Spelling.{book_bytes}
use Rattle.play_script.specs.Stream.{Drawn, sample_book}
use Rattle.adc_inputs.specs.Names.{Name}
use Rattle.adc_inputs.specs.Words.{Sample, job_of}
use Rattle.adc_program.specs.Outputs.{Verdict, Good, printed}
use Rattle.adc_program.specs.Samples.{sample_lines, sample_counts}
use Rattle.adc_program.specs.Verdict.{verdict}

-- the bytes of a sample's book spell a valid book, and what it comes to are the lines of the sample by that book
pub record HasGoodBook (sample : Drawn) (outcome : Verdict) : Type 0 where
  pub book : Book
  pub good : IsGood book
  pub spelled : book_bytes book ≡ sample_book sample
  pub prints : outcome ≡ Good (printed (sample_lines book sample) (sample_counts book sample))

-- a sample is never a wrong input, whatever its numbers and whatever files there are
abbrev pub SamplesAreGood : Type 0
SamplesAreGood = (words : List Name) (files : Files) (start rows : ℕ) → job_of words ≡ Some (Sample start rows) → HasGoodBook (record { start = start; rows = rows }) (verdict words files)
