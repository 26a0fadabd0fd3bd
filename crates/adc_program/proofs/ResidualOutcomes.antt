-- What the files of a residual play come to, by what is found in them one after another.
use Rattle.std.proofs.Common.{◌≡◌, ℕ, Ok, Err, Some, None, refl}
use Rattle.adc_ports.specs.Files.{Files}
use Rattle.book_model.specs.Book.{Book}
use Rattle.half_tables.specs.Residual.{residual_fault}
use Rattle.play_script.specs.declared.Role.TheVariants as role
use Rattle.adc_inputs.specs.declared.stop.InputError.{InputError}
use Rattle.adc_inputs.specs.declared.stop.InputError.TheVariants.{Malformed}
use Rattle.adc_inputs.specs.Names.{Name}
use Rattle.adc_inputs.specs.Inputs.{book_input}
use Rattle.adc_program.specs.Plays.{lines_by}
use Rattle.adc_program.specs.Residuals.{by_residuals, residual_by, residual_lines, residual_counts_by, residual_counts}

module _ (files : Files) (base queries script : Name) where
  pub no_residual : (b : Book) (at : ℕ) → residual_fault b ≡ Some at → residual_by files base queries script b ≡ Err (Malformed role.Book at)
  unfolding residual_by
  no_residual b at e = rw e refl

  pub by_residual : (b : Book) → residual_fault b ≡ None → residual_by files base queries script b ≡ lines_by by_residuals files base queries script b
  unfolding residual_by
  by_residual b e = rw e refl

  module _ (book : Name) where
    pub at_residual : (error : InputError) → book_input files book ≡ Err error → residual_lines files book base queries script ≡ Err error
    unfolding residual_lines
    at_residual error e = rw e refl

    pub by_residual_book : (b : Book) → book_input files book ≡ Ok b → residual_lines files book base queries script ≡ residual_by files base queries script b
    unfolding residual_lines
    by_residual_book b e = rw e refl

    pub counts_by_residual_book : (cache : ℕ) (b : Book) → book_input files book ≡ Ok b → residual_counts files book base queries script cache ≡ residual_counts_by files base queries script cache b
    unfolding residual_counts
    counts_by_residual_book cache b e = rw e refl
