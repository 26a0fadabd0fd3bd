-- What the files of a play come to, by what is found in them one after another.
use Rattle.std.proofs.Common.{◌≡◌, ℕ, List, Ok, Err, refl, subst}
use Rattle.adc_ports.specs.Files.{Files}
use Rattle.book_model.specs.Book.{Book}
use Rattle.vec_files.specs.declared.Checked.{Checked}
use Rattle.play_script.specs.declared.Command.{Command}
use Rattle.play_script.specs.Play.{Means, by_codes}
use Rattle.play_script.specs.declared.Role.{Role}
use Rattle.play_script.specs.declared.Role.TheVariants as role
use Rattle.adc_inputs.specs.declared.job.PlayJob.{PlayJob}
use Rattle.adc_program.specs.declared.player.Inputs.{Inputs}
use Rattle.adc_inputs.specs.declared.stop.InputError.{InputError}
use Rattle.adc_inputs.specs.Names.{Name}
use Rattle.adc_inputs.specs.Inputs.{book_input, rows_input, script_input, IsCheckOf}
use Rattle.adc_program.specs.Stages.{AreOpened}
use Rattle.adc_program.specs.Plays.{lines_by, play_lines, asked_in, counts_by, play_counts}

module _ (means : Means) (files : Files) (base queries script : Name) (b : Book) where
  pub at_base : (error : InputError) → rows_input files role.Base base b.d ≡ Err error → lines_by means files base queries script b ≡ Err error
  unfolding lines_by
  at_base error e = rw e refl

  pub at_queries : (rows : List (List ℕ)) (error : InputError) → rows_input files role.Base base b.d ≡ Ok rows → rows_input files role.Queries queries b.d ≡ Err error → lines_by means files base queries script b ≡ Err error
  unfolding lines_by
  at_queries rows error e e2 = rw e (rw e2 refl)

  pub at_script : (rows asked : List (List ℕ)) (error : InputError) → rows_input files role.Base base b.d ≡ Ok rows → rows_input files role.Queries queries b.d ≡ Ok asked → script_input files script ≡ Err error → lines_by means files base queries script b ≡ Err error
  unfolding lines_by
  at_script rows asked error e e2 e3 = rw e (rw e2 (rw e3 refl))

-- the inputs that were checked, and the script that was read
pub opens : (means : Means) (files : Files) (names : PlayJob) (b : Book) (inputs : Inputs) (commands : List Command) → inputs.base.role ≡ role.Base → inputs.queries.role ≡ role.Queries
    → inputs.base.name.now ≡ names.base.now → inputs.queries.name.now ≡ names.queries.now → IsCheckOf files role.Base names.base.now b.d inputs.base.checked
    → IsCheckOf files role.Queries names.queries.now b.d inputs.queries.checked → script_input files names.script.now ≡ Ok commands → AreOpened means files names b inputs commands
unfolding lines_by asked_in
opens means files names b inputs commands base_role queries_role base_name queries_name base queries read = record {
  asked = rw (base_name, queries_name, read) refl;
  output = rw (base_name, queries_name) (rw base.input (rw queries.input (rw read refl)));
  played = record { base_role = base_role; queries_role = queries_role; base = rw base_name base; queries = rw queries_name queries };
}

pub at_book : (files : Files) (book base queries script : Name) (error : InputError) → book_input files book ≡ Err error → play_lines files book base queries script ≡ Err error
unfolding play_lines
at_book files book base queries script error e = rw e refl

pub by_book : (files : Files) (book base queries script : Name) (b : Book) → book_input files book ≡ Ok b → play_lines files book base queries script ≡ lines_by by_codes files base queries script b
unfolding play_lines
by_book files book base queries script b e = rw e refl

pub counts_by_book : (files : Files) (book base queries script : Name) (b : Book) → book_input files book ≡ Ok b → play_counts files book base queries script ≡ counts_by files base queries script b
unfolding play_counts
counts_by_book files book base queries script b e = rw e refl

-- what a check found of rows of as many components
pub checked_at : (files : Files) (part : Role) (name : Name) (d d1 : ℕ) (checked : Checked) → d1 ≡ d → IsCheckOf files part name d1 checked → IsCheckOf files part name d checked
checked_at files part name d d1 checked size h = subst (λ (n : ℕ). IsCheckOf files part name n checked) size h

pub error_at : (files : Files) (part : Role) (name : Name) (d d1 : ℕ) (error : InputError) → d1 ≡ d → rows_input files part name d1 ≡ Err error → rows_input files part name d ≡ Err error
error_at files part name d d1 error size h = subst (λ (n : ℕ). rows_input files part name n ≡ Err error) size h
