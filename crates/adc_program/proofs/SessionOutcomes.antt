-- What the files of a play with sessions come to, by what is found in them one after another.
use Rattle.std.proofs.Common.{◌≡◌, ℕ, List, Ok, Err, refl}
use Rattle.adc_ports.specs.Files.{Files}
use Rattle.book_model.specs.Book.{Book}
use Rattle.play_script.specs.declared.SessionCommand.{SessionCommand}
use Rattle.play_script.specs.declared.Role.TheVariants as role
use Rattle.adc_inputs.specs.declared.job.PlayJob.{PlayJob}
use Rattle.adc_inputs.specs.declared.stop.InputError.{InputError}
use Rattle.adc_inputs.specs.Names.{Name}
use Rattle.adc_inputs.specs.Words.{Sessions}
use Rattle.adc_inputs.specs.Inputs.{book_input, rows_input, IsCheckOf}
use Rattle.adc_inputs.specs.SessionInputs.{session_input}
use Rattle.adc_program.specs.declared.player.Inputs.{Inputs}
use Rattle.adc_program.specs.SessionPlays.{session_lines_by, session_lines, session_counts_by, session_play_counts}
use Rattle.adc_program.specs.SessionStages.{AreOpenedFor}
use Rattle.adc_program.specs.Verdict.{output_of}
use Rattle.adc_program.proofs.Making.{output_by}

module _ (files : Files) (base queries script : Name) (b : Book) where
  pub at_base : (error : InputError) → rows_input files role.Base base b.d ≡ Err error → session_lines_by files base queries script b ≡ Err error
  unfolding session_lines_by
  at_base error e = rw e refl

  pub at_queries : (rows : List (List ℕ)) (error : InputError) → rows_input files role.Base base b.d ≡ Ok rows → rows_input files role.Queries queries b.d ≡ Err error → session_lines_by files base queries script b ≡ Err error
  unfolding session_lines_by
  at_queries rows error e e2 = rw e (rw e2 refl)

  pub at_script : (rows asked : List (List ℕ)) (error : InputError) → rows_input files role.Base base b.d ≡ Ok rows → rows_input files role.Queries queries b.d ≡ Ok asked → session_input files script ≡ Err error
      → session_lines_by files base queries script b ≡ Err error
  unfolding session_lines_by
  at_script rows asked error e e2 e3 = rw e (rw e2 (rw e3 refl))

-- the inputs that were checked, and the script that was read
pub opens : (files : Files) (names : PlayJob) (b : Book) (inputs : Inputs) (commands : List SessionCommand) → inputs.base.role ≡ role.Base → inputs.queries.role ≡ role.Queries
    → inputs.base.name.now ≡ names.base.now → inputs.queries.name.now ≡ names.queries.now → IsCheckOf files role.Base names.base.now b.d inputs.base.checked
    → IsCheckOf files role.Queries names.queries.now b.d inputs.queries.checked → session_input files names.script.now ≡ Ok commands → AreOpenedFor files names b inputs commands
unfolding session_lines_by session_counts_by
opens files names b inputs commands base_role queries_role base_name queries_name base queries read = record {
  counts = rw (base_name, queries_name, read) refl;
  output = rw (base_name, queries_name) (rw base.input (rw queries.input (rw read refl)));
  played = record { base_role = base_role; queries_role = queries_role; base = rw base_name base; queries = rw queries_name queries };
}

pub at_book : (files : Files) (book base queries script : Name) (error : InputError) → book_input files book ≡ Err error → session_lines files book base queries script ≡ Err error
unfolding session_lines
at_book files book base queries script error e = rw e refl

pub by_book : (files : Files) (book base queries script : Name) (b : Book) → book_input files book ≡ Ok b → session_lines files book base queries script ≡ session_lines_by files base queries script b
unfolding session_lines
by_book files book base queries script b e = rw e refl

pub counts_by_book : (files : Files) (book base queries script : Name) (b : Book) → book_input files book ≡ Ok b → session_play_counts files book base queries script ≡ session_counts_by files base queries script b
unfolding session_play_counts
counts_by_book files book base queries script b e = rw e refl

-- what the job is to write
pub sessions_is : (files : Files) (book base queries script : Name)
    → output_of files (Sessions book base queries script) ≡ output_by (session_lines files book base queries script) (session_play_counts files book base queries script)
unfolding output_of
sessions_is files book base queries script = refl
