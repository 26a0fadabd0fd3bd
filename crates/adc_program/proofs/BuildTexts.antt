-- What builds and upgrades are to write, told from what was read.
use Rattle.std.proofs.Common.{◌≡◌, ℕ, ◌*◌, List, [], length, Ok, Err, refl, sym}
use Rattle.std.specs.Prelude.{Result}
use Rattle.adc_ports.specs.Files.{Files}
use Rattle.book_model.specs.Book.{Book}
use Rattle.book_model.specs.Rows.{Row}
use Rattle.index_file.specs.Reading.{Indexed}
use Rattle.play_script.specs.declared.Role.TheVariants as role
use Rattle.play_script.specs.Texts.{build_done, upgrade_done}
use Rattle.adc_inputs.specs.declared.stop.InputError.{InputError}
use Rattle.adc_inputs.specs.Names.{Name}
use Rattle.adc_inputs.specs.Words.{Info, Build, Upgrade}
use Rattle.adc_inputs.specs.Inputs.{◌>>=◌, book_input, rows_input}
use Rattle.adc_inputs.specs.Indexes.{index_input}
use Rattle.adc_program.specs.Outputs.{Output}
use Rattle.adc_program.specs.Verdict.{output_of}
use Rattle.adc_program.specs.Steps.{counts_wanted}
use Rattle.adc_program.specs.Rows.{cell_count}
use Rattle.adc_program.specs.Infos.{info_lines}
use Rattle.adc_program.specs.Builds.{with_index, built_rows, built, built_by, build_output, upgraded, upgrade_output}
use Rattle.adc_program.proofs.Making.{output_by}

pub info_is_printed : (files : Files) (name : Name) → output_of files (Info name) ≡ output_by (info_lines files name) []
unfolding output_of
info_is_printed files name = refl

pub build_is : (files : Files) (book base name : Name) → output_of files (Build book base name) ≡ build_output files book base name
unfolding output_of
build_is files book base name = refl

pub upgrade_is : (files : Files) (old new : Name) → output_of files (Upgrade old new) ≡ upgrade_output files old new
unfolding output_of
upgrade_is files old new = refl

-- none of them has a query line
counts_bind : {A : Type 0} (r : Result A InputError) (f : A → Result Output InputError) → ((x : A) → counts_wanted (f x) ≡ []) → counts_wanted (r >>= f) ≡ []
counts_bind (Ok x) f h = h x
counts_bind (Err e) f h = refl

pub build_counts : (files : Files) (book base name : Name) → counts_wanted (output_of files (Build book base name)) ≡ []
unfolding output_of build_output built_by built
build_counts files book base name = counts_bind (book_input files book) (built_by files base name) (λ b. counts_bind (rows_input files role.Base base b.d) (λ rows. Ok (built name b rows)) (λ rows. refl))

pub upgrade_counts : (files : Files) (old new : Name) → counts_wanted (output_of files (Upgrade old new)) ≡ []
unfolding output_of upgrade_output upgraded
upgrade_counts files old new = counts_bind (index_input files old) (λ index. Ok (upgraded new index)) (λ index. refl)

module _ (files : Files) (base name : Name) (b : Book) where
  pub built_at : (error : InputError) → rows_input files role.Base base b.d ≡ Err error → built_by files base name b ≡ Err error
  unfolding built_by
  built_at error e = rw e refl

  pub built_of : (rows : List (List ℕ)) → rows_input files role.Base base b.d ≡ Ok rows → built_by files base name b ≡ Ok (built name b rows)
  unfolding built_by
  built_of rows e = rw e refl

module _ (files : Files) (book base name : Name) where
  pub build_at : (error : InputError) → book_input files book ≡ Err error → build_output files book base name ≡ Err error
  unfolding build_output
  build_at error e = rw e refl

  pub build_by_book : (b : Book) → book_input files book ≡ Ok b → build_output files book base name ≡ built_by files base name b
  unfolding build_output
  build_by_book b e = rw e refl

-- the output of a build and of an upgrade by the rows that stand in a store
pub built_is : (name : Name) (book : Book) (base : List (List ℕ)) (line : List ℕ) (rows : List Row) → rows ≡ built_rows book base → line ≡ build_done (length base) (cell_count (book.k0 * book.k1) rows)
    → built name book base ≡ with_index role.Index name line book rows
unfolding built
built_is name book base line rows are is = sym (rw (is, are) refl)

pub upgraded_is : (name : Name) (index : Indexed) (line : List ℕ) → line ≡ upgrade_done (length index.rows) (cell_count (index.book.k0 * index.book.k1) index.rows) → upgraded name index ≡ with_index role.Out name line index.book index.rows
unfolding upgraded
upgraded_is name index line is = sym (rw is refl)
