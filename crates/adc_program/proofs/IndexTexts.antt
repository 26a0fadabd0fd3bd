-- The line of an index, and of a run that reads one.
use Rattle.std.proofs.Common.{◌≡◌, ℕ, ◌*◌, List, [], ◌∷◌, length, Ok, Err, refl}
use Rattle.std.specs.Prelude.{Option}
use Rattle.adc_ports.specs.Files.{Files}
use Rattle.index_file.specs.Reading.{Indexed}
use Rattle.play_script.specs.Texts.{info_line}
use Rattle.adc_inputs.specs.declared.stop.InputError.{InputError}
use Rattle.adc_inputs.specs.Names.{Name}
use Rattle.adc_inputs.specs.Indexes.{index_input}
use Rattle.adc_program.specs.Infos.{scale_of, info_of, info_lines}
use Rattle.adc_program.specs.Builds.{upgraded, upgrade_output}
use Rattle.adc_program.specs.Rows.{cell_count}

pub info_is : (index : Indexed) (d h k0 k1 g count cells : ℕ) (widths : List ℕ) (scale : Option ℕ) → d ≡ index.book.d → h ≡ index.book.h → k0 ≡ index.book.k0 → k1 ≡ index.book.k1 → widths ≡ index.book.widths → g ≡ index.book.g
    → count ≡ length index.rows → cells ≡ cell_count (index.book.k0 * index.book.k1) index.rows → scale ≡ scale_of index.book → info_line d h k0 k1 widths g count cells scale ≡ info_of index
unfolding info_of
info_is index d h k0 k1 g count cells widths scale e1 e2 e3 e4 e5 e6 e7 e8 e9 = rw (e1, e2, e3, e4, e5, e6, e7, e8, e9) refl

module _ (files : Files) (name : Name) where
  pub info_at : (error : InputError) → index_input files name ≡ Err error → info_lines files name ≡ Err error
  unfolding info_lines
  info_at error e = rw e refl

  pub info_by : (index : Indexed) → index_input files name ≡ Ok index → info_lines files name ≡ Ok (info_of index ∷ [])
  unfolding info_lines
  info_by index e = rw e refl

  pub upgrade_at : (new : Name) (error : InputError) → index_input files name ≡ Err error → upgrade_output files name new ≡ Err error
  unfolding upgrade_output
  upgrade_at new error e = rw e refl

  pub upgrade_by_index : (new : Name) (index : Indexed) → index_input files name ≡ Ok index → upgrade_output files name new ≡ Ok (upgraded new index)
  unfolding upgrade_output
  upgrade_by_index new index e = rw e refl
