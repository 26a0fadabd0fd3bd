-- What a build and an upgrade are to write.
use Rattle.std.specs.Prelude.{ℕ, ◌*◌, List, [], ◌∷◌, length, Some, Result, Ok, slice_index_or}
use Rattle.adc_ports.specs.Files.{Files}
use Rattle.book_model.specs.Book.{Book}
use Rattle.book_model.specs.Rows.{Row}
use Rattle.index_file.specs.Reading.{Indexed}
use Rattle.index_file.specs.Spelling.{by_cell, index_bytes}
use Rattle.play_script.specs.declared.Role.{Role}
use Rattle.play_script.specs.declared.Role.TheVariants as role
use Rattle.play_script.specs.Texts.{build_done, upgrade_done}
use Rattle.adc_inputs.specs.declared.stop.InputError.{InputError}
use Rattle.adc_inputs.specs.Names.{Name}
use Rattle.adc_inputs.specs.Inputs.{◌>>=◌, book_input, rows_input}
use Rattle.adc_inputs.specs.Indexes.{index_input}
use Rattle.adc_program.specs.Outputs.{Output}
use Rattle.adc_program.specs.Rows.{numbered_rows, cell_count}

-- a line, and the index of rows by rising cell
abbrev pub with_index : Role → Name → List ℕ → Book → List Row → Output
with_index part name line book rows = record { lines = line ∷ []; file = Some (record { role = part; name = name; bytes = index_bytes book (by_cell (book.k0 * book.k1) rows) }); queries = [] }

-- the rows of a base, each inserted with its number as its id
abbrev pub base_vector : List (List ℕ) → ℕ → List ℕ
base_vector base n = slice_index_or base n []

abbrev pub built_rows : Book → List (List ℕ) → List Row
built_rows book base = numbered_rows book (base_vector base) (length base)

unfoldable pub built : Name → Book → List (List ℕ) → Output
built name book base = with_index role.Index name (build_done (length base) (cell_count (book.k0 * book.k1) (built_rows book base))) book (built_rows book base)

-- a build by its book, and a build
unfoldable pub built_by : Files → Name → Name → Book → Result Output InputError
built_by files base name book = rows_input files role.Base base book.d >>= λ rows. Ok (built name book rows)

unfoldable pub build_output : Files → Name → Name → Name → Result Output InputError
build_output files book base name = book_input files book >>= built_by files base name

-- an index of either version in the form of version 2
unfoldable pub upgraded : Name → Indexed → Output
upgraded name index = with_index role.Out name (upgrade_done (length index.rows) (cell_count (index.book.k0 * index.book.k1) index.rows)) index.book index.rows

unfoldable pub upgrade_output : Files → Name → Name → Result Output InputError
upgrade_output files old name = index_input files old >>= λ index. Ok (upgraded name index)
