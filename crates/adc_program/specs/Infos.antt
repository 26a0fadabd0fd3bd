-- What is printed of an index.
use Rattle.std.specs.Prelude.{ℕ, ◌*◌, List, [], ◌∷◌, length, Option, Some, None, Result, Ok, ◌==◌, if◌then◌else◌}
use Rattle.adc_ports.specs.Files.{Files}
use Rattle.book_model.specs.Book.{Book}
use Rattle.index_file.specs.Reading.{Indexed}
use Rattle.play_script.specs.Texts.{info_line}
use Rattle.adc_inputs.specs.declared.stop.InputError.{InputError}
use Rattle.adc_inputs.specs.Names.{Name}
use Rattle.adc_inputs.specs.Inputs.{◌>>=◌}
use Rattle.adc_inputs.specs.Indexes.{index_input}
use Rattle.adc_program.specs.Rows.{cell_count}

-- a book of version 2 has a scale
abbrev pub scale_of : Book → Option ℕ
scale_of book = if book.version == 1 then None else Some book.scale

-- the numbers of its book, and of its rows and the cells that have one
unfoldable pub info_of : Indexed → List ℕ
info_of index = (let b = index.book in info_line b.d b.h b.k0 b.k1 b.widths b.g (length index.rows) (cell_count (b.k0 * b.k1) index.rows) (scale_of b))

unfoldable pub info_lines : Files → Name → Result (List (List ℕ)) InputError
info_lines files name = index_input files name >>= λ index. Ok (info_of index ∷ [])
