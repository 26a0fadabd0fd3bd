-- What is asked of an index, by the names that the code has for it.
use Rattle.std.specs.Prelude.{ℕ, List}
use Rattle.adc_ports.specs.Files.{Files}
use Rattle.cell_store.specs.State.{live_rows}
use Rattle.index_file.specs.Reading.{Indexed}
use Rattle.query_engine.specs.State.{State}
use Rattle.adc_inputs.specs.Inputs.{rows_held}
use Rattle.adc_program.specs.declared.searcher.Asking.{Asking}
use Rattle.adc_program.specs.Searches.{Questions}

-- the index that an engine has
abbrev pub indexed : State → Indexed
indexed engine = record { book = engine.book; rows = live_rows engine.store }

-- the questions, with the query rows as the files hold them, among the ids of these ranges
abbrev pub questions_of : Files → Asking → List (ℕ × ℕ) → Questions
questions_of files asking ranges = record {
  queries = rows_held files asking.queries.role asking.queries.name.now asking.queries.checked.d;
  k = asking.k;
  wanted = asking.wanted;
  ranges = ranges;
}
