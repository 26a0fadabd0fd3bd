-- What a query of a sample prints, told from what the engine answered.
use Rattle.std.proofs.Common.{◌≡◌, ℕ, ◌*◌, List, [], ◌∷◌, ◌++◌, map, flat_map, refl, sym, subst}
use Rattle.std.specs.Prelude.{None, Ok, Err, min}
use Rattle.adc_ports.specs.States.{ShelfState, SinkState}
use Rattle.adc_ports.proofs.StateLemmas.{reads_none}
use Rattle.book_model.specs.Book.{Book}
use Rattle.book_model.specs.Order.{Pair}
use Rattle.book_model.specs.Sums.{numbers_below}
use Rattle.book_model.specs.Rows.{Row}
use Rattle.best_k.specs.Least.{Kept as Best}
use Rattle.cell_store.specs.State.{Store, live_rows}
use Rattle.play_script.specs.Stream.{Drawn, sample_query}
use Rattle.play_script.specs.Texts.{query_done, sample_start, cells_line, sample_end}
use Rattle.play_script.specs.Play.{Counts, ranges_of}
use Rattle.query_engine.specs.Report.{query_of, Answers}
use Rattle.prune_scan.specs.declared.meters.Meters.{Meters}
use Rattle.query_engine.specs.declared.report.Report.{Report}
use Rattle.adc_inputs.specs.declared.stop.Stop.{Stop}
use Rattle.adc_inputs.specs.Steps.{Decodes}
use Rattle.adc_inputs.proofs.Reading.{reads_decoded}
use Rattle.adc_program.specs.declared.halts.Halted.TheVariants.{Stopped}
use Rattle.adc_program.specs.Steps.{Plays}
use Rattle.adc_program.proofs.Playing.{plays_stop}
use Rattle.adc_program.specs.Samples.{sample_rows, first_lines, asked_lines, asked_counts, sample_lines, sample_counts, book_of_sample, lines_of_sample, counts_of_sample}
use Rattle.adc_program.specs.Rows.{cell_count}
use Rattle.adc_program.specs.Work.{Works}
use Rattle.adc_program.proofs.Working.{works_query}

module _ (sample : Drawn) (number wanted : ℕ) (book : Book) (store : Store) (v : List ℕ) (best : Best) (report : Report) (old new : Meters)
    (vector : v ≡ sample_query sample number) (few : wanted ≡ min sample.rows 100) (is : Answers book (query_of v 10 wanted (ranges_of None)) store best report old new) where
  pub asked_lines_are : (line : List ℕ) (pairs : List Pair) → line ≡ query_done number report.cells report.live report.full → pairs ≡ best.pairs
      → asked_lines book sample (live_rows store) number ≡ (line ∷ []) ++ first_lines pairs
  unfolding asked_lines
  asked_lines_are line pairs printed are = sym (rw (printed, are, is.answers, is.reports.cells, is.reports.live, is.reports.full, vector, few) refl)

  pub asked_works : Works (asked_counts book sample (live_rows store) number ∷ []) old new
  asked_works =
      let counts : asked_counts book sample (live_rows store) number ≡ record { cells = report.cells; live = report.live; full = report.full } = sym (rw (is.reports.cells, is.reports.live, is.reports.full, vector, few) refl) in
      subst (λ (c : Counts). Works (c ∷ []) old new) (sym counts) (works_query book (query_of v 10 wanted (ranges_of None)) store best report old new is)

-- a sample by its book
module _ (sample : Drawn) (book : Book) (e : book_of_sample sample ≡ Ok book) where
  pub lines_by_book : lines_of_sample sample ≡ Ok (sample_lines book sample)
  unfolding lines_of_sample
  lines_by_book = rw e refl

  pub counts_by_book : counts_of_sample sample ≡ sample_counts book sample
  unfolding counts_of_sample
  counts_by_book = rw e refl

-- a sample whose book is refused
pub sample_stops : {X : Type 0} (view : X → Book) (sample : Drawn) (stop : Stop) (shelf : ShelfState) (o : SinkState) → Decodes view (Err stop) (book_of_sample sample)
    → Plays (Err (Stopped stop)) (λ files. lines_of_sample sample) shelf shelf o o
unfolding lines_of_sample
sample_stops view sample stop shelf o h =
    plays_stop stop (reads_decoded view (Err stop) (book_of_sample sample) (λ files. book_of_sample sample) shelf shelf (reads_none shelf) refl h (λ files told. refl)) (λ files error told e. rw e refl)

-- the text of a sample whose rows stand in an engine
module _ (book : Book) (sample : Drawn) (all : List Row) (are : all ≡ sample_rows book sample) where
  pub sample_lines_are : (start rows : ℕ) (last : List ℕ) → start ≡ sample.start → rows ≡ sample.rows → last ≡ sample_end
      → sample_lines book sample ≡ ((sample_start start rows ∷ cells_line (cell_count (book.k0 * book.k1) all) ∷ []) ++ flat_map (asked_lines book sample all) (numbers_below 16)) ++ last ∷ []
  unfolding sample_lines
  sample_lines_are start rows last e f l = rw (e, f, l, are) refl

  pub sample_counts_are : sample_counts book sample ≡ map (asked_counts book sample all) (numbers_below 16)
  unfolding sample_counts
  sample_counts_are = rw are refl
