-- What searches are to write, told from what was read.
use Rattle.std.proofs.Common.{◌≡◌, ◌∙◌, ℕ, ◌+◌, ◌-◌, ◌<◌, ◌≤◌, List, [], ◌∷◌, ◌++◌, length, map, Some, Ok, Err, refl, sym, ap, subst, arith}
use Rattle.std.specs.List.{range_with_len}
use Rattle.std.specs.List.{AllByRecursion}
use Rattle.std.proofs.lemmas.List.{length-map, map-append}
use Rattle.adc_ports.specs.Files.{Files}
use Rattle.vec_files.specs.declared.Checked.{Checked}
use Rattle.book_model.specs.Sums.{numbers_below}
use Rattle.book_model.specs.Book.{Book}
use Rattle.book_model.specs.Order.{Pair}
use Rattle.book_model.specs.Rows.{Row}
use Rattle.book_model.specs.Visit.{Query}
use Rattle.book_model.specs.Answer.{answer}
use Rattle.best_k.specs.declared.Pair.{Pair as Hit}
use Rattle.best_k.specs.Least.{Kept as Best, key_of}
use Rattle.cell_store.specs.State.{Store, live_rows}
use Rattle.flat_truth.specs.Flat.{padded}
use Rattle.index_file.specs.Reading.{Indexed}
use Rattle.query_engine.specs.State.{State}
use Rattle.query_engine.specs.Report.{Answers}
use Rattle.prune_scan.specs.declared.meters.Meters.{Meters}
use Rattle.query_engine.specs.declared.report.Report.{Report}
use Rattle.play_script.specs.Texts.{search_done}
use Rattle.play_script.specs.Play.{counts_of, query_line}
use Rattle.play_script.specs.declared.Role.TheVariants as role
use Rattle.adc_inputs.specs.declared.stop.InputError.{InputError}
use Rattle.adc_inputs.specs.Names.{Name}
use Rattle.adc_inputs.specs.Words.{Search}
use Rattle.adc_inputs.specs.Inputs.{rows_input, rows_held, IsCheckOf}
use Rattle.adc_inputs.specs.Indexes.{index_input}
use Rattle.adc_program.specs.Verdict.{output_of}
use Rattle.adc_program.specs.declared.searcher.Asking.{Asking}
use Rattle.adc_program.specs.Searches.{Questions, counts_at, lines_below, bytes_below, counts_below, asked_output, searched, searched_by, search_output}
use Rattle.adc_program.specs.Asked.{indexed, questions_of}
use Rattle.adc_program.proofs.Numbers.{numbers_split, mapped_more}
use Rattle.adc_program.proofs.Growing.{Ignores, held_stays}
use Rattle.adc_program.proofs.IdRows.{ids_of, answer_few, answer_small}

pub search_is : (files : Files) (index queries : Name) (k wanted : ℕ) (name : Name) → output_of files (Search index queries k wanted name) ≡ search_output files index queries k wanted name
unfolding output_of
search_is files index queries k wanted name = refl

module _ (files : Files) (queries : Name) (k wanted : ℕ) (name : Name) where
  pub search_at : (index : Name) (error : InputError) → index_input files index ≡ Err error → search_output files index queries k wanted name ≡ Err error
  unfolding search_output
  search_at index error e = rw e refl

  pub search_by_index : (index : Name) (i : Indexed) → index_input files index ≡ Ok i → search_output files index queries k wanted name ≡ searched_by files queries k wanted name i
  unfolding search_output
  search_by_index index i e = rw e refl

  pub searched_at : (i : Indexed) (error : InputError) → rows_input files role.Queries queries i.book.d ≡ Err error → searched_by files queries k wanted name i ≡ Err error
  unfolding searched_by
  searched_at i error e = rw e refl

  pub searched_of : (i : Indexed) (rows : List (List ℕ)) → rows_input files role.Queries queries i.book.d ≡ Ok rows → searched_by files queries k wanted name i ≡ Ok (searched name i rows k wanted)
  unfolding searched_by
  searched_of i rows e = rw e refl

-- what a query's line tells, and its ids, by what the engine answered
module _ (book : Book) (query : Query) (store : Store) (best : Best) (report : Report) (old new : Meters) (is : Answers book query store best report old new) where
  pub counts_are : counts_of book query (live_rows store) ≡ record { cells = report.cells; live = report.live; full = report.full }
  counts_are = sym (rw (is.reports.cells, is.reports.live, is.reports.full) refl)

  pub ids_are : (k : ℕ) (hits : List Hit) → map key_of hits ≡ best.pairs → padded k (ids_of hits) ≡ padded k (map (λ (pair : Pair). pair.1) (answer book query (live_rows store)))
  ids_are k hits pairs = ap (λ (l : List Pair). padded k (map (λ (pair : Pair). pair.1) l)) (pairs ∙ is.answers)

  pub hits_few : (hits : List Hit) → map key_of hits ≡ best.pairs → length hits ≤ query.k
  hits_few hits pairs = omega (arith, length-map hits key_of, ap length (pairs ∙ is.answers), answer_few book query (live_rows store))

  pub hits_small : (hits : List Hit) → map key_of hits ≡ best.pairs → AllByRecursion (λ (row : Row). row.id ≤ 2147483647) (live_rows store) → AllByRecursion (λ (pair : Pair). pair.1 ≤ 2147483647) (map key_of hits)
  hits_small hits pairs small = subst (λ (l : List Pair). AllByRecursion (λ (pair : Pair). pair.1 ≤ 2147483647) l) (sym (pairs ∙ is.answers)) (answer_small book query (live_rows store) small)

-- the parts of what is to be written
pub asked_output_is : (name : Name) (index : Indexed) (questions : Questions) (n : ℕ) (last : List ℕ)
    → asked_output name index questions n last ≡ record { lines = lines_below index questions n ++ last ∷ []; file = Some (record { role = role.Out; name = name; bytes = bytes_below index questions n }); queries = counts_below index questions n }
unfolding asked_output
asked_output_is name index questions n last = refl

pub searched_is : (name name1 : Name) (index index1 : Indexed) (held : List (List ℕ)) (k wanted : ℕ) (questions : Questions) (n : ℕ) (last : List ℕ) → name1 ≡ name → index1 ≡ index
    → questions ≡ record { queries = held; k = k; wanted = wanted; ranges = (0, 2147483647) ∷ [] } → n ≡ length held → last ≡ search_done n → searched name index held k wanted ≡ asked_output name1 index1 questions n last
unfolding searched
searched_is name name1 index index1 held k wanted questions n last e1 e2 e3 e4 e5 = sym (rw (e1, e2, e3, e5, e4) refl)

-- one query more, and the queries behind it
module _ (index : Indexed) (questions : Questions) (n : ℕ) where
  pub lines_more : lines_below index questions (n + 1) ≡ lines_below index questions n ++ query_line n (counts_at index questions n) ∷ []
  lines_more = mapped_more (λ i. query_line i (counts_at index questions i)) n

  pub counts_more : counts_below index questions (n + 1) ≡ counts_below index questions n ++ counts_at index questions n ∷ []
  counts_more = mapped_more (counts_at index questions) n

  behind : ℕ → List ℕ
  behind m = range_with_len (0 + (n + 1)) (m - (n + 1))

  pub lines_behind : ℕ → List (List ℕ)
  lines_behind m = map (λ i. query_line i (counts_at index questions i)) (behind m)

  pub lines_split : (m : ℕ) → n < m → lines_below index questions m ≡ (lines_below index questions n ++ query_line n (counts_at index questions n) ∷ []) ++ lines_behind m
  unfolding behind lines_behind
  lines_split m lt =
      ap (map (λ i. query_line i (counts_at index questions i))) (numbers_split (n + 1) m (omega arith))
      ∙ map-append (λ i. query_line i (counts_at index questions i)) (numbers_below (n + 1)) (behind m)
      ∙ ap (λ (l : List (List ℕ)). l ++ lines_behind m) lines_more

-- what is asked does not depend on the file that is written
pub asked_stays : {A : Type 0} (asking : Asking) (ranges : List (ℕ × ℕ)) (f : Questions → A) → Ignores asking.out.now (λ files. f (questions_of files asking ranges))
asked_stays asking ranges f = λ files files1 stay.
    ap (λ (held : List (List ℕ)). f (record { queries = held; k = asking.k; wanted = asking.wanted; ranges = ranges }))
    (held_stays files files1 asking.queries.role asking.queries.name.now asking.out.now stay asking.apart asking.queries.checked.d)

-- what a search is to write, by what was checked and is asked
pub searched_out : (files : Files) (queries : Name) (k wanted : ℕ) (name : Name) (index : Indexed) (checked : Checked) (asking : Asking) (engine : State) (ranges : List (ℕ × ℕ)) (last : List ℕ)
    → IsCheckOf files role.Queries queries index.book.d checked → checked.d ≡ index.book.d → asking.queries.role ≡ role.Queries → asking.queries.name.now ≡ queries → asking.queries.checked ≡ checked
    → asking.k ≡ k → asking.wanted ≡ wanted → asking.out.now ≡ name → indexed engine ≡ index → ranges ≡ (0, 2147483647) ∷ [] → last ≡ search_done checked.rows
    → searched_by files queries k wanted name index ≡ Ok (asked_output asking.out.now (indexed engine) (questions_of files asking ranges) asking.queries.checked.rows last)
searched_out files queries k wanted name index checked asking engine ranges last check size e1 e2 e3 e4 e5 e6 e7 e8 e9 =
    let held : List (List ℕ) = rows_held files role.Queries queries index.book.d in
    let d : asking.queries.checked.d ≡ index.book.d = ap (λ (c : Checked). c.d) e3 ∙ size in
    let rows : asking.queries.checked.rows ≡ checked.rows = ap (λ (c : Checked). c.rows) e3 in
    let asked : questions_of files asking ranges ≡ record { queries = held; k = k; wanted = wanted; ranges = (0, 2147483647) ∷ [] } = rw (e1, e2, d, e4, e5, e8) refl in
    searched_of files queries k wanted name index held check.input
    ∙ ap Ok (searched_is name asking.out.now index (indexed engine) held k wanted (questions_of files asking ranges) asking.queries.checked.rows last e6 e7 asked (rows ∙ check.rows) (e9 ∙ ap search_done (sym rows)))
