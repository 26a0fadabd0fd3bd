-- What a query by radius prints and costs, told from what was found.
use Rattle.std.proofs.Common.{◌≡◌, ◌∙◌, ℕ, ◌≤◌, List, [], ◌∷◌, ◌++◌, length, map, flat_map, Ok, Err, refl, sym, ap, subst, arith}
use Rattle.std.proofs.lemmas.List.{length-map}
use Rattle.adc_ports.specs.Files.{Files}
use Rattle.book_model.specs.Order.{Pair, pair_cmp}
use Rattle.book_model.specs.Sums.{numbers_below}
use Rattle.book_model.specs.Book.{Book}
use Rattle.book_model.specs.Rows.{Row}
use Rattle.book_model.specs.Visit.{Query, visited}
use Rattle.book_model.specs.Answer.{pairs_of}
use Rattle.book_model.proofs.Best.{length-sorted}
use Rattle.book_model.proofs.FilterLemmas.{length_filter_le}
use Rattle.best_k.specs.Least.{key_of}
use Rattle.best_k.specs.declared.Pair.{Pair as Hit}
use Rattle.cell_store.specs.State.{Store, live_rows}
use Rattle.index_file.specs.Reading.{Indexed}
use Rattle.radius_scan.specs.Radius.{pairs_within, within_radius}
use Rattle.radius_scan.specs.Report.{Finds}
use Rattle.prune_scan.specs.declared.meters.Meters.{Meters}
use Rattle.query_engine.specs.declared.report.Report.{Report}
use Rattle.play_script.specs.declared.Role.TheVariants as role
use Rattle.play_script.specs.Texts.{radius_query_done, radius_done}
use Rattle.play_script.specs.Play.{Counts, hits}
use Rattle.adc_inputs.specs.declared.stop.InputError.{InputError}
use Rattle.adc_inputs.specs.Names.{Name}
use Rattle.adc_inputs.specs.Words.{Radius}
use Rattle.adc_inputs.specs.Inputs.{rows_input, rows_held}
use Rattle.adc_inputs.specs.Indexes.{index_input}
use Rattle.adc_program.specs.Radii.{counts_within, lines_within, lines_of_query, counts_of_query, lines_of_radius, counts_of_radius, lines_over, radius_lines, counts_over, radius_counts}
use Rattle.adc_program.specs.Verdict.{output_of}
use Rattle.adc_program.specs.Work.{Works, RiseLittle}
use Rattle.adc_program.proofs.Making.{output_by}

module _ (book : Book) (query : Query) (r : ℕ) (store : Store) (found : List Pair) (report : Report) (old new : Meters) (is : Finds book query r store found report old new) where
  pub few_found : length found ≤ report.live
  unfolding within_radius
  few_found =
      let seen : List Row = visited book query (live_rows store) in
      let pairs : List Pair = pairs_of book query.vector seen in
      let count : length found ≡ length (pairs_within r pairs) = ap length is.answers ∙ length-sorted pair_cmp (pairs_within r pairs) in
      let few : length (pairs_within r pairs) ≤ length pairs = length_filter_le _ pairs in
      let all : length pairs ≡ length seen = length-map seen _ in
      omega (arith, count, few, all, is.live)

  pub little_radius : RiseLittle 1 store store old new
  little_radius = record {
    stamp = omega arith;
    pairs = omega (arith, is.pairs, is.few_cells);
    full = omega (arith, is.full, is.few_full);
    blocks = omega (arith, is.blocks, is.few_blocks);
    lanes = omega (arith, is.lanes, is.few_blocks);
  }

  pub works_radius : Works (counts_within book (live_rows store) r query ∷ []) old new
  works_radius =
      let counts : counts_within book (live_rows store) r query ≡ record { cells = report.cells; live = report.live; full = report.full } = sym (rw (is.cells, is.live, is.full_rows) refl) in
      subst (λ (c : Counts). Works (c ∷ []) old new) (sym counts) (record { full = omega (arith, is.full); pairs = (omega (arith, is.pairs), omega (arith, is.pairs)) })

  pub lines_are : (n : ℕ) (all : List Hit) → map key_of all ≡ found → lines_within book (live_rows store) r query n ≡ radius_query_done n report.cells report.live report.full (length all) ∷ hits (map key_of all)
  unfolding lines_within
  lines_are n all e =
      let count : length all ≡ length (within_radius book query r (live_rows store)) = sym (length-map all key_of) ∙ ap length (e ∙ is.answers) in
      sym (rw (count, e, is.answers, is.cells, is.live, is.full_rows) refl)

-- all queries
module _ (book : Book) (rows : List Row) (r wanted : ℕ) (queries : List (List ℕ)) (count : ℕ) (is : count ≡ length queries) where
  pub lines_all : flat_map (lines_of_query book rows r wanted queries) (numbers_below count) ++ radius_done count ∷ [] ≡ lines_of_radius book rows r wanted queries
  unfolding lines_of_radius
  lines_all = rw is refl

  pub counts_all : map (counts_of_query book rows r wanted queries) (numbers_below count) ≡ counts_of_radius book rows r wanted queries
  unfolding counts_of_radius
  counts_all = rw is refl

-- the queries over an index
module _ (files : Files) (queries : Name) (r wanted : ℕ) (index : Indexed) where
  pub at_queries : (error : InputError) → rows_input files role.Queries queries index.book.d ≡ Err error → lines_over files queries r wanted index ≡ Err error
  unfolding lines_over
  at_queries error e = rw e refl

  pub by_queries : (rows : List (List ℕ)) → rows_input files role.Queries queries index.book.d ≡ Ok rows → lines_over files queries r wanted index ≡ Ok (lines_of_radius index.book index.rows r wanted rows)
  unfolding lines_over
  by_queries rows e = rw e refl

  pub counts_over_are : counts_over files queries r wanted index ≡ counts_of_radius index.book index.rows r wanted (rows_held files role.Queries queries index.book.d)
  unfolding counts_over
  counts_over_are = refl

-- a run that reads both
module _ (files : Files) (index queries : Name) (r wanted : ℕ) where
  pub at_index : (error : InputError) → index_input files index ≡ Err error → radius_lines files index queries r wanted ≡ Err error
  unfolding radius_lines
  at_index error e = rw e refl

  pub by_index : (i : Indexed) → index_input files index ≡ Ok i → radius_lines files index queries r wanted ≡ lines_over files queries r wanted i
  unfolding radius_lines
  by_index i e = rw e refl

  pub counts_by_index : (i : Indexed) → index_input files index ≡ Ok i → radius_counts files index queries r wanted ≡ counts_over files queries r wanted i
  unfolding radius_counts
  counts_by_index i e = rw e refl

  pub radius_is : output_of files (Radius index queries r wanted) ≡ output_by (radius_lines files index queries r wanted) (radius_counts files index queries r wanted)
  unfolding output_of
  radius_is = refl
