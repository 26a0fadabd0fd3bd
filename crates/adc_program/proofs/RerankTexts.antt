-- The ids of a reranking, and what it is to write, told from what was read.
use Rattle.std.proofs.Common.{◌≡◌, ◌∙◌, ℕ, ◌-◌, ◌<◌, ◌≤◌, ◌^◌, cond, List, [], ◌∷◌, ◌++◌, length, map, take, Some, Ok, Err, zero, suc, inl, inr, refl, sym, ap, ap₂, subst, arith}
use Rattle.std.specs.Prelude.{pos, negsuc, replicate, filter, nat_lt, slice_index_or}
use Rattle.std.specs.List.{AllByRecursion, filter_map}
use Rattle.std.proofs.lemmas.Bool.{cases_Bool, lt-ltb, ltb-true}
use Rattle.std.proofs.lemmas.List.{length-take, append-nil}
use Rattle.std.proofs.lemmas.List.Elements.{filter_map-append}
use Rattle.adc_ports.specs.Files.{Files}
use Rattle.book_model.specs.Distance.{dist}
use Rattle.book_model.specs.Order.{Pair, sorted, pair_cmp}
use Rattle.book_model.specs.Sums.{numbers_below}
use Rattle.book_model.proofs.AllLemmas.{all_take, all_map}
use Rattle.book_model.proofs.Sorting.{all-sorted}
use Rattle.flat_truth.specs.Flat.{padded, rerank}
use Rattle.flat_truth.specs.Pairs.{key_of}
use Rattle.flat_truth.specs.declared.TruePair.{TruePair}
use Rattle.id_filter.specs.Allowed.{id_of, ids_in}
use Rattle.index_file.specs.Reading.{Indexed}
use Rattle.query_engine.specs.State.{State}
use Rattle.play_script.specs.declared.Role.TheVariants as role
use Rattle.play_script.specs.Texts.{rerank_done}
use Rattle.adc_inputs.specs.declared.rows.Rows.{Rows}
use Rattle.adc_inputs.specs.declared.stop.InputError.{InputError}
use Rattle.adc_inputs.specs.Names.{Name}
use Rattle.adc_inputs.specs.Words.{Rerank}
use Rattle.adc_inputs.specs.Inputs.{rows_input}
use Rattle.adc_inputs.specs.Indexes.{index_input}
use Rattle.adc_program.specs.declared.player.Inputs.{Inputs}
use Rattle.adc_program.specs.declared.searcher.Asking.{Asking}
use Rattle.adc_program.specs.Asked.{indexed, questions_of}
use Rattle.adc_program.specs.Asking.{rows_in}
use Rattle.adc_program.specs.Nearest.{row_numbers, number_of}
use Rattle.adc_program.specs.Opened.{AreChecked}
use Rattle.adc_program.specs.Reranks.{reranked_below, reranked, base_and_queries, reranked_by, rerank_output}
use Rattle.adc_program.specs.Searches.{Questions, lines_below, counts_below}
use Rattle.adc_program.specs.Verdict.{output_of}
use Rattle.adc_program.proofs.Growing.{Ignores, held_stays}
use Rattle.adc_program.proofs.NearestRows.{numbers_are}
use Rattle.adc_program.proofs.SearchTexts.{asked_stays}

-- the ids of a row of ids
ids_of_signed : (ids : List ℕ) → filter_map id_of (map pos ids) ≡ ids
ids_of_signed [] = refl
ids_of_signed (id ∷ ids) = ap (λ (l : List ℕ). id ∷ l) (ids_of_signed ids)

ids_of_none : (n : ℕ) → filter_map id_of (replicate n (negsuc 0)) ≡ []
ids_of_none zero = refl
ids_of_none (suc n) = ids_of_none n

pub ids_in-padded : (k : ℕ) (ids : List ℕ) → ids_in (padded k ids) ≡ ids
ids_in-padded k ids = filter_map-append id_of (map pos ids) (replicate (k - length ids) (negsuc 0)) ∙ ap₂ (λ (l m : List ℕ). l ++ m) (ids_of_signed ids) (ids_of_none (k - length ids)) ∙ append-nil ids

-- the ids that number one of so many rows
pub below_kept : (n : ℕ) (ids : List ℕ) → AllByRecursion (λ id. id < n) (filter (λ id. nat_lt id n) ids)
below_kept n [] = tt
below_kept n (id ∷ ids) =
    let rest : List ℕ = filter (λ id. nat_lt id n) ids in
    elim (cases_Bool (nat_lt id n)) [
      | inl kept ↦ subst (AllByRecursion (λ id. id < n)) (sym (ap (λ b. cond b (id ∷ rest) rest) kept)) (ltb-true id n kept, below_kept n ids)
      | inr left ↦ subst (AllByRecursion (λ id. id < n)) (sym (ap (λ b. cond b (id ∷ rest) rest) left)) (below_kept n ids)
    ]

same_kept : (n : ℕ) (ids : List ℕ) → AllByRecursion (λ id. id < n) ids → filter (λ id. nat_lt id n) ids ≡ ids
same_kept n [] all = refl
same_kept n (id ∷ ids) all =
    let rest : List ℕ = filter (λ id. nat_lt id n) ids in
    ap (λ b. cond b (id ∷ rest) rest) (lt-ltb id n all.0) ∙ ap (λ (l : List ℕ). id ∷ l) (same_kept n ids all.1)

module _ (base : List (List ℕ)) (query ids : List ℕ) (k : ℕ) where
  -- it makes no difference whether the others were left out before
  pub rerank-filter : rerank base query (filter (λ id. nat_lt id (length base)) ids) k ≡ rerank base query ids k
  unfolding rerank
  rerank-filter =
      ap (λ (l : List ℕ). take k (sorted pair_cmp (map (λ id. (dist 0 query (slice_index_or base id []), id)) l)))
      (same_kept (length base) (filter (λ id. nat_lt id (length base)) ids) (below_kept (length base) ids))

  rerank_few : length (rerank base query ids k) ≤ k
  unfolding rerank
  rerank_few = omega (arith, length-take k (sorted pair_cmp (map (λ id. (dist 0 query (slice_index_or base id []), id)) (filter (λ id. nat_lt id (length base)) ids))))

  rerank_small : AllByRecursion (λ (pair : Pair). pair.1 < length base) (rerank base query ids k)
  unfolding rerank
  rerank_small =
      let Small : Pair → Type 0 = λ pair. pair.1 < length base in
      let pairs : List Pair = map (λ id. (dist 0 query (slice_index_or base id []), id)) (filter (λ id. nat_lt id (length base)) ids) in
      all_take Small k (sorted pair_cmp pairs) (all-sorted Small pair_cmp pairs
      (all_map Small (λ (id : ℕ). (dist 0 query (slice_index_or base id []), id)) (filter (λ id. nat_lt id (length base)) ids) (below_kept (length base) ids)))

small_more : (n most : ℕ) (pairs : List Pair) → n ≤ most → AllByRecursion (λ (pair : Pair). pair.1 < n) pairs → AllByRecursion (λ (pair : Pair). pair.1 < most) pairs
small_more n most [] le all = tt
small_more n most (pair ∷ pairs) le all = (omega (arith, all.0), small_more n most pairs le all.1)

-- the numbers of the nearest of them, place by place
pub ranked_is : (base : List (List ℕ)) (query ids : List ℕ) (k : ℕ) (pairs : List TruePair) → map key_of pairs ≡ rerank base query ids k → length base ≤ 4194304
    → map (number_of (row_numbers pairs)) (numbers_below k) ≡ padded k (map (λ (pair : Pair). pair.1) (rerank base query ids k))
ranked_is base query ids k pairs e le =
    numbers_are k pairs (rerank base query ids k) e (rerank_few base query ids k) (small_more (length base) (2 ^ 31) (rerank base query ids k) (omega (arith, le)) (rerank_small base query ids k))

pub rerank_is : (files : Files) (index base queries : Name) (found k wanted : ℕ) (name : Name) → output_of files (Rerank index base queries found k wanted name) ≡ rerank_output files index base queries found k wanted name
unfolding output_of
rerank_is files index base queries found k wanted name = refl

module _ (files : Files) (base queries : Name) (d : ℕ) where
  pub base_at : (error : InputError) → rows_input files role.Base base d ≡ Err error → base_and_queries files base queries d ≡ Err error
  unfolding base_and_queries
  base_at error e = rw e refl

  pub queries_at : (rows : List (List ℕ)) (error : InputError) → rows_input files role.Base base d ≡ Ok rows → rows_input files role.Queries queries d ≡ Err error → base_and_queries files base queries d ≡ Err error
  unfolding base_and_queries
  queries_at rows error e e2 = rw e (rw e2 refl)

  pub both_are : (rows asked : List (List ℕ)) → rows_input files role.Base base d ≡ Ok rows → rows_input files role.Queries queries d ≡ Ok asked → base_and_queries files base queries d ≡ Ok (rows, asked)
  unfolding base_and_queries
  both_are rows asked e e2 = rw e (rw e2 refl)

module _ (files : Files) (base queries : Name) (found k wanted : ℕ) (name : Name) where
  pub index_at : (index : Name) (error : InputError) → index_input files index ≡ Err error → rerank_output files index base queries found k wanted name ≡ Err error
  unfolding rerank_output
  index_at index error e = rw e refl

  pub reranked_by_index : (index : Name) (i : Indexed) → index_input files index ≡ Ok i → rerank_output files index base queries found k wanted name ≡ reranked_by files base queries found k wanted name i
  unfolding rerank_output
  reranked_by_index index i e = rw e refl

  pub inputs_at : (i : Indexed) (error : InputError) → base_and_queries files base queries i.book.d ≡ Err error → reranked_by files base queries found k wanted name i ≡ Err error
  unfolding reranked_by
  inputs_at i error e = rw e refl

  reranked_of : (i : Indexed) (rows asked : List (List ℕ)) → base_and_queries files base queries i.book.d ≡ Ok (rows, asked)
      → reranked_by files base queries found k wanted name i ≡ Ok (reranked name i (record { queries = asked; k = found; wanted = wanted; ranges = (0, 2147483647) ∷ [] }) rows k (length asked))
  unfolding reranked_by
  reranked_of i rows asked e = rw e refl

-- the parts of what is to be written
pub reranked_parts : (name : Name) (index : Indexed) (questions : Questions) (base : List (List ℕ)) (k n : ℕ)
    → reranked name index questions base k n ≡ record { lines = lines_below index questions n ++ rerank_done n ∷ []; file = Some (record { role = role.Out; name = name; bytes = reranked_below index questions base k n }); queries = counts_below index questions n }
unfolding reranked
reranked_parts name index questions base k n = refl

-- what is asked, and the base, do not depend on the file that is written
pub reranked_stays : {A : Type 0} (asking : Asking) (base : Rows) (ranges : List (ℕ × ℕ)) (f : Questions → List (List ℕ) → A) → (base.name.now ≡ asking.out.now → ⊥)
    → Ignores asking.out.now (λ files. f (questions_of files asking ranges) (rows_in files base))
reranked_stays asking base ranges f apart = λ files files1 stay.
    ap₂ f (asked_stays asking ranges (λ (q : Questions). q) files files1 stay) (held_stays files files1 base.role base.name.now asking.out.now stay apart base.checked.d)

reranked_as : (name name1 : Name) (index index1 : Indexed) (questions questions1 : Questions) (base base1 : List (List ℕ)) (k k1 n n1 : ℕ) → name1 ≡ name → index1 ≡ index → questions1 ≡ questions → base1 ≡ base
    → k1 ≡ k → n1 ≡ n → reranked name index questions base k n ≡ reranked name1 index1 questions1 base1 k1 n1
reranked_as name name1 index index1 questions questions1 base base1 k k1 n n1 e1 e2 e3 e4 e5 e6 = sym (rw (e1, e2, e3, e4, e5, e6) refl)

-- what a reranking is to write, by what was checked and is asked
pub reranked_out : (files : Files) (base queries : Name) (found k wanted : ℕ) (name : Name) (index : Indexed) (inputs : Inputs) (asking : Asking) (engine : State) (rows : Rows) (k1 : ℕ) (ranges : List (ℕ × ℕ))
    → AreChecked files (base_and_queries files base queries index.book.d) inputs.base inputs.queries → asking.queries ≡ inputs.queries → asking.k ≡ found → asking.wanted ≡ wanted → asking.out.now ≡ name
    → indexed engine ≡ index → ranges ≡ (0, 2147483647) ∷ [] → rows ≡ inputs.base → k1 ≡ k
    → reranked_by files base queries found k wanted name index ≡ Ok (reranked asking.out.now (indexed engine) (questions_of files asking ranges) (rows_in files rows) k1 asking.queries.checked.rows)
reranked_out files base queries found k wanted name index inputs asking engine rows k1 ranges are e1 e2 e3 e4 e5 e6 e7 e8 =
    let held : List (List ℕ) = rows_in files inputs.queries in
    let asked : questions_of files asking ranges ≡ record { queries = held; k = found; wanted = wanted; ranges = (0, 2147483647) ∷ [] } = rw (e1, e2, e3, e6) refl in
    let count : asking.queries.checked.rows ≡ length held = ap (λ (r : Rows). r.checked.rows) e1 ∙ are.queries_are.rows in
    reranked_of files base queries found k wanted name index (rows_in files inputs.base) held are.rows
    ∙ ap Ok (reranked_as name asking.out.now index (indexed engine) _ (questions_of files asking ranges) (rows_in files inputs.base) (rows_in files rows) k k1 (length held) asking.queries.checked.rows e4 e5 asked (ap (rows_in files) e7) e8 count)
