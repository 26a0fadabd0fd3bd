-- Ranges of ids, cut to the ids that there can be.
use Rattle.std.proofs.Common.{◌≡◌, ℕ, ◌≤◌, Bool, false, cond, List, [], ◌∷◌, inl, inr, min, length, map, filter, refl, sym, ap, subst, ◌∙◌, arith}
use Rattle.std.specs.Prelude.{nat_le, ◌&&◌, ◌||◌}
use Rattle.std.specs.List.{AllByRecursion}
use Rattle.std.proofs.lemmas.Bool.{cases_Bool, leb-true, leb-false, le-leb, lt-leb}
use Rattle.book_model.specs.Book.{Book}
use Rattle.book_model.specs.Rows.{Row, in_ranges, passing}
use Rattle.book_model.specs.Visit.{visit, visited}
use Rattle.book_model.specs.Answer.{answer, full_count}
use Rattle.best_k.specs.Least.{Kept as Best}
use Rattle.cell_store.specs.State.{Store, Kept, live_rows, lives_at, rows_at}
use Rattle.cell_store.specs.Held.{IsRow}
use Rattle.query_engine.specs.Progress.{block_count}
use Rattle.query_engine.specs.Report.{query_of, Answers}
use Rattle.prune_scan.specs.declared.meters.Meters.{Meters}
use Rattle.query_engine.specs.declared.report.Report.{Report}

cut_end : (hi id : ℕ) → id ≤ 2147483647 → nat_le id (min hi 2147483647) ≡ nat_le id hi
cut_end hi id small = elim (cases_Bool (nat_le id hi)) [
  | inl below ↦ le-leb id (min hi 2147483647) (omega (arith, leb-true id hi below)) ∙ sym below
  | inr above ↦ lt-leb id (min hi 2147483647) (omega (arith, leb-false id hi above)) ∙ sym above
]

pub cut_range : (lo hi id : ℕ) → id ≤ 2147483647 → in_ranges ((lo, min hi 2147483647) ∷ []) id ≡ in_ranges ((lo, hi) ∷ []) id
cut_range lo hi id small = ap (λ b. (nat_le lo id && b) || false) (cut_end hi id small)

module _ (ranges others : List (ℕ × ℕ)) (alike : (id : ℕ) → id ≤ 2147483647 → in_ranges ranges id ≡ in_ranges others id) where
  -- the same rows pass
  pub same_passing : (rows : List Row) → AllByRecursion (λ (row : Row). row.id ≤ 2147483647) rows → passing ranges rows ≡ passing others rows
  same_passing [] small = refl
  same_passing (row ∷ rows) small =
      ap (λ b. cond b (row ∷ passing ranges rows) (passing ranges rows)) (alike row.id small.0)
      ∙ ap (λ (more : List Row). cond (in_ranges others row.id) (row ∷ more) more) (same_passing rows small.1)

  module _ (book : Book) (v : List ℕ) (k wanted : ℕ) (rows : List Row) (small : AllByRecursion (λ (row : Row). row.id ≤ 2147483647) rows) where
    pub same_visit : visit book (query_of v k wanted ranges) rows ≡ visit book (query_of v k wanted others) rows
    unfolding visit
    same_visit = rw (same_passing rows small) refl

    pub same_visited : visited book (query_of v k wanted ranges) rows ≡ visited book (query_of v k wanted others) rows
    unfolding visited
    same_visited = rw (same_passing rows small, same_visit) refl

    same_answer : answer book (query_of v k wanted ranges) rows ≡ answer book (query_of v k wanted others) rows
    unfolding answer
    same_answer = rw same_visited refl

    same_full : full_count book (query_of v k wanted ranges) rows ≡ full_count book (query_of v k wanted others) rows
    unfolding full_count
    same_full = rw same_visited refl

  -- and so are the answers over a store
  pub same_answers : (book : Book) (v : List ℕ) (k wanted : ℕ) (store : Store) (small : AllByRecursion (λ (row : Row). row.id ≤ 2147483647) (live_rows store)) (best : Best) (report : Report) (old new : Meters)
      → Answers book (query_of v k wanted ranges) store best report old new → Answers book (query_of v k wanted others) store best report old new
  same_answers book v k wanted store small best report old new is =
      let visits = same_visit book v k wanted (live_rows store) small in
      let blocks = ap (block_count store.kept) visits in
      record {
        answers = is.answers ∙ same_answer book v k wanted (live_rows store) small;
        reports = record {
          cells = is.reports.cells ∙ ap length visits;
          live = is.reports.live ∙ ap length (same_visited book v k wanted (live_rows store) small);
          full = is.reports.full ∙ same_full book v k wanted (live_rows store) small;
        };
        full = is.full;
        pairs = is.pairs;
        blocks = omega (arith, is.blocks, blocks);
        lanes = omega (arith, is.lanes, blocks);
        reads_never_fall = is.reads_never_fall;
        others = is.others;
        few_cells = is.few_cells;
        few_full = is.few_full;
        few_blocks = omega (arith, is.few_blocks, blocks);
      }

-- the ids of a store's live rows are within the range of ids
pub small_ids : (widths : List ℕ) (g cells stamp : ℕ) (kept : List Kept) → AllByRecursion (λ (k : Kept). IsRow widths g cells k.row) kept → AllByRecursion (λ (row : Row). row.id ≤ 2147483647) (rows_at stamp kept)
small_ids widths g cells stamp [] all = tt
small_ids widths g cells stamp (k ∷ kept) all =
    let rest = small_ids widths g cells stamp kept all.1 in
    let Small : Bool → Type 0 = λ b. AllByRecursion (λ (row : Row). row.id ≤ 2147483647) (map (λ (x : Kept). x.row) (cond b (k ∷ filter (lives_at stamp) kept) (filter (lives_at stamp) kept))) in
    elim (cases_Bool (lives_at stamp k)) [
      | inl lives ↦ subst Small (sym lives) (all.0.id, rest)
      | inr dead ↦ subst Small (sym dead) rest
    ]
