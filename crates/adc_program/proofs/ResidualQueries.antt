-- The queries of an engine of residual codes: ranges with the same ids, their lines, and their work.
use Rattle.std.proofs.Common.{◌≡◌, ◌∙◌, ℕ, ◌+◌, ◌*◌, ◌≤◌, List, [], ◌∷◌, length, map, refl, ap, arith}
use Rattle.std.specs.List.{AllByRecursion}
use Rattle.book_model.specs.Book.{Book}
use Rattle.book_model.specs.Rows.{Row, in_ranges}
use Rattle.book_model.specs.Visit.{Query}
use Rattle.best_k.specs.Least.{Kept as Best}
use Rattle.cell_store.specs.State.{Store, live_rows}
use Rattle.play_script.specs.Texts.{query_done}
use Rattle.play_script.specs.Play.{Asking, found_by, hits}
use Rattle.query_engine.specs.Progress.{block_count}
use Rattle.query_engine.specs.Report.{query_of}
use Rattle.residual_scan.specs.Answer.{residual_answer, residual_full_count}
use Rattle.residual_scan.specs.Misses.{keys_of, computed, misses}
use Rattle.residual_scan.specs.Report.{Answers}
use Rattle.prune_scan.specs.declared.meters.Meters.{Meters}
use Rattle.query_engine.specs.declared.report.Report.{Report}
use Rattle.adc_program.specs.Played.{Stand, HaveAsked}
use Rattle.adc_program.specs.Residuals.{by_residuals, metered_of_residual, ResidualCounts, residual_count, ResidualWorks}
use Rattle.adc_program.proofs.Asking.{told_sum}
use Rattle.adc_program.proofs.RangeLemmas.{same_passing, same_visit, same_visited}

-- ranges with the same ids
module _ (ranges others : List (ℕ × ℕ)) (alike : (id : ℕ) → id ≤ 2147483647 → in_ranges ranges id ≡ in_ranges others id) (book : Book) (v : List ℕ) (k wanted : ℕ) where
  module _ (rows : List Row) (small : AllByRecursion (λ (row : Row). row.id ≤ 2147483647) rows) where
    same_answer : residual_answer book (query_of v k wanted ranges) rows ≡ residual_answer book (query_of v k wanted others) rows
    unfolding residual_answer
    same_answer = rw (same_visited ranges others alike book v k wanted rows small) refl

    same_full : residual_full_count book (query_of v k wanted ranges) rows ≡ residual_full_count book (query_of v k wanted others) rows
    unfolding residual_full_count
    same_full = rw (same_passing ranges others alike rows small, same_visit ranges others alike book v k wanted rows small) refl

    same_keys : keys_of book (query_of v k wanted ranges) rows ≡ keys_of book (query_of v k wanted others) rows
    unfolding keys_of
    same_keys = rw (same_passing ranges others alike rows small, same_visit ranges others alike book v k wanted rows small) refl

  pub same_residual : (store : Store) (small : AllByRecursion (λ (row : Row). row.id ≤ 2147483647) (live_rows store)) (cache : ℕ) (best : Best) (report : Report) (old new : Meters)
      → Answers book (query_of v k wanted ranges) store cache best report old new → Answers book (query_of v k wanted others) store cache best report old new
  same_residual store small cache best report old new is =
      let visits = same_visit ranges others alike book v k wanted (live_rows store) small in
      let blocks = ap (block_count store.kept) visits in
      let halves : computed cache book (query_of v k wanted ranges) (live_rows store) ≡ computed cache book (query_of v k wanted others) (live_rows store) = ap (misses cache []) (same_keys (live_rows store) small) in
      record {
        answers = is.answers ∙ same_answer (live_rows store) small;
        reports = record {
          cells = is.reports.cells ∙ ap length visits;
          live = is.reports.live ∙ ap length (same_visited ranges others alike book v k wanted (live_rows store) small);
          full = is.reports.full ∙ same_full (live_rows store) small;
        };
        full = is.full;
        halves = is.halves ∙ ap (λ n. old.halves + n) halves;
        pairs = is.pairs;
        blocks = omega (arith, is.blocks, blocks);
        lanes = omega (arith, is.lanes, blocks);
        reads_never_fall = is.reads_never_fall;
        others = is.others;
        few_cells = is.few_cells;
        few_full = is.few_full;
        few_halves = omega (arith, is.few_halves, halves);
        few_blocks = omega (arith, is.few_blocks, blocks);
      }

-- the lines of a query over a store
module _ (book : Book) (query : Query) (store : Store) (cache : ℕ) (best : Best) (report : Report) (old new : Meters) (is : Answers book query store cache best report old new) where
  pub residual_found : (number : ℕ) → query_done number report.cells report.live report.full ∷ hits best.pairs ≡ found_by by_residuals book number query (live_rows store)
  unfolding found_by
  residual_found number = rw (is.reports.cells, is.reports.live, is.reports.full, is.answers) refl

-- the work of a residual play
pub residual_work : (stand : Stand) (asked : List Asking) (a b : Meters) → HaveAsked by_residuals computed stand asked (metered_of_residual a) (metered_of_residual b)
    → ResidualWorks (map (residual_count stand.cache stand.book) asked) a b
residual_work stand asked a b h = record {
  full = omega (arith, h.full, told_sum (λ (c : ResidualCounts). c.told.full) (residual_count stand.cache stand.book) asked);
  halves = omega (arith, h.halves, told_sum (λ (c : ResidualCounts). c.halves) (residual_count stand.cache stand.book) asked);
  pairs = (h.pairs.0, omega (arith, h.pairs.1, told_sum (λ (c : ResidualCounts). 2 * c.told.cells + 1) (residual_count stand.cache stand.book) asked));
}

pub residual_work_none : (meters : Meters) → ResidualWorks [] meters meters
residual_work_none meters = record { full = omega arith; halves = omega arith; pairs = (omega arith, omega arith) }
