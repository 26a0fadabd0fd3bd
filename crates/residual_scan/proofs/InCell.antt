-- The rows and the codes of a cell, and what its scan does.
use Rattle.std.proofs.Common.{◌≡◌, ℕ, ◌+◌, ◌<◌, ◌≤◌, Bool, true, false, cond, List, [], ◌∷◌, ◌++◌, length, filter, get_or, refl, sym, ap, subst, ◌∙◌, arith}
use Rattle.std.specs.List.{AllByRecursion}
use Rattle.std.proofs.lemmas.List.{append-nil}
use Rattle.book_model.specs.Order.{Pair}
use Rattle.book_model.specs.Rows.{Row, in_ranges}
use Rattle.book_model.specs.Bound.{Tables}
use Rattle.book_model.specs.Laws.{Picks}
use Rattle.book_model.proofs.AllLemmas.{all_at, all_filter, all_map, all_weaken}
use Rattle.shape_core.specs.Word.{IsCode, AreCodeWords, code_of_words}
use Rattle.shape_core.proofs.Codes.{IsCode-code_of_words}
use Rattle.cell_store.specs.State.{Kept as KeptRow, lives_at, rows_at, passing_at}
use Rattle.code_blocks.specs.Codes.{IsBlock}
use Rattle.prune_scan.specs.Blocks.{AreCodes}
use Rattle.adc_tables.specs.Full.{HasSizes}
use Rattle.best_k.specs.Least.{Kept, least}
use Rattle.residual_scan.specs.Near.{Scans, pairs_in, is_near, near_count}
use Rattle.residual_scan.specs.Cutting.{IsCut, IsFarCell, Goes}
use Rattle.residual_scan.specs.declared.cutting.Cut.{Cut}
use Rattle.residual_scan.proofs.Going.{far_cell}

module _ (widths : List ℕ) (g : ℕ) (ts : Tables) (sizes : HasSizes widths (record { g = g; tables = ts })) where
  pub picks_of_sizes : (code : List ℕ) → IsCode widths g code → Picks ts code
  picks_of_sizes code is j lt = omega (arith, is.each j (omega (arith, is.count, sizes.count)), sizes.each j lt)

  -- the rows that are kept
  pub passing_pick : (ranges : List (ℕ × ℕ)) (stamp : ℕ) (kept : List KeptRow) → AllByRecursion (λ (k : KeptRow). IsCode widths g k.row.code) kept → AllByRecursion (λ (row : Row). Picks ts row.code) (passing_at ranges stamp kept)
  passing_pick ranges stamp kept rows =
      let P : Row → Type 0 = λ row. IsCode widths g row.code in
      let Q : KeptRow → Type 0 = λ k. P k.row in
      all_weaken (λ (row : Row). Picks ts row.code) P (passing_at ranges stamp kept) (λ row is. picks_of_sizes row.code is)
      (all_filter P (λ (row : Row). in_ranges ranges row.id) (rows_at stamp kept) (all_map P (λ (k : KeptRow). k.row) (filter (lives_at stamp) kept) (all_filter Q (lives_at stamp) kept rows)))

  -- the codes of a block
  pub lane_is_code : (block : List (List ℕ)) → IsBlock widths g block → (i : ℕ) → i < 32 → AreCodeWords widths g (get_or block i [])
  lane_is_code block is i lt = all_at (AreCodeWords widths g) block i [] is.words (omega (arith, is.size))

  pub lanes_pick : (block : List (List ℕ)) → IsBlock widths g block → (i : ℕ) → i < 32 → Picks ts (code_of_words widths (get_or block i []))
  lanes_pick block is i lt = picks_of_sizes (code_of_words widths (get_or block i [])) (subst (λ n. IsCode widths n (code_of_words widths (get_or block i []))) (lane_is_code block is i lt).count (IsCode-code_of_words widths (get_or block i [])))

  pub block_codes : (block : List (List ℕ)) → IsBlock widths g block → AreCodes g block
  block_codes block is = record { each = λ i lt. (lane_is_code block is i lt).count }

-- the scan of a cell that was cut
pub scans_of : (ts : Tables) (cut : Cut) (rows : List Row) (best best' : Kept) (full full' : ℕ) → ((seen : List Pair) → best.pairs ≡ least best.k seen → IsCut ts best.k seen cut) → Goes ts cut rows best best' full full'
    → best'.k ≡ best.k → best'.room ≡ best.room → Scans ts rows best best' full full'
scans_of ts cut rows best best' full full' cuts goes k room =
    let ends : (seen : List Pair) → best.pairs ≡ least best.k seen → best.pairs ≡ least best.k (seen ++ []) = λ seen held. held ∙ ap (least best.k) (sym (append-nil seen)) in
    record {
      least_of_all = λ seen held. (goes seen [] (cuts seen held) (ends seen held)).0 ∙ ap (λ ps. least best.k (ps ++ pairs_in ts rows)) (append-nil seen);
      counts = λ seen held. (goes seen [] (cuts seen held) (ends seen held)).1 ∙ ap (λ ps. full + near_count ts best.k seen ps rows) (append-nil seen);
      sizes = (k, room);
    }

-- and of one that lies wholly too far
pub scans_far : (ts : Tables) (rows : List Row) (best : Kept) (full : ℕ) → 1 ≤ best.k → ((seen : List Pair) → best.pairs ≡ least best.k seen → IsFarCell ts best.k seen) → AllByRecursion (λ (row : Row). Picks ts row.code) rows
    → Scans ts rows best best full full
scans_far ts rows best full some far picks = record {
  least_of_all = λ seen held.
      let is = far seen held in
      held ∙ ap (least best.k) (sym (append-nil seen)) ∙ sym (far_cell ts best.k seen [] rows some is.late is.above picks).1 ∙ ap (λ ps. least best.k (ps ++ pairs_in ts rows)) (append-nil seen);
  counts = λ seen held.
      let is = far seen held in
      omega (arith, (far_cell ts best.k seen [] rows some is.late is.above picks).0, ap (λ ps. near_count ts best.k seen ps rows) (append-nil seen));
  sizes = (refl, refl);
}

-- a scan of no rows
pub scans_none : (ts : Tables) (rows : List Row) (best : Kept) (full : ℕ) → length rows ≡ 0 → Scans ts rows best best full full
scans_none ts [] best full none = record {
  least_of_all = λ seen held. held ∙ ap (least best.k) (sym (append-nil seen));
  counts = λ seen held. omega arith;
  sizes = (refl, refl);
}
scans_none ts (row ∷ rows) best full none = absurd (omega (arith, none))

-- no more rows are full than are scanned
full_one : (b : Bool) → cond b 1 0 ≤ 1
full_one true = omega arith
full_one false = omega arith

pub near_count-le : (ts : Tables) (k : ℕ) (before seen : List Pair) (rows : List Row) → near_count ts k before seen rows ≤ length rows
near_count-le ts k before seen [] = omega arith
near_count-le ts k before seen (row ∷ rows) = omega (arith, near_count-le ts k before (seen ++ pairs_in ts (row ∷ [])) rows, full_one (is_near ts k before seen row))
