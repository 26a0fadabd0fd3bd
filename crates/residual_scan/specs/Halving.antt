-- How far a scan by halves has come.
use Rattle.std.specs.Prelude.{◌≡◌, ℕ, ◌+◌, ◌*◌, ◌^◌, ◌≤◌, List, [], ◌∷◌, ◌++◌, length, refl}
use Rattle.std.specs.List.{AllByRecursion}
use Rattle.std.proofs.Common.{sym, ap, ap₂, subst, ◌∙◌, append_assoc, arith}
use Rattle.std.proofs.lemmas.List.{append-nil}
use Rattle.book_model.specs.Book.{Book}
use Rattle.book_model.specs.Order.{Pair}
use Rattle.book_model.specs.Rows.{Row, rows_in}
use Rattle.book_model.specs.Visit.{rows_of_cells}
use Rattle.cell_store.specs.State.{Store}
use Rattle.lane_kernels.specs.Sums.{AreTables}
use Rattle.adc_tables.specs.Small.{HaveSizes}
use Rattle.best_k.specs.Least.{least}
use Rattle.half_tables.specs.Half.{IsRoomOf}
use Rattle.half_tables.specs.Residual.{IsResidual, residual_tables}
use Rattle.query_engine.specs.Scanning.{Work}
use Rattle.query_engine.specs.Progress.{rows_of_cells-push}
use Rattle.residual_scan.specs.Answer.{residual_pairs, full_in_cells}
use Rattle.residual_scan.specs.Misses.{misses, kept_after, keys_here, keys_in}
use Rattle.residual_scan.specs.Near.{Scans, near_count}
use Rattle.residual_scan.specs.Caching.{AreFilled, AreSlots, Stands}
use Rattle.residual_scan.specs.CellAfterCell.{rows_in-cell, pairs_after, full_of_cell, full_in_cells-append, keys_in-push, misses-append, kept_after-append}
use Rattle.residual_scan.specs.declared.halved.Halved.{Halved}

-- the room is that of the book and the store, the slots have tables of the query, the best pairs are the k least of some, and the meters are
-- far from their ends for n rows more
pub record IsReady {S : Type 0} (widths : List ℕ) (book : Book) (v : List ℕ) (s : Halved S) (w : Work) (store : Store) (n : ℕ) : Type 0 where
  pub residual : IsResidual book
  pub shape : book.widths ≡ widths
  pub query : length v ≡ book.d
  pub g : store.g ≡ book.g
  pub cells : store.cells ≡ book.k0 * book.k1
  pub count : length s.tables.items ≡ s.cache + 2
  pub each : AllByRecursion (IsRoomOf book) s.tables.items
  pub parts : AreTables widths book.g s.parts.items
  pub sizes : HaveSizes widths s.parts.items
  pub places : length s.places.items ≡ book.k0 + book.k1
  pub slots : AreSlots s.cache s.slots
  pub filled : AreFilled book v s.slots s.places.items s.tables.items
  pub some : 1 ≤ s.best.k
  pub held : (seen : List Pair) × (s.best.pairs ≡ least s.best.k seen)
  pub half_full : w.half_full + n ≤ 2 ^ 62 + 2 ^ 32
  pub halves : w.halves + 2 * n ≤ 2 ^ 62 + 2 ^ 32

-- these rows of a cell were scanned by the cell's tables, and its keys were used if there is a row
pub record CellScans {S : Type 0} (book : Book) (v : List ℕ) (a b : Halved S) (cell : ℕ) (rows : List Row) (u w : Work) : Type 0 where
  pub cache : b.cache ≡ a.cache
  pub scans : Scans (residual_tables book v cell) rows a.best b.best u.half_full w.half_full
  pub stands : (kept : List ℕ) → Stands book v kept a.slots a.places.items a.tables.items
      → Stands book v (kept_after a.cache kept (keys_here book rows cell)) b.slots b.places.items b.tables.items × (w.halves ≡ u.halves + misses a.cache kept (keys_here book rows cell))
  pub others : w.full ≡ u.full

-- the rows of these cells were scanned, whatever rows came before: the k least pairs are those of all, each full row took one full distance,
-- and each miss filled a half
pub record Went {S : Type 0} (book : Book) (v : List ℕ) (a b : Halved S) (rows : List Row) (cells : List Pair) (u w : Work) : Type 0 where
  pub cache : b.cache ≡ a.cache
  pub sizes : (b.best.k ≡ a.best.k) × (b.best.room ≡ a.best.room)
  pub held : (seen : List Row) → a.best.pairs ≡ least a.best.k (residual_pairs book v seen) → b.best.pairs ≡ least a.best.k (residual_pairs book v (seen ++ rows_of_cells rows cells))
  pub full : (seen : List Row) → a.best.pairs ≡ least a.best.k (residual_pairs book v seen) → w.half_full ≡ u.half_full + full_in_cells book v a.best.k rows seen cells
  pub stands : (kept : List ℕ) → Stands book v kept a.slots a.places.items a.tables.items
      → Stands book v (kept_after a.cache kept (keys_in book rows cells)) b.slots b.places.items b.tables.items × (w.halves ≡ u.halves + misses a.cache kept (keys_in book rows cells))
  pub others : w.full ≡ u.full

pub ready_less : {S : Type 0} (widths : List ℕ) (book : Book) (v : List ℕ) (s : Halved S) (w : Work) (store : Store) (n m : ℕ) → IsReady widths book v s w store (n + m) → IsReady widths book v s w store n
ready_less widths book v s w store n m is = record {
  residual = is.residual;
  shape = is.shape;
  query = is.query;
  g = is.g;
  cells = is.cells;
  count = is.count;
  each = is.each;
  parts = is.parts;
  sizes = is.sizes;
  places = is.places;
  slots = is.slots;
  filled = is.filled;
  some = is.some;
  held = is.held;
  half_full = omega (arith, is.half_full);
  halves = omega (arith, is.halves);
}

pub went_none : {S : Type 0} (book : Book) (v : List ℕ) (s : Halved S) (rows : List Row) (w : Work) → Went book v s s rows [] w w
went_none book v s rows w = record {
  cache = refl;
  sizes = (refl, refl);
  held = λ seen held. held ∙ ap (λ (rs : List Row). least s.best.k (residual_pairs book v rs)) (sym (append-nil seen));
  full = λ seen held. omega arith;
  stands = λ kept stands. (stands, omega arith);
  others = refl;
}

pub went_next : {S : Type 0} (book : Book) (v : List ℕ) (a b c : Halved S) (rows : List Row) (cells : List Pair) (cell : Pair) (u x w : Work)
    → Went book v a b rows cells u x → CellScans book v b c cell.1 (rows_in cell.1 rows) x w → Went book v a c rows (cells ++ cell ∷ []) u w
went_next book v a b c rows cells cell u x w one two =
    let k = a.best.k in
    let ts = residual_tables book v cell.1 in
    let here : List Row = rows_in cell.1 rows in
    let of_cell = rows_in-cell cell.1 rows in
    let k_is = one.sizes.0 in
    let so_far : (seen : List Row) → List Row = λ seen. seen ++ rows_of_cells rows cells in
    let held_b : (seen : List Row) → a.best.pairs ≡ least k (residual_pairs book v seen) → b.best.pairs ≡ least b.best.k (residual_pairs book v (so_far seen)) =
    λ seen held. one.held seen held ∙ ap (λ (n : ℕ). least n (residual_pairs book v (so_far seen))) (sym k_is) in
    let joined : (seen : List Row) → so_far seen ++ here ≡ seen ++ rows_of_cells rows (cells ++ cell ∷ []) =
    λ seen. append_assoc seen (rows_of_cells rows cells) here ∙ ap (λ (rs : List Row). seen ++ rs) (sym (rows_of_cells-push rows cells cell)) in
    record {
      cache = two.cache ∙ one.cache;
      sizes = (two.scans.sizes.0 ∙ one.sizes.0, two.scans.sizes.1 ∙ one.sizes.1);
      held = λ seen held.
          two.scans.least_of_all (residual_pairs book v (so_far seen)) (held_b seen held)
          ∙ ap₂ least k_is (sym (pairs_after book v cell.1 (so_far seen) here of_cell) ∙ ap (residual_pairs book v) (joined seen));
      full = λ seen held.
          let more = two.scans.counts (residual_pairs book v (so_far seen)) (held_b seen held) in
          omega (
            arith,
            one.full seen held,
            more,
            ap (λ (n : ℕ). near_count ts n (residual_pairs book v (so_far seen)) (residual_pairs book v (so_far seen)) here) k_is,
            full_of_cell book v k cell.1 (so_far seen) (so_far seen) here of_cell,
            full_in_cells-append book v k rows seen cells (cell ∷ []),
          );
      stands = λ kept stands.
          let first = one.stands kept stands in
          let second = two.stands (kept_after a.cache kept (keys_in book rows cells)) first.0 in
          let keys = keys_in-push book rows cells cell in
          let after : kept_after b.cache (kept_after a.cache kept (keys_in book rows cells)) (keys_here book here cell.1) ≡ kept_after a.cache kept (keys_in book rows (cells ++ cell ∷ [])) =
          ap (λ (n : ℕ). kept_after n (kept_after a.cache kept (keys_in book rows cells)) (keys_here book here cell.1)) one.cache
          ∙ sym (ap (kept_after a.cache kept) keys ∙ kept_after-append a.cache kept (keys_in book rows cells) (keys_here book here cell.1)) in (
            subst (λ (ks : List ℕ). Stands book v ks c.slots c.places.items c.tables.items) after second.0,
            omega (
              arith,
              first.1,
              second.1,
              ap (λ (n : ℕ). misses n (kept_after a.cache kept (keys_in book rows cells)) (keys_here book here cell.1)) one.cache,
              ap (misses a.cache kept) keys,
              misses-append a.cache kept (keys_in book rows cells) (keys_here book here cell.1),
            ),
          );
      others = two.others ∙ one.others;
    }
