-- How far a scan by a radius has come.
use Rattle.std.specs.Prelude.{◌≡◌, ℕ, ◌+◌, ◌^◌, ◌≤◌, List, [], ◌∷◌, ◌++◌, length, None, refl, vec_len, vec_capacity}
use Rattle.std.proofs.Common.{◌∙◌, ap, subst, sym, arith}
use Rattle.book_model.specs.Order.{Pair}
use Rattle.book_model.specs.Rows.{Row, rows_in}
use Rattle.book_model.specs.Visit.{rows_of_cells}
use Rattle.cell_store.specs.State.{Store}
use Rattle.adc_tables.specs.Full.{Full}
use Rattle.query_engine.specs.Scanning.{Work}
use Rattle.query_engine.specs.Progress.{rows_of_cells-push}
use Rattle.radius_scan.specs.Found.{Scans, IsReach}
use Rattle.radius_scan.specs.declared.block.Reach.{Reach}
use Rattle.radius_scan.specs.declared.within.Within.{Within}
use Rattle.radius_scan.specs.Scanning.{scans_none, scans_more}

-- the sizes are the store's, the small tables are filled for the radius, there is room for n pairs more, and the meter is far from its end
pub record IsReady {S : Type 0} (widths : List ℕ) (s : Within S) (w : Work) (store : Store) (n : ℕ) : Type 0 where
  pub tables : s.tables.g ≡ store.g
  pub small : s.small.g ≡ store.g
  pub reach : IsReach widths s.tables s.small s.reach
  pub room : vec_len s.pairs + n ≤ vec_capacity s.pairs
  pub full : w.full + n ≤ 2 ^ 62 + 2 ^ 32

-- the pairs of those of the rows that lie within the radius came behind the pairs that were there; without a threshold no block was read
pub record Went {S : Type 0} (widths : List ℕ) (a b : Within S) (rows : List Row) (u v : Work) : Type 0 where
  pub tables : b.tables ≡ a.tables
  pub small : b.small ≡ a.small
  pub reach : b.reach ≡ a.reach
  pub scans : Scans widths a.tables a.reach.radius rows a.pairs.items b.pairs.items u.full v.full
  pub capacity : vec_capacity a.pairs ≤ vec_capacity b.pairs
  pub none : a.reach.most ≡ None → (v.blocks ≡ u.blocks) × (v.lanes ≡ u.lanes)
  pub others : (v.half_full ≡ u.half_full) × (v.halves ≡ u.halves)

pub ready_less : {S : Type 0} (widths : List ℕ) (s : Within S) (w : Work) (store : Store) (n m : ℕ) → IsReady widths s w store (n + m) → IsReady widths s w store n
ready_less widths s w store n m ready = record { tables = ready.tables; small = ready.small; reach = ready.reach; room = omega (arith, ready.room); full = omega (arith, ready.full) }

pub went_none : {S : Type 0} (widths : List ℕ) (s : Within S) (w : Work) → Went widths s s [] w w
went_none widths s w = record { tables = refl; small = refl; reach = refl; scans = scans_none widths s.tables s.reach.radius s.pairs.items w.full; capacity = omega arith; none = λ _. (refl, refl); others = (refl, refl) }

went_more : {S : Type 0} (widths : List ℕ) (a b c : Within S) (rows more : List Row) (u v w : Work) → Went widths a b rows u v → Went widths b c more v w → Went widths a c (rows ++ more) u w
went_more widths a b c rows more u v w one two =
    let by_tables = subst (λ (t : Full). Scans widths t b.reach.radius more b.pairs.items c.pairs.items v.full w.full) one.tables two.scans in
    let by_reach = subst (λ (r : Reach). Scans widths a.tables r.radius more b.pairs.items c.pairs.items v.full w.full) one.reach by_tables in
    record {
      tables = two.tables ∙ one.tables;
      small = two.small ∙ one.small;
      reach = two.reach ∙ one.reach;
      scans = scans_more widths a.tables a.reach.radius rows more a.pairs.items b.pairs.items c.pairs.items u.full v.full w.full one.scans by_reach;
      capacity = omega (arith, one.capacity, two.capacity);
      none = λ is.
          let first = one.none is in
          let second = two.none (ap (λ (r : Reach). r.most) one.reach ∙ is) in
          (second.0 ∙ first.0, second.1 ∙ first.1);
      others = (two.others.0 ∙ one.others.0, two.others.1 ∙ one.others.1);
    }

pub went_next : {S : Type 0} (widths : List ℕ) (a b c : Within S) (rows : List Row) (cells : List Pair) (cell : Pair) (u v w : Work)
    → Went widths a b (rows_of_cells rows cells) u v → Went widths b c (rows_in cell.1 rows) v w → Went widths a c (rows_of_cells rows (cells ++ cell ∷ [])) u w
went_next widths a b c rows cells cell u v w one two =
    subst (λ (those : List Row). Went widths a c those u w) (sym (rows_of_cells-push rows cells cell)) (went_more widths a b c (rows_of_cells rows cells) (rows_in cell.1 rows) u v w one two)
