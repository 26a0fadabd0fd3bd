-- How far a pruned scan has come.
use Rattle.std.specs.Prelude.{◌≡◌, ℕ, ◌+◌, ◌^◌, ◌≤◌, List, [], ◌∷◌, ◌++◌, length, refl}
use Rattle.std.proofs.Common.{◌∙◌, subst, sym, arith, length-append}
use Rattle.book_model.specs.Order.{Pair}
use Rattle.book_model.specs.Rows.{Row, rows_in}
use Rattle.book_model.specs.Visit.{rows_of_cells}
use Rattle.cell_store.specs.State.{Store}
use Rattle.adc_tables.specs.Full.{Full}
use Rattle.prune_scan.specs.Standing.{IsStanding, Adds, Counts}
use Rattle.prune_scan.proofs.Adding.{adds_none, adds_more, counts_none, counts_more}
use Rattle.query_engine.specs.Progress.{rows_of_cells-push}
use Rattle.query_engine.specs.Scanning.{Work}
use Rattle.query_engine.specs.Parts.{Scratched}
use Rattle.query_engine.specs.declared.pruned.Pruned.{Pruned}
use Rattle.query_engine.specs.declared.scanning.Visit.{Visit}

-- codes have the store's words, the parts stand for some rows, there is room for n rows more, and the meter is far from its end
pub record IsReady {S : Type 0} (widths : List ℕ) (s : Pruned S) (w : Work) (store : Store) (n : ℕ) : Type 0 where
  pub tables : s.tables.g ≡ store.g
  pub small : s.small.g ≡ store.g
  pub standing : IsStanding widths s.tables s.state s.small s.best
  pub room : s.state.rows + n ≤ 4294967295
  pub full : w.full + n ≤ 2 ^ 62 + 2 ^ 32

-- the parts stand for these rows too, and the meter rose by as many as are full of them
pub record Went {S : Type 0} (widths : List ℕ) (a b : Pruned S) (rows : List Row) (u v : Work) : Type 0 where
  pub tables : b.tables ≡ a.tables
  pub adds : Adds widths a.tables rows a.state b.state a.small b.small a.best b.best
  pub counts : Counts widths a.tables rows a.state a.small a.best u.full v.full
  pub saw : b.state.rows ≡ a.state.rows + length rows
  pub others : (v.half_full ≡ u.half_full) × (v.halves ≡ u.halves)

pub ready_less : {S : Type 0} (widths : List ℕ) (s : Pruned S) (w : Work) (store : Store) (n m : ℕ) → IsReady widths s w store (n + m) → IsReady widths s w store n
ready_less widths s w store n m ready = record { tables = ready.tables; small = ready.small; standing = ready.standing; room = omega (arith, ready.room); full = omega (arith, ready.full) }

pub went_none : {S : Type 0} (widths : List ℕ) (s : Pruned S) (w : Work) → Went widths s s [] w w
went_none widths s w = record { tables = refl; adds = adds_none widths s.tables s.state s.small s.best; counts = counts_none widths s.tables s.state s.small s.best w.full; saw = omega arith; others = (refl, refl) }

went_more : {S : Type 0} (widths : List ℕ) (a b c : Pruned S) (rows more : List Row) (u v w : Work) → Went widths a b rows u v → Went widths b c more v w → Went widths a c (rows ++ more) u w
went_more widths a b c rows more u v w one two =
    let adds = subst (λ (t : Full). Adds widths t more b.state c.state b.small c.small b.best c.best) one.tables two.adds in
    let counts = subst (λ (t : Full). Counts widths t more b.state b.small b.best v.full w.full) one.tables two.counts in
    record {
      tables = two.tables ∙ one.tables;
      adds = adds_more widths a.tables rows more a.state b.state c.state a.small b.small c.small a.best b.best c.best one.adds adds;
      counts = counts_more widths a.tables rows more a.state b.state a.small b.small a.best b.best u.full v.full w.full one.adds one.counts counts;
      saw = omega (arith, one.saw, two.saw, length-append rows more);
      others = (two.others.0 ∙ one.others.0, two.others.1 ∙ one.others.1);
    }

pub went_next : {S : Type 0} (widths : List ℕ) (a b c : Pruned S) (rows : List Row) (cells : List Pair) (cell : Pair) (u v w : Work)
    → Went widths a b (rows_of_cells rows cells) u v → Went widths b c (rows_in cell.1 rows) v w → Went widths a c (rows_of_cells rows (cells ++ cell ∷ [])) u w
went_next widths a b c rows cells cell u v w one two =
    subst (λ (those : List Row). Went widths a c those u w) (sym (rows_of_cells-push rows cells cell)) (went_more widths a b c (rows_of_cells rows cells) (rows_in cell.1 rows) u v w one two)

-- what callers see of a visit by it
abbrev pub scratch_of : {S : Type 0} → Visit (Pruned S) → Scratched
scratch_of v = record { ranks = v.ranks; walk = v.walk; full = v.scanner.tables; small = v.scanner.small; best = v.scanner.best; state = v.scanner.state }
