-- The scan of a block, some lanes on.
use Rattle.std.proofs.Common.{◌≡◌, ℕ, ◌+◌, ◌≤◌, true, false, List, [], ◌∷◌, sym, subst, inl, inr, arith}
use Rattle.std.proofs.lemmas.Bool.{cases_Bool}
use Rattle.book_model.specs.Rows.{Row}
use Rattle.best_k.specs.Least.{Kept}
use Rattle.adc_tables.specs.Full.{Full}
use Rattle.adc_tables.specs.Small.{Small}
use Rattle.cell_store.specs.declared.Slot.{Slot}
use Rattle.prune_scan.specs.declared.state.ScanState.{ScanState}
use Rattle.prune_scan.specs.declared.block.Limit.{Limit}
use Rattle.prune_scan.specs.declared.block.Near.{Near}
use Rattle.prune_scan.specs.Standing.{Adds, Counts}
use Rattle.prune_scan.specs.LaneMasks.{is_set}
use Rattle.prune_scan.specs.Blocks.{lane_row, marked_rows, IsLimit, IsNear}
use Rattle.prune_scan.proofs.Adding.{adds_none, counts_none, adds_more, counts_more, marked_none, marked_set, marked_clear}

-- what the scan changes
pub record Parts : Type 0 where
  pub state : ScanState
  pub small : Small
  pub best : Kept
  pub full : ℕ
  pub calls : ℕ
  pub limit : Limit
  pub near : Near

-- the parts with so many rows
abbrev pub with_rows : Parts → ℕ → Parts
with_rows now n = record now { state = record { rows = n; pruning = now.state.pruning; theta0 = now.state.theta0 } }

module _ (widths : List ℕ) (tables : Full) (slots : List Slot) (marks : ℕ) (codes : List (List ℕ)) (state : ScanState) (small : Small) (best : Kept) (full calls : ℕ) where
  -- the marked rows of the first i lanes are scanned
  pub record InBlock (i : ℕ) (now : Parts) : Type 0 where
    pub adds : (cell : ℕ) → Adds widths tables (marked_rows widths cell slots marks codes i) state now.state small now.small best now.best
    pub counts : (cell : ℕ) → Counts widths tables (marked_rows widths cell slots marks codes i) state small best full now.full
    pub risen : now.full ≤ full + i
    pub limited : IsLimit now.state.pruning now.small now.best now.limit
    pub guarded : IsNear widths codes now.state.pruning now.small now.limit.most now.near
    pub called : (calls ≤ now.calls) × (now.calls ≤ calls + 1)
    pub open_before : now.state.pruning ≡ false → now.calls ≡ calls

  pub starts : (now : ℕ) (limit : Limit) (near : Near) → IsLimit state.pruning small best limit → IsNear widths codes state.pruning small limit.most near → (calls ≤ now) × (now ≤ calls + 1) → (state.pruning ≡ false → now ≡ calls)
      → InBlock 0 (record { state = state; small = small; best = best; full = full; calls = now; limit = limit; near = near })
  starts now limit near limited guarded called open_before = record {
    adds = λ cell. subst (λ (rs : List Row). Adds widths tables rs state state small small best best) (sym (marked_none widths cell slots marks codes)) (adds_none widths tables state small best);
    counts = λ cell. subst (λ (rs : List Row). Counts widths tables rs state small best full full) (sym (marked_none widths cell slots marks codes)) (counts_none widths tables state small best full);
    risen = omega arith;
    limited = limited;
    guarded = guarded;
    called = called;
    open_before = open_before;
  }

  pub passes_lane : (i : ℕ) (now : Parts) → InBlock i now → is_set marks i ≡ false → InBlock (i + 1) now
  passes_lane i now inv clear = record {
    adds = λ cell. subst (λ (rs : List Row). Adds widths tables rs state now.state small now.small best now.best) (sym (marked_clear widths cell slots marks codes i clear)) (inv.adds cell);
    counts = λ cell. subst (λ (rs : List Row). Counts widths tables rs state small best full now.full) (sym (marked_clear widths cell slots marks codes i clear)) (inv.counts cell);
    risen = omega (arith, inv.risen);
    limited = inv.limited;
    guarded = inv.guarded;
    called = inv.called;
    open_before = inv.open_before;
  }

  pub scans_lane : (i : ℕ) (now next : Parts) → InBlock i now → is_set marks i ≡ true
      → ((cell : ℕ) → Adds widths tables (lane_row widths cell slots codes i ∷ []) now.state next.state now.small next.small now.best next.best)
      → ((cell : ℕ) → Counts widths tables (lane_row widths cell slots codes i ∷ []) now.state now.small now.best now.full next.full)
      → next.full ≤ now.full + 1 → IsLimit next.state.pruning next.small next.best next.limit → IsNear widths codes next.state.pruning next.small next.limit.most next.near → (now.calls ≤ next.calls) × (next.calls ≤ now.calls + 1)
      → (next.state.pruning ≡ false → next.calls ≡ now.calls) → (now.state.pruning ≡ true → next.calls ≡ now.calls) → InBlock (i + 1) next
  scans_lane i now next inv set adds counts risen limited guarded called still_open none = record {
    adds = λ cell.
        subst (λ (rs : List Row). Adds widths tables rs state next.state small next.small best next.best) (sym (marked_set widths cell slots marks codes i set))
        (adds_more widths tables _ _ state now.state next.state small now.small next.small best now.best next.best (inv.adds cell) (adds cell));
    counts = λ cell.
        subst (λ (rs : List Row). Counts widths tables rs state small best full next.full) (sym (marked_set widths cell slots marks codes i set))
        (counts_more widths tables _ _ state now.state small now.small best now.best full now.full next.full (inv.adds cell) (inv.counts cell) (counts cell));
    risen = omega (arith, inv.risen, risen);
    limited = limited;
    guarded = guarded;
    called = elim (cases_Bool now.state.pruning) [
      | inl on ↦ (omega (arith, none on, inv.called.0), omega (arith, none on, inv.called.1))
      | inr off ↦ (omega (arith, inv.open_before off, called.0), omega (arith, inv.open_before off, called.1))
    ];
    open_before = λ closed. elim (cases_Bool now.state.pruning) [
      | inl on ↦ let stays : next.state.pruning ≡ true = ((adds 0).stays on).1 in cc
      | inr off ↦ omega (arith, still_open closed, inv.open_before off)
    ];
  }
