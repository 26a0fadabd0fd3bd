-- Lanes that are left out, since their rows are not marked or their bounds are above the threshold.
use Rattle.std.proofs.Common.{◌≡◌, ℕ, zero, suc, ◌+◌, ◌-◌, ◌<◌, ◌≤◌, true, false, cond, List, [], ◌∷◌, length, get_or, refl, sym, ap, subst, ◌∙◌, inl, inr, arith, length-append}
use Rattle.std.proofs.lemmas.Bool.{cases_Bool, leb-false}
use lib.Bits.{bit_and}
use Rattle.book_model.specs.Answer.{pairs_of, is_full}
use Rattle.best_k.specs.Least.{Kept}
use Rattle.adc_tables.specs.Full.{Full}
use Rattle.adc_tables.specs.Small.{Small}
use Rattle.adc_tables.proofs.Codes.{fields_of_words}
use Rattle.cell_store.specs.declared.Slot.{Slot}
use Rattle.prune_scan.specs.declared.state.ScanState.{ScanState}
use Rattle.prune_scan.specs.Standing.{IsStanding, Adds, Counts}
use Rattle.prune_scan.specs.LaneMasks.{is_set}
use Rattle.prune_scan.specs.Blocks.{lane_row, marked_rows, AreCodes}
use Rattle.prune_scan.proofs.Standing.{when_pruning, far_is_not_full, far_stands}
use Rattle.prune_scan.proofs.Adding.{rows_counted, marked_set, marked_clear}
use Rattle.prune_scan.proofs.MaskLemmas.{other_clear}
use Rattle.prune_scan.proofs.InBlock.{Parts, with_rows, InBlock, passes_lane, scans_lane}

module _ (widths : List ℕ) (tables : Full) (slots : List Slot) (marks : ℕ) (codes : List (List ℕ)) (state : ScanState) (small : Small) (best : Kept) (full calls : ℕ)
    (sizes : AreCodes tables.g codes) (standing : IsStanding widths tables state small best) where
  -- a row whose bound is above the threshold
  module _ (i : ℕ) (now : Parts) (lt : i < 32) (inv : InBlock widths tables slots marks codes state small best full calls i now) (on : now.state.pruning ≡ true) (far : now.limit.most < get_or now.near.bounds i 0) where
    far_adds : (cell : ℕ) → Adds widths tables (lane_row widths cell slots codes i ∷ []) now.state (with_rows now (now.state.rows + 1)).state now.small now.small now.best now.best
    far_adds cell = record {
      stands = λ book query seen s.
          far_stands widths tables book query seen now.state now.small now.best s (lane_row widths cell slots codes i) (fields_of_words widths book query tables s.filled (get_or codes i []) (sizes.each i lt)) (when_pruning _ _ _ _ _ _ _ _ s on)
          (with_rows now (now.state.rows + 1)).state (get_or codes i []) now.limit.theta now.limit.most (get_or now.near.bounds i 0) refl refl refl (sizes.each i lt) refl (inv.limited.theta on (pairs_of book query seen) s.held) (inv.limited.most on) (inv.guarded.bounds on i lt) far;
      sizes = (refl, refl, refl);
      stays = λ _. (refl, on);
    }

    far_counts : (cell : ℕ) → Counts widths tables (lane_row widths cell slots codes i ∷ []) now.state now.small now.best now.full now.full
    far_counts cell book query seen s =
        let not_full : is_full book query now.best.k seen (lane_row widths cell slots codes i) ≡ false =
        far_is_not_full widths tables book query seen now.state now.small now.best s (lane_row widths cell slots codes i) (fields_of_words widths book query tables s.filled (get_or codes i []) (sizes.each i lt)) (when_pruning _ _ _ _ _ _ _ _ s on)
        (get_or codes i []) now.limit.theta now.limit.most (get_or now.near.bounds i 0) (sizes.each i lt) refl (inv.limited.theta on (pairs_of book query seen) s.held) (inv.limited.most on) (inv.guarded.bounds on i lt) far in
        omega (arith, ap {B = ℕ} (λ b. cond b 1 0) not_full)

    far_lane : is_set marks i ≡ true → InBlock widths tables slots marks codes state small best full calls (i + 1) (with_rows now (now.state.rows + 1))
    far_lane set =
        scans_lane widths tables slots marks codes state small best full calls i now (with_rows now (now.state.rows + 1)) inv set far_adds far_counts (omega arith)
        (record { theta = inv.limited.theta; most = inv.limited.most })
        (record { open_before = inv.guarded.open_before; bounds = inv.guarded.bounds; lanes = inv.guarded.lanes })
        (omega arith, omega arith) (λ _. refl) (λ _. refl)

  -- how many rows the first i lanes have, with those before the block
  seen_by : ℕ → ℕ
  seen_by i = state.rows + length (marked_rows widths 0 slots marks codes i)

  counted : (i : ℕ) (now : Parts) → InBlock widths tables slots marks codes state small best full calls i now → now.state.rows ≡ seen_by i
  unfolding seen_by
  counted i now inv = rows_counted widths tables _ _ _ _ _ _ _ standing (inv.adds 0)

  -- one more lane
  next_lane : (i : ℕ) (now : Parts) → i < 32 → InBlock widths tables slots marks codes state small best full calls i now → is_set (bit_and marks now.near.lanes) i ≡ false
      → InBlock widths tables slots marks codes state small best full calls (i + 1) (with_rows now (seen_by (i + 1)))
  unfolding seen_by
  next_lane i now lt inv none = elim (cases_Bool (is_set marks i)) [
    | inl set ↦
        let off_lane : is_set now.near.lanes i ≡ false = other_clear marks now.near.lanes i none set in
        let on : now.state.pruning ≡ true = elim (cases_Bool now.state.pruning) [
          | inl on ↦ on
          | inr off ↦ let broken : true ≡ false = sym (inv.guarded.open_before off i lt) ∙ off_lane in cc
        ] in
        let far : now.limit.most < get_or now.near.bounds i 0 = leb-false (get_or now.near.bounds i 0) now.limit.most (sym (inv.guarded.lanes on i lt) ∙ off_lane) in
        let rows : now.state.rows + 1 ≡ seen_by (i + 1) =
        omega (arith, counted i now inv, ap length (marked_set widths 0 slots marks codes i set), length-append (marked_rows widths 0 slots marks codes i) (lane_row widths 0 slots codes i ∷ [])) in
        subst (λ (n : ℕ). InBlock widths tables slots marks codes state small best full calls (i + 1) (with_rows now n)) rows (far_lane i now lt inv on far set)
    | inr clear ↦
        let rows : now.state.rows ≡ seen_by (i + 1) = omega (arith, counted i now inv, ap length (marked_clear widths 0 slots marks codes i clear)) in
        subst (λ (n : ℕ). InBlock widths tables slots marks codes state small best full calls (i + 1) (with_rows now n)) rows (passes_lane widths tables slots marks codes state small best full calls i now inv clear)
  ]

  skips_some : (n at : ℕ) (now : Parts) → at + n ≤ 32 → InBlock widths tables slots marks codes state small best full calls at now
      → ((k : ℕ) → at ≤ k → k < at + n → is_set (bit_and marks now.near.lanes) k ≡ false)
      → InBlock widths tables slots marks codes state small best full calls (at + n) (with_rows now (seen_by (at + n)))
  skips_some zero at now le inv none =
      let same : at ≡ at + 0 = omega arith in
      subst (λ (i : ℕ). InBlock widths tables slots marks codes state small best full calls i (with_rows now (seen_by i))) same
      (subst (λ (n : ℕ). InBlock widths tables slots marks codes state small best full calls at (with_rows now n)) (counted at now inv) inv)
  skips_some (suc n) at now le inv none =
      let before = skips_some n at now (omega arith) inv (λ k from lt. none k from (omega arith)) in
      let same : (at + n) + 1 ≡ at + suc n = omega arith in
      subst (λ (i : ℕ). InBlock widths tables slots marks codes state small best full calls i (with_rows now (seen_by i))) same
      (next_lane (at + n) (with_rows now (seen_by (at + n))) (omega arith) before (none (at + n) (omega arith) (omega arith)))

  -- from a lane to a later one, where none between is both marked and near
  pub skips : (at i : ℕ) (now : Parts) (rows : ℕ) → at ≤ i → i ≤ 32 → InBlock widths tables slots marks codes state small best full calls at now
      → ((k : ℕ) → at ≤ k → k < i → is_set (bit_and marks now.near.lanes) k ≡ false)
      → rows ≡ state.rows + length (marked_rows widths 0 slots marks codes i)
      → InBlock widths tables slots marks codes state small best full calls i (with_rows now rows)
  unfolding seen_by
  skips at i now rows from le inv none is =
      let same : at + (i - at) ≡ i = omega arith in
      subst (λ (n : ℕ). InBlock widths tables slots marks codes state small best full calls i (with_rows now n)) (sym is)
      (subst (λ (j : ℕ). InBlock widths tables slots marks codes state small best full calls j (with_rows now (seen_by j))) same
      (skips_some (i - at) at now (omega arith) inv (λ k after lt. none k after (omega arith))))
