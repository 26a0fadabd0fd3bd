-- The lanes of a group: which are taken, and which are left out.
use Rattle.std.proofs.Common.{◌≡◌, ℕ, zero, suc, ◌+◌, ◌-◌, ◌/◌, ◌<◌, ◌≤◌, true, false, List, [], ◌∷◌, ◌++◌, length, get_or, refl, sym, subst, ◌∙◌, inl, inr, arith, length-append}
use lib.Bits.{bit_and}
use Rattle.std.proofs.lemmas.Bool.{cases_Bool, leb-true, leb-false}
use Rattle.book_model.specs.Order.{Pair, kth_least}
use Rattle.book_model.specs.Rows.{Row}
use Rattle.book_model.specs.Bound.{Tables, picked_sum}
use Rattle.book_model.specs.Laws.{Picks}
use Rattle.shape_core.specs.Word.{code_of_words}
use Rattle.best_k.specs.Least.{Kept, least}
use Rattle.cell_store.specs.declared.Slot.{Slot}
use Rattle.prune_scan.specs.LaneMasks.{is_set}
use Rattle.prune_scan.specs.Blocks.{lane_row, marked_rows}
use Rattle.prune_scan.proofs.Adding.{marked_set, marked_clear}
use Rattle.prune_scan.proofs.MaskLemmas.{other_clear}
use Rattle.residual_scan.specs.Near.{is_near}
use Rattle.residual_scan.specs.Cutting.{bound_by, AreNear, Goes}
use Rattle.residual_scan.specs.declared.cutting.Cut.{Cut}
use Rattle.residual_scan.proofs.InCells.{far_leaves}
use Rattle.residual_scan.proofs.Cuts.{late_long, early_near, far_row, near_row, count_one}
use Rattle.residual_scan.proofs.Going.{goes_more}

-- what the lanes of a group are: their codes pick an entry of each table, and each has its bound unless the cell is early
pub record AreBounded (widths : List ℕ) (codes : List (List ℕ)) (ts : Tables) (cut : Cut) (bounds : List ℕ) : Type 0 where
  pub picks : (i : ℕ) → i < 32 → Picks ts (code_of_words widths (get_or codes i []))
  pub bounds_are : cut.early ≡ false → (i : ℕ) → i < 32 → get_or bounds i 0 ≡ bound_by cut.step ts (code_of_words widths (get_or codes i []))

module _ (widths : List ℕ) (cell : ℕ) (slots : List Slot) (marks : ℕ) (codes : List (List ℕ)) (ts : Tables) (cut : Cut) (bounds : List ℕ) (are : AreBounded widths codes ts cut bounds) where
  abbrev row_of : ℕ → Row
  row_of i = lane_row widths cell slots codes i

  module _ (i : ℕ) (lt : i < 32) (best : Kept) (some : 1 ≤ best.k) (near : ℕ) (mask : AreNear bounds cut best near) where
    -- a lane that is not near
    pub far_goes : (full : ℕ) → is_set near i ≡ false → Goes ts cut (row_of i ∷ []) best best full full
    far_goes full clear before more is held =
        let k = best.k in
        let far : is_near ts k before (before ++ more) (row_of i) ≡ false = elim (cases_Bool cut.early) [
          | inl early ↦ let set : is_set near i ≡ true = mask.early early i lt in absurd (cc (set, clear))
          | inr late ↦
              let long : k ≤ length (before ++ more) = omega (arith, late_long ts k before cut is late, length-append before more) in
              let above = leb-false (get_or bounds i 0) ((kth_least k (before ++ more) - cut.base) / cut.step) (sym (mask.late late (before ++ more) held long i lt) ∙ clear) in
              far_row ts k before cut is (before ++ more) (row_of i) (get_or bounds i 0) late (are.bounds_are late i lt) above
        ] in (
          held ∙ sym (far_leaves ts k before more (row_of i) some (are.picks i lt) far),
          omega (arith, count_one ts k before (before ++ more) (row_of i) false far),
          refl,
          refl,
        )

    -- a lane that is near, and was offered
    pub near_goes : (best' : Kept) (full full' : ℕ) → is_set near i ≡ true
        → ((seen : List Pair) → best.pairs ≡ least best.k seen → best'.pairs ≡ least best.k (seen ++ (picked_sum ts (row_of i).code, (row_of i).id) ∷ []))
        → full' ≡ full + 1 → best'.k ≡ best.k → best'.room ≡ best.room → Goes ts cut (row_of i ∷ []) best best' full full'
    near_goes best' full full' set offered raised k_is room_is before more is held =
        let k = best.k in
        let here : is_near ts k before (before ++ more) (row_of i) ≡ true = elim (cases_Bool cut.early) [
          | inl early ↦ early_near ts k before cut is (before ++ more) (row_of i) early
          | inr late ↦
              let long : k ≤ length (before ++ more) = omega (arith, late_long ts k before cut is late, length-append before more) in
              let within = leb-true (get_or bounds i 0) ((kth_least k (before ++ more) - cut.base) / cut.step) (sym (mask.late late (before ++ more) held long i lt) ∙ set) in
              near_row ts k before cut is (before ++ more) (row_of i) (get_or bounds i 0) late (are.bounds_are late i lt) within
        ] in (
          offered (before ++ more) held,
          omega (arith, raised, count_one ts k before (before ++ more) (row_of i) true here),
          k_is,
          room_is,
        )

  abbrev Done : Kept → Kept → ℕ → ℕ → ℕ → Type 0
  Done best best' full full' n = Goes ts cut (marked_rows widths cell slots marks codes n) best best' full full'

  -- one more lane that was scanned
  pub one_more : (i : ℕ) (a b c : Kept) (f f' f'' : ℕ) → is_set marks i ≡ true → Done a b f f' i → Goes ts cut (row_of i ∷ []) b c f' f'' → Done a c f f'' (i + 1)
  one_more i a b c f f' f'' set before here =
      subst (λ (rows : List Row). Goes ts cut rows a c f f'') (sym (marked_set widths cell slots marks codes i set))
      (goes_more ts cut (marked_rows widths cell slots marks codes i) (row_of i ∷ []) a b c f f' f'' before here)

  module _ (a best : Kept) (f full : ℕ) (some : 1 ≤ best.k) (near : ℕ) (mask : AreNear bounds cut best near) where
    -- lanes that are not marked or not near change nothing
    skips : (at d : ℕ) → at + d ≤ 32 → ((k : ℕ) → at ≤ k → k < at + d → is_set (bit_and marks near) k ≡ false) → Done a best f full at → Done a best f full (at + d)
    skips at zero le none done = subst (Done a best f full) {x = at} {y = at + 0} (omega arith) done
    skips at (suc d) le none done =
        let i = at + d in
        let before : Done a best f full i = skips at d (omega arith) (λ k from lt. none k from (omega arith)) done in
        let next : Done a best f full (i + 1) = elim (cases_Bool (is_set marks i)) [
          | inl set ↦ one_more i a best best f full full set before (far_goes i (omega arith) best some near mask full (other_clear marks near i (none i (omega arith) (omega arith)) set))
          | inr clear ↦ subst (λ (rows : List Row). Goes ts cut rows a best f full) (sym (marked_clear widths cell slots marks codes i clear)) before
        ] in
        subst (Done a best f full) {x = at + d + 1} {y = at + suc d} (omega arith) next

    pub skips_to : (at i : ℕ) → at ≤ i → i ≤ 32 → ((k : ℕ) → at ≤ k → k < i → is_set (bit_and marks near) k ≡ false) → Done a best f full at → Done a best f full i
    skips_to at i from le none done =
        subst (Done a best f full) {x = at + (i - at)} {y = i} (omega arith)
        (skips at (i - at) (omega arith) (λ k after lt. none k after (omega arith)) done)
