-- The scan of a block, some lanes on.
use Rattle.std.proofs.Common.{◌≡◌, ℕ, zero, suc, ◌+◌, ◌-◌, ◌<◌, ◌≤◌, true, false, List, [], ◌∷◌, ◌++◌, length, map, refl, sym, subst, inl, inr, arith, length-append}
use Rattle.std.proofs.lemmas.Bool.{cases_Bool}
use lib.Bits.{bit_and}
use Rattle.book_model.specs.Book.{Book}
use Rattle.book_model.specs.Rows.{Row}
use Rattle.book_model.specs.Answer.{pairs_of}
use Rattle.best_k.specs.Least.{key_of}
use Rattle.best_k.specs.declared.Pair.{Pair}
use Rattle.adc_tables.specs.Full.{Full, IsFilledFor}
use Rattle.adc_tables.specs.Small.{Small}
use Rattle.cell_store.specs.declared.Slot.{Slot}
use Rattle.prune_scan.specs.LaneMasks.{is_set}
use Rattle.prune_scan.specs.Blocks.{lane_row, marked_rows, AreCodes}
use Rattle.prune_scan.proofs.Adding.{marked_none, marked_set, marked_clear}
use Rattle.prune_scan.proofs.MaskLemmas.{both_set, other_clear}
use Rattle.radius_scan.specs.Radius.{pairs_within}
use Rattle.radius_scan.specs.Found.{Scans, IsThreshold, AreNear}
use Rattle.radius_scan.specs.Scanning.{scans_none, scans_more}
use Rattle.radius_scan.proofs.Lanes.{clear_scans, set_scans}

-- as many rows are marked as there are lanes, at most
pub marked_few : (widths : List ℕ) (cell : ℕ) (slots : List Slot) (marks : ℕ) (codes : List (List ℕ)) (n : ℕ) → length (marked_rows widths cell slots marks codes n) ≤ n
unfolding marked_rows
marked_few widths cell slots marks codes zero = omega arith
marked_few widths cell slots marks codes (suc n) = elim (cases_Bool (is_set marks n)) [
  | inl on ↦ rw on (omega (arith, marked_few widths cell slots marks codes n, length-append (marked_rows widths cell slots marks codes n) (lane_row widths cell slots codes n ∷ [])))
  | inr off ↦
      let none : List Row = [] in
      rw off (omega (arith, marked_few widths cell slots marks codes n, length-append (marked_rows widths cell slots marks codes n) none))
]

module _ (widths : List ℕ) (tables : Full) (r : ℕ) (slots : List Slot) (marks : ℕ) (codes : List (List ℕ)) (first : List Pair) (full : ℕ) where
  -- the marked rows of the first i lanes are scanned
  pub record InBlock (i : ℕ) (now : List Pair) (full' : ℕ) : Type 0 where
    pub scans : (cell : ℕ) → Scans widths tables r (marked_rows widths cell slots marks codes i) first now full full'

  pub starts : InBlock 0 first full
  starts = record { scans = λ cell. subst (λ (rs : List Row). Scans widths tables r rs first first full full) (sym (marked_none widths cell slots marks codes)) (scans_none widths tables r first full) }

  one_more : (i : ℕ) (now next : List Pair) (full' full'' : ℕ) → is_set marks i ≡ true → InBlock i now full'
      → ((cell : ℕ) → Scans widths tables r (lane_row widths cell slots codes i ∷ []) now next full' full'') → InBlock (i + 1) next full''
  one_more i now next full' full'' set inside one = record {
    scans = λ cell.
        subst (λ (rs : List Row). Scans widths tables r rs first next full full'') (sym (marked_set widths cell slots marks codes i set))
        (scans_more widths tables r (marked_rows widths cell slots marks codes i) (lane_row widths cell slots codes i ∷ []) first now next full full' full'' (inside.scans cell) (one cell));
  }

  module _ (small : Small) (most : ℕ) (is : IsThreshold widths tables small r most) (sizes : AreCodes tables.g codes) (lanes : ℕ) (near : AreNear widths codes small most lanes) where
    -- a lane that is not marked, or not near
    skips_lane : (i : ℕ) (now : List Pair) (full' : ℕ) → i < 32 → is_set (bit_and marks lanes) i ≡ false → InBlock i now full' → InBlock (i + 1) now full'
    skips_lane i now full' lt none inside = elim (cases_Bool (is_set marks i)) [
      | inl set ↦
          one_more i now now full' full' set inside
          (λ cell. clear_scans widths tables small r most is codes sizes lanes near i lt (lane_row widths cell slots codes i) refl (other_clear marks lanes i none set) now full')
      | inr clear ↦ record { scans = λ cell. subst (λ (rs : List Row). Scans widths tables r rs first now full full') (sym (marked_clear widths cell slots marks codes i clear)) (inside.scans cell) }
    ]

    skips_some : (n at : ℕ) (now : List Pair) (full' : ℕ) → at + n ≤ 32 → ((k : ℕ) → at ≤ k → k < at + n → is_set (bit_and marks lanes) k ≡ false) → InBlock at now full' → InBlock (at + n) now full'
    skips_some zero at now full' le none inside = subst (λ (i : ℕ). InBlock i now full') {x = at} {y = at + 0} (omega arith) inside
    skips_some (suc n) at now full' le none inside =
        subst (λ (i : ℕ). InBlock i now full') {x = at + n + 1} {y = at + suc n} (omega arith)
        (skips_lane (at + n) now full' (omega arith) (none (at + n) (omega arith) (omega arith)) (skips_some n at now full' (omega arith) (λ k from below. none k from (omega arith)) inside))

    -- from a lane to a later one, if none between is both marked and near
    pub skips : (at i : ℕ) (now : List Pair) (full' : ℕ) → at ≤ i → i ≤ 32 → ((k : ℕ) → at ≤ k → k < i → is_set (bit_and marks lanes) k ≡ false) → InBlock at now full' → InBlock i now full'
    skips at i now full' from le none inside =
        subst (λ (j : ℕ). InBlock j now full') {x = at + (i - at)} {y = i} (omega arith)
        (skips_some (i - at) at now full' (omega arith) (λ k after below. none k after (omega arith)) inside)

    -- and a lane that is both
    pub takes : (i : ℕ) (now next : List Pair) (full' full'' : ℕ) → i < 32 → is_set (bit_and marks lanes) i ≡ true → InBlock i now full'
        → ((cell : ℕ) (book : Book) (query : List ℕ) → IsFilledFor widths book query tables → map key_of next ≡ map key_of now ++ pairs_within r (pairs_of book query (lane_row widths cell slots codes i ∷ [])))
        → length next ≤ length now + 1 → full'' ≡ full' + 1 → InBlock (i + 1) next full''
    takes i now next full' full'' lt both inside found few one =
        let set = both_set marks lanes i both in
        one_more i now next full' full'' set.0 inside
        (λ cell. set_scans widths tables small r most is codes sizes lanes near i lt (lane_row widths cell slots codes i) refl set.1 now next full' full'' (found cell) few one)
