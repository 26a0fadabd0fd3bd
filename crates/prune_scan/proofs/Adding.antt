-- Rows after rows.
use Rattle.std.proofs.Common.{◌≡◌, ℕ, zero, suc, ◌+◌, ◌-◌, ◌≤◌, true, false, cond, List, [], ◌∷◌, ◌++◌, length, get_or, refl, sym, ap, subst, ◌∙◌, append_assoc, arith, length-append, add-one}
use Rattle.std.proofs.lemmas.List.{append-nil, length-map}
use Rattle.book_model.specs.Rows.{Row}
use Rattle.book_model.specs.Answer.{full_after}
use Rattle.best_k.specs.Least.{Kept}
use Rattle.adc_tables.specs.Full.{Full}
use Rattle.adc_tables.specs.Small.{Small}
use Rattle.prune_scan.specs.declared.state.ScanState.{ScanState}
use Rattle.prune_scan.specs.Standing.{Stands, IsStanding, Adds, Counts}
use Rattle.code_blocks.specs.Codes.{codes_of, word_count}
use Rattle.code_blocks.proofs.Lanes.{get_or-codes_of}
use Rattle.cell_store.specs.declared.Slot.{Slot}
use Rattle.prune_scan.specs.LaneMasks.{is_set}
use Rattle.prune_scan.specs.Blocks.{lane_row, marked_rows, AreCodes}
use Rattle.prune_scan.proofs.Fullness.{full_after-append}

module _ (widths : List ℕ) (tables : Full) where
  pub adds_none : (state : ScanState) (small : Small) (best : Kept) → Adds widths tables [] state state small small best best
  adds_none state small best = record {
    stands = λ book query seen s. subst (λ rows. Stands widths tables book query rows state small best) (sym (append-nil seen)) s;
    sizes = (refl, refl, refl);
    stays = λ is. (refl, is);
  }

  pub counts_none : (state : ScanState) (small : Small) (best : Kept) (full : ℕ) → Counts widths tables [] state small best full full
  counts_none state small best full book query seen s = omega arith

  pub adds_more : (rows more : List Row) (state state' state'' : ScanState) (small small' small'' : Small) (best best' best'' : Kept)
      → Adds widths tables rows state state' small small' best best' → Adds widths tables more state' state'' small' small'' best' best'' → Adds widths tables (rows ++ more) state state'' small small'' best best''
  adds_more rows more state state' state'' small small' small'' best best' best'' a b = record {
    stands = λ book query seen s. subst (λ all. Stands widths tables book query all state'' small'' best'') (append_assoc seen rows more) (b.stands book query (seen ++ rows) (a.stands book query seen s));
    sizes = (b.sizes.0 ∙ a.sizes.0, b.sizes.1 ∙ a.sizes.1, b.sizes.2 ∙ a.sizes.2);
    stays = λ is. let first = a.stays is in let second = b.stays first.1 in (second.0 ∙ first.0, second.1);
  }

  pub counts_more : (rows more : List Row) (state state' : ScanState) (small small' : Small) (best best' : Kept) (full full' full'' : ℕ)
      → Adds widths tables rows state state' small small' best best' → Counts widths tables rows state small best full full' → Counts widths tables more state' small' best' full' full'' → Counts widths tables (rows ++ more) state small best full full''
  counts_more rows more state state' small small' best best' full full' full'' a first second book query seen s =
      omega (
        arith,
        first book query seen s,
        second book query (seen ++ rows) (a.stands book query seen s),
        ap (λ k. full_after book query k (seen ++ rows) more) a.sizes.1,
        full_after-append book query best.k seen rows more,
      )

  -- the parts stand for some rows afterwards
  pub still_standing : (rows : List Row) (state state' : ScanState) (small small' : Small) (best best' : Kept) → IsStanding widths tables state small best → Adds widths tables rows state state' small small' best best' → IsStanding widths tables state' small' best'
  still_standing rows state state' small small' best best' is a = record { book = is.book; query = is.query; seen = is.seen ++ rows; stands = a.stands is.book is.query is.seen is.stands }

  -- and count them
  pub rows_counted : (rows : List Row) (state state' : ScanState) (small small' : Small) (best best' : Kept) → IsStanding widths tables state small best → Adds widths tables rows state state' small small' best best' → state'.rows ≡ state.rows + length rows
  rows_counted rows state state' small small' best best' is a =
      omega (arith, (a.stands is.book is.query is.seen is.stands).rows, is.stands.rows, length-append is.seen rows)

-- the rows of one more lane
module _ (widths : List ℕ) (cell : ℕ) (slots : List Slot) (marks : ℕ) (codes : List (List ℕ)) where
  pub marked_none : marked_rows widths cell slots marks codes 0 ≡ []
  unfolding marked_rows
  marked_none = refl

  marked_next : (i : ℕ) → marked_rows widths cell slots marks codes (i + 1) ≡ marked_rows widths cell slots marks codes i ++ cond (is_set marks i) (lane_row widths cell slots codes i ∷ []) []
  unfolding marked_rows
  marked_next i = ap (marked_rows widths cell slots marks codes) (add-one i)

  pub marked_set : (i : ℕ) → is_set marks i ≡ true → marked_rows widths cell slots marks codes (i + 1) ≡ marked_rows widths cell slots marks codes i ++ lane_row widths cell slots codes i ∷ []
  marked_set i is = marked_next i ∙ ap (λ b. marked_rows widths cell slots marks codes i ++ cond b (lane_row widths cell slots codes i ∷ []) []) is

  pub marked_clear : (i : ℕ) → is_set marks i ≡ false → marked_rows widths cell slots marks codes (i + 1) ≡ marked_rows widths cell slots marks codes i
  marked_clear i is = marked_next i ∙ ap (λ b. marked_rows widths cell slots marks codes i ++ cond b (lane_row widths cell slots codes i ∷ []) []) is ∙ append-nil (marked_rows widths cell slots marks codes i)

  marked_more : (i n : ℕ) → length (marked_rows widths cell slots marks codes i) ≤ length (marked_rows widths cell slots marks codes (i + n))
  marked_more i zero = omega (arith, ap (λ k. length (marked_rows widths cell slots marks codes k)) {x = i + 0} {y = i} (omega arith))
  marked_more i (suc n) =
      omega (
        arith,
        marked_more i n,
        ap (λ k. length (marked_rows widths cell slots marks codes k)) {x = i + suc n} {y = i + n + 1} (omega arith),
        ap length (marked_next (i + n)),
        length-append (marked_rows widths cell slots marks codes (i + n)) (cond (is_set marks (i + n)) (lane_row widths cell slots codes (i + n) ∷ []) []),
      )

  pub marked_le : (i n : ℕ) → i ≤ n → length (marked_rows widths cell slots marks codes i) ≤ length (marked_rows widths cell slots marks codes n)
  marked_le i n le = omega (arith, marked_more i (n - i), ap (λ k. length (marked_rows widths cell slots marks codes k)) {x = i + (n - i)} {y = n} (omega arith))

-- the codes of a block's words have as many words as the block
pub codes_are : (lanes : List (List ℕ)) (codes : List (List ℕ)) (g : ℕ) → codes_of lanes ≡ codes → length lanes ≡ word_count codes → word_count codes ≡ g → AreCodes g codes
codes_are lanes codes g is count size = record {
  each = λ i lt.
      let row : List ℕ → ℕ = λ lane. get_or lane i 0 in
      ap (λ cs. length (get_or cs i [])) (sym is) ∙ ap length (get_or-codes_of lanes i lt) ∙ length-map lanes row ∙ count ∙ size;
}
