-- The rows of lanes that are near, and of those that are not.
use Rattle.std.proofs.Common.{◌≡◌, ℕ, ◌+◌, ◌*◌, ◌<◌, ◌≤◌, true, false, cond, List, [], ◌∷◌, ◌++◌, length, map, min, get_or, refl, sym, ap, ap₂, subst, ◌∙◌, arith}
use Rattle.std.specs.Prelude.{nat_le, Option, Some, None, MatchOption}
use Rattle.std.specs.List.{AllByRecursion}
use Rattle.std.proofs.lemmas.Bool.{le-ltb, lt-ltb, lt-leb, leb-false}
use Rattle.std.proofs.lemmas.List.{append-nil}
use Rattle.book_model.specs.Order.{Pair as Ordered}
use Rattle.book_model.specs.Book.{Book}
use Rattle.book_model.specs.Rows.{Row}
use Rattle.book_model.specs.Bound.{Tables, tables as tables_for, base_sum, bound, threshold}
use Rattle.book_model.specs.Answer.{pairs_of, table_distance}
use Rattle.shape_core.specs.Word.{IsCode, code_of_words}
use Rattle.lane_kernels.specs.Sums.{code_sum}
use Rattle.best_k.specs.Least.{key_of}
use Rattle.best_k.specs.declared.Pair.{Pair}
use Rattle.adc_tables.specs.Full.{Full, IsFilledFor}
use Rattle.adc_tables.specs.Small.{Small}
use Rattle.adc_tables.proofs.Codes.{tables_of, base_le, count_of, far_code, fields_of_words}
use Rattle.adc_tables.proofs.Smalls.{bound_is}
use Rattle.prune_scan.specs.LaneMasks.{is_set}
use Rattle.prune_scan.specs.Blocks.{AreCodes}
use Rattle.radius_scan.specs.Radius.{pairs_within, is_radius_full, full_within}
use Rattle.radius_scan.specs.Found.{Scans, IsThreshold, AreNear}
use Rattle.radius_scan.specs.Scanning.{scans_none, scans_more}

-- the pair of a row that lies farther is left out
far_left : (book : Book) (query : List ℕ) (r : ℕ) (row : Row) → r < table_distance book query row.code → pairs_within r (pairs_of book query (row ∷ [])) ≡ []
far_left book query r row far =
    let none : List Ordered = [] in
    ap (λ b. cond b ((table_distance book query row.code, row.id) ∷ none) none) (lt-leb (table_distance book query row.code) r far)

-- a row that is full, and one that is not
full_one : (book : Book) (query : List ℕ) (r : ℕ) (row : Row) → is_radius_full book query r row ≡ true → full_within book query r (row ∷ []) ≡ 1
full_one book query r row is = let none : List Row = [] in ap (λ b. length (cond b (row ∷ none) none)) is

full_none : (book : Book) (query : List ℕ) (r : ℕ) (row : Row) → is_radius_full book query r row ≡ false → full_within book query r (row ∷ []) ≡ 0
full_none book query r row is = let none : List Row = [] in ap (λ b. length (cond b (row ∷ none) none)) is

-- a row that is left out
far_scans : (widths : List ℕ) (tables : Full) (r : ℕ) (row : Row) (pairs : List Pair) (full : ℕ)
    → ((book : Book) (query : List ℕ) → IsFilledFor widths book query tables → (is_radius_full book query r row ≡ false) × (r < table_distance book query row.code))
    → Scans widths tables r (row ∷ []) pairs pairs full full
far_scans widths tables r row pairs full far = record {
  found = λ book query is. sym (append-nil (map key_of pairs)) ∙ ap (λ (l : List Ordered). map key_of pairs ++ l) (sym (far_left book query r row (far book query is).1));
  counted = λ book query is. omega (arith, full_none book query r row (far book query is).0);
  few = omega arith;
  risen = (omega arith, omega arith);
}

-- a lane is near exactly if its row is full, and else its row lies farther
module _ (widths : List ℕ) (tables : Full) (small : Small) (r most : ℕ) (is : IsThreshold widths tables small r most)
    (codes : List (List ℕ)) (sizes : AreCodes tables.g codes) (lanes : ℕ) (near : AreNear widths codes small most lanes) (i : ℕ) (lt : i < 32) (row : Row) (code : row.code ≡ code_of_words widths (get_or codes i [])) where
  module _ (book : Book) (query : List ℕ) (filled : IsFilledFor widths book query tables) where
    bound_of : min 255 (code_sum widths small.parts (get_or codes i [])) ≡ bound (tables_for book query) r row.code
    bound_of =
        (λ t. min 255 (code_sum widths (is.made t).parts (get_or codes i [])))
        ∙ bound_is widths tables r (get_or codes i []) (count_of widths book query tables filled ∙ ap (λ n. n * length widths) (sym (sizes.each i lt)))
        ∙ (λ t. bound (tables_of widths book query tables filled t) r (sym code t))

    most_of : most ≡ threshold (tables_for book query) r r
    most_of = is.most_is ∙ ap (λ (ts : Tables). threshold ts r r) (tables_of widths book query tables filled)

    above : base_sum (tables_for book query) ≤ r
    above = subst (λ (ts : Tables). base_sum ts ≤ r) (tables_of widths book query tables filled) is.above

    same : is_set lanes i ≡ is_radius_full book query r row
    unfolding is_radius_full
    same =
        near.each i lt ∙ ap₂ nat_le bound_of most_of
        ∙ ap (λ b. cond b false (nat_le (bound (tables_for book query) r row.code) (threshold (tables_for book query) r r))) (sym (le-ltb r (base_sum (tables_for book query)) above))

    farther : is_set lanes i ≡ false → r < table_distance book query row.code
    farther clear =
        let over : threshold (tables_for book query) r r < bound (tables_for book query) r row.code =
        leb-false (bound (tables_for book query) r row.code) (threshold (tables_for book query) r r) (ap₂ nat_le (sym bound_of) (sym most_of) ∙ sym (near.each i lt) ∙ clear) in
        let fits : IsCode widths tables.g row.code = subst (IsCode widths tables.g) (sym code) (fields_of_words widths book query tables filled (get_or codes i []) (sizes.each i lt)) in
        far_code widths book query tables filled row.code fits r r (subst (λ (ts : Tables). threshold ts r r < bound ts r row.code) (sym (tables_of widths book query tables filled)) over)

  pub clear_scans : is_set lanes i ≡ false → (pairs : List Pair) (full : ℕ) → Scans widths tables r (row ∷ []) pairs pairs full full
  clear_scans clear pairs full = far_scans widths tables r row pairs full (λ book query filled. (sym (same book query filled) ∙ clear, farther book query filled clear))

  pub set_scans : is_set lanes i ≡ true → (pairs pairs' : List Pair) (full full' : ℕ)
      → ((book : Book) (query : List ℕ) → IsFilledFor widths book query tables → map key_of pairs' ≡ map key_of pairs ++ pairs_within r (pairs_of book query (row ∷ [])))
      → length pairs' ≤ length pairs + 1 → full' ≡ full + 1 → Scans widths tables r (row ∷ []) pairs pairs' full full'
  set_scans set pairs pairs' full full' found few one = record {
    found = found;
    counted = λ book query filled. omega (arith, one, full_one book query r row (sym (same book query filled) ∙ set));
    few = omega (arith, few);
    risen = (omega (arith, one), omega (arith, one));
  }

-- a radius has no threshold exactly if it is below the sum of the bases
pub is_below : (widths : List ℕ) (tables : Full) (small : Small) (r : ℕ) (most : Option ℕ) → MatchOption most (r < base_sum tables.tables) (λ most. IsThreshold widths tables small r most) → most ≡ None → r < base_sum tables.tables
is_below widths tables small r None reach is = reach
is_below widths tables small r (Some most) reach is = absurd (cc)

pub has_none : (widths : List ℕ) (tables : Full) (small : Small) (r : ℕ) (most : Option ℕ) → MatchOption most (r < base_sum tables.tables) (λ most. IsThreshold widths tables small r most) → r < base_sum tables.tables → most ≡ None
has_none widths tables small r None reach below = refl
has_none widths tables small r (Some most) reach below = let above : base_sum tables.tables ≤ r = reach.above in absurd (omega (arith, above, below))

-- no row lies within a radius that is below the sum of the bases
pub below_scans : (widths : List ℕ) (tables : Full) (r : ℕ) → r < base_sum tables.tables → (rows : List Row) → AllByRecursion (λ (row : Row). IsCode widths tables.g row.code) rows → (pairs : List Pair) (full : ℕ) → Scans widths tables r rows pairs pairs full full
unfolding is_radius_full
below_scans widths tables r below [] codes pairs full = scans_none widths tables r pairs full
below_scans widths tables r below (row ∷ rows) codes pairs full =
    let far : (book : Book) (query : List ℕ) → IsFilledFor widths book query tables → (is_radius_full book query r row ≡ false) × (r < table_distance book query row.code) =
    λ book query is.
    let under : r < base_sum (tables_for book query) = subst (λ (ts : Tables). r < base_sum ts) (tables_of widths book query tables is) below in (
      ap (λ b. cond b false (nat_le (bound (tables_for book query) r row.code) (threshold (tables_for book query) r r))) (lt-ltb r (base_sum (tables_for book query)) under),
      omega (arith, below, base_le widths book query tables is row.code codes.0),
    ) in
    scans_more widths tables r (row ∷ []) rows pairs pairs pairs full full full (far_scans widths tables r row pairs full far) (below_scans widths tables r below rows codes.1 pairs full)
