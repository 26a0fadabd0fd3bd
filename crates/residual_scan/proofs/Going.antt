-- The scan of rows after rows.
use Rattle.std.proofs.Common.{◌≡◌, ℕ, ◌+◌, List, [], ◌∷◌, ◌++◌, refl, sym, ap, ap₂, subst, ◌∙◌, append_assoc, arith, ◌<◌, ◌≤◌, true, false, length, cond, Bool}
use Rattle.std.proofs.lemmas.List.{map-append, append-nil}
use Rattle.std.specs.Prelude.{nat_le}
use Rattle.std.specs.List.{AllByRecursion}
use Rattle.std.proofs.lemmas.Bool.{lt-ltb, le-ltb}
use Rattle.book_model.specs.Order.{Pair, kth_least}
use Rattle.book_model.specs.Laws.{Picks}
use Rattle.book_model.specs.Rows.{Row}
use Rattle.book_model.specs.Bound.{Tables, picked_sum, base_sum, bound, threshold}
use Rattle.residual_scan.proofs.InCells.{far_leaves}
use Rattle.best_k.specs.Least.{Kept, least}
use Rattle.residual_scan.specs.Near.{pairs_in, is_near, near_count}
use Rattle.residual_scan.specs.Cutting.{IsCut, Goes}
use Rattle.residual_scan.specs.declared.cutting.Cut.{Cut}

module _ (ts : Tables) where
  pub pairs_in-append : (xs ys : List Row) → pairs_in ts (xs ++ ys) ≡ pairs_in ts xs ++ pairs_in ts ys
  pairs_in-append xs ys = map-append (λ (row : Row). (picked_sum ts row.code, row.id)) xs ys

  pub near_count-append : (k : ℕ) (before seen : List Pair) (xs ys : List Row) → near_count ts k before seen (xs ++ ys) ≡ near_count ts k before seen xs + near_count ts k before (seen ++ pairs_in ts xs) ys
  near_count-append k before seen [] ys = omega (arith, ap (λ ps. near_count ts k before ps ys) (append-nil seen))
  near_count-append k before seen (x ∷ xs) ys =
      let next = near_count-append k before (seen ++ pairs_in ts (x ∷ [])) xs ys in
      let same : (seen ++ pairs_in ts (x ∷ [])) ++ pairs_in ts xs ≡ seen ++ pairs_in ts (x ∷ xs) = append_assoc seen (pairs_in ts (x ∷ [])) (pairs_in ts xs) in
      omega (arith, next, ap (λ ps. near_count ts k before ps ys) same)

  pub goes_none : (cut : Cut) (best : Kept) (full : ℕ) → Goes ts cut [] best best full full
  goes_none cut best full before more is held = (held ∙ ap (least best.k) (sym (append-nil (before ++ more))), omega arith, refl, refl)

  pub goes_more : (cut : Cut) (xs ys : List Row) (a b c : Kept) (f f' f'' : ℕ) → Goes ts cut xs a b f f' → Goes ts cut ys b c f' f'' → Goes ts cut (xs ++ ys) a c f f''
  goes_more cut xs ys a b c f f' f'' first second before more is held =
      let one = first before more is held in
      let k : b.k ≡ a.k = one.2 in
      let whole : (before ++ more) ++ pairs_in ts xs ≡ before ++ (more ++ pairs_in ts xs) = append_assoc before more (pairs_in ts xs) in
      let two = second before (more ++ pairs_in ts xs) (subst (λ n. IsCut ts n before cut) (sym k) is) (one.0 ∙ ap₂ least (sym k) whole) in
      let rest : ((before ++ more) ++ pairs_in ts xs) ++ pairs_in ts ys ≡ (before ++ more) ++ pairs_in ts (xs ++ ys) =
      append_assoc (before ++ more) (pairs_in ts xs) (pairs_in ts ys) ∙ ap (λ ps. (before ++ more) ++ ps) (sym (pairs_in-append xs ys)) in (
        two.0 ∙ ap₂ least k (ap (λ ps. ps ++ pairs_in ts ys) (sym whole) ∙ rest),
        omega (arith, one.1, two.1, near_count-append a.k before (before ++ more) xs ys, ap₂ (λ n ps. near_count ts n before ps ys) k (sym whole)),
        two.2 ∙ k,
        two.3 ∙ one.3,
      )

-- a cell that lies wholly too far leaves the k least pairs, and has no full row
pub far_cell : (ts : Tables) (k : ℕ) (before more : List Pair) (rows : List Row) → 1 ≤ k → k ≤ length before → kth_least k before < base_sum ts → AllByRecursion (λ row. Picks ts row.code) rows
    → (near_count ts k before (before ++ more) rows ≡ 0) × (least k ((before ++ more) ++ pairs_in ts rows) ≡ least k (before ++ more))
far_cell ts k before more [] some long far picks = (refl, ap (least k) (append-nil (before ++ more)))
far_cell ts k before more (row ∷ rows) some long far picks =
    let pair = pairs_in ts (row ∷ []) in
    let is : is_near ts k before (before ++ more) row ≡ false =
    ap₂ {C = Bool} (λ a b. cond a true (cond b false (nat_le (bound ts (kth_least k before) row.code) (threshold ts (kth_least k before) (kth_least k (before ++ more))))))
    (le-ltb (length before) k long) (lt-ltb (kth_least k before) (base_sum ts) far) in
    let on : (before ++ more) ++ pair ≡ before ++ (more ++ pair) = append_assoc before more pair in
    let rest = far_cell ts k before (more ++ pair) rows some long far picks.1 in
    let whole : (before ++ (more ++ pair)) ++ pairs_in ts rows ≡ (before ++ more) ++ pairs_in ts (row ∷ rows) =
    ap (λ ps. ps ++ pairs_in ts rows) (sym on) ∙ append_assoc (before ++ more) pair (pairs_in ts rows) in (
      omega (arith, ap {B = ℕ} (λ b. cond b 1 0) is, rest.0, ap (λ ps. near_count ts k before ps rows) on),
      ap (least k) (sym whole) ∙ rest.1 ∙ ap (least k) (sym on) ∙ far_leaves ts k before more row some picks.0 is,
    )
