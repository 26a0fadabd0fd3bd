-- Which rows a cut leaves out.
use Rattle.std.proofs.Common.{◌≡◌, ℕ, ◌+◌, ◌-◌, ◌/◌, ◌<◌, ◌≤◌, Bool, true, false, cond, List, [], ◌∷◌, length, min, sym, ap, ap₂, ◌∙◌, inl, inr, arith}
use Rattle.std.specs.Prelude.{nat_lt, nat_le}
use Rattle.std.proofs.lemmas.Bool.{lt-ltb, le-ltb, le-leb, lt-leb, ltb-false, cases_lt}
use Rattle.std.proofs.lemmas.List.{length-take}
use Rattle.book_model.specs.Order.{Pair, sorted, pair_cmp, kth_least}
use Rattle.book_model.specs.Rows.{Row}
use Rattle.book_model.specs.Bound.{Tables, base_sum, step_of, bound, threshold}
use Rattle.book_model.proofs.Best.{length-sorted}
use Rattle.best_k.specs.Least.{least}
use Rattle.residual_scan.specs.Near.{is_near, near_count}
use Rattle.residual_scan.specs.Cutting.{IsCut, bound_by}
use Rattle.residual_scan.specs.declared.cutting.Cut.{Cut}

pub length-least : (k : ℕ) (pairs : List Pair) → length (least k pairs) ≡ min k (length pairs)
unfolding least
length-least k pairs = length-take k (sorted pair_cmp pairs) ∙ ap (λ n. min k n) (length-sorted pair_cmp pairs)

module _ (ts : Tables) (k : ℕ) (before : List Pair) (cut : Cut) (is : IsCut ts k before cut) where
  pub late_long : cut.early ≡ false → k ≤ length before
  late_long late = ltb-false (length before) k (sym is.early ∙ late)

  pub threshold_is : (theta : ℕ) → cut.early ≡ false → (theta - cut.base) / cut.step ≡ threshold ts (kth_least k before) theta
  unfolding threshold
  threshold_is theta late = ap₂ (λ b s. (theta - b) / s) (is.base late) (is.step late)

  pub bound_is : (code : List ℕ) → cut.early ≡ false → bound_by cut.step ts code ≡ bound ts (kth_least k before) code
  unfolding bound
  bound_is code late = ap (λ s. bound_by s ts code) (is.step late)

  module _ (seen : List Pair) (row : Row) where
    late_near : cut.early ≡ false → is_near ts k before seen row ≡ nat_le (bound ts (kth_least k before) row.code) (threshold ts (kth_least k before) (kth_least k seen))
    late_near late =
        ap₂ {C = Bool} (λ a b. cond a true (cond b false (nat_le (bound ts (kth_least k before) row.code) (threshold ts (kth_least k before) (kth_least k seen)))))
        (sym is.early ∙ late) (le-ltb (kth_least k before) (base_sum ts) (is.near late))

    pub early_near : cut.early ≡ true → is_near ts k before seen row ≡ true
    early_near early =
        ap {B = Bool} (λ a. cond a true (cond (nat_lt (kth_least k before) (base_sum ts)) false (nat_le (bound ts (kth_least k before) row.code) (threshold ts (kth_least k before) (kth_least k seen)))))
        (sym is.early ∙ early)

    pub far_row : (b : ℕ) → cut.early ≡ false → b ≡ bound_by cut.step ts row.code → (kth_least k seen - cut.base) / cut.step < b → is_near ts k before seen row ≡ false
    far_row b late same far =
        late_near late ∙ lt-leb (bound ts (kth_least k before) row.code) (threshold ts (kth_least k before) (kth_least k seen))
        (omega (arith, far, same, bound_is row.code late, threshold_is (kth_least k seen) late))

    pub near_row : (b : ℕ) → cut.early ≡ false → b ≡ bound_by cut.step ts row.code → b ≤ (kth_least k seen - cut.base) / cut.step → is_near ts k before seen row ≡ true
    near_row b late same near =
        late_near late ∙ le-leb (bound ts (kth_least k before) row.code) (threshold ts (kth_least k before) (kth_least k seen))
        (omega (arith, near, same, bound_is row.code late, threshold_is (kth_least k seen) late))

pub count_one : (ts : Tables) (k : ℕ) (before seen : List Pair) (row : Row) (b : Bool) → is_near ts k before seen row ≡ b → near_count ts k before seen (row ∷ []) ≡ cond b 1 0
count_one ts k before seen row b is = omega (arith, ap {B = ℕ} (λ c. cond c 1 0) is)

-- the cut of a cell before which fewer than k pairs came
pub early_cut : (ts : Tables) (k : ℕ) (before held : List Pair) → held ≡ least k before → length held < k → IsCut ts k before (record { early = true; base = 0; step = 1 })
early_cut ts k before held is few = record {
  early = sym (lt-ltb (length before) k (omega (arith, few, ap length is, length-least k before)));
  base = λ late. absurd (cc late);
  step = λ late. absurd (cc late);
  near = λ late. absurd (cc late);
}

-- and of one after k pairs or more, which does not lie wholly too far
pub late_cut : (ts : Tables) (k : ℕ) (before held : List Pair) (theta base : ℕ) → held ≡ least k before → k ≤ length held → theta ≡ kth_least k before → base ≡ base_sum ts → base ≤ theta
    → IsCut ts k before (record { early = false; base = base; step = (theta - base) / 255 + 1 })
unfolding step_of
late_cut ts k before held theta base is many theta_is base_is near = record {
  early = sym (le-ltb (length before) k (omega (arith, many, ap length is, length-least k before)));
  base = λ _. base_is;
  step = λ _. ap₂ (λ t b. (t - b) / 255 + 1) theta_is base_is;
  near = λ _. omega (arith, near, theta_is, base_is);
}

-- a bound of a byte is compared with a threshold that is cut to a byte
pub capped_le : (b t : ℕ) → b < 256 → nat_le b (min t 255) ≡ nat_le b t
capped_le b t small = elim (cases_lt t b) [
  | inl lt ↦ lt-leb b (min t 255) (omega arith) ∙ sym (lt-leb b t lt)
  | inr le ↦ le-leb b (min t 255) (omega arith) ∙ sym (le-leb b t le)
]
