-- The tables of keys, and what is missed.
use Rattle.std.proofs.Common.{◌≡◌, ◌≢◌, ℕ, zero, suc, ◌+◌, ◌-◌, ◌<◌, ◌≤◌, Bool, true, false, cond, not, List, [], ◌∷◌, length, get_or, take, Some, refl, sym, ap, subst, ◌∙◌, inl, inr, arith, get_or-set_same, get_or-set_other}
use Rattle.std.proofs.Math.ListN.{set}
use Rattle.std.specs.Prelude.{◌==◌, slice_get}
use Rattle.std.specs.List.{AllByRecursion, list_any}
use Rattle.std.proofs.lemmas.Bool.{ne_eqb}
use Rattle.book_model.specs.Book.{Book}
use Rattle.half_tables.specs.Half.{HalfSeen, IsHalfOf}
use Rattle.residual_scan.specs.Misses.{used, misses, kept_after}
use Rattle.residual_scan.specs.Caching.{Takes, HasTables, IsTableOf, FewKept, no_half}

pub misses-le : (capacity : ℕ) (kept keys : List ℕ) → misses capacity kept keys ≤ length keys
misses-le capacity kept [] = omega arith
misses-le capacity kept (key ∷ keys) = omega (arith, misses-le capacity (used capacity kept key) keys, one_le (list_any (λ other. other == key) kept))
  where
    one_le : (b : Bool) → cond b 0 1 ≤ 1
    one_le true = omega arith
    one_le false = omega arith

-- the first of entries that lie within a bound
pub head_within : (n : ℕ) (es : List (ℕ × ℕ)) (slot key : ℕ) → AllByRecursion (λ (e : ℕ × ℕ). e.0 < n) es → slice_get es 0 ≡ Some (slot, key) → slot < n
head_within n [] slot key all is = cc
head_within n (e ∷ es) slot key all is =
    let head : e ≡ (slot, key) = cc in
    subst (λ (e : ℕ × ℕ). e.0 < n) head all.0

module _ (book : Book) (v : List ℕ) (capacity : ℕ) (kept : List ℕ) (entries : List (ℕ × ℕ)) (places : List ℕ) (entries' : List (ℕ × ℕ)) (places' : List ℕ) (key slot : ℕ) (halves : List HalfSeen) where
  abbrev At : List HalfSeen → ℕ × ℕ → Type 0
  At hs e = IsTableOf book v e.1 (get_or hs e.0 no_half)

  -- a table that is kept
  pub tables_kept : (has : HasTables book v kept entries places halves) → Takes capacity kept entries places entries' places' key slot false has.is
      → HasTables book v (used capacity kept key) entries' places' halves × (list_any (λ other. other == key) kept ≡ true) × IsTableOf book v key (get_or halves slot no_half)
  tables_kept has takes =
      let here : At halves (slot, key) = has.tables (slot, key) (takes.here refl) in (
        record {
          is = takes.now;
          tables = λ e c. elim (takes.others e c) [
            | inl is ↦ subst (At halves) (sym is) here
            | inr old ↦ has.tables e old.0
          ];
        },
        kept_if (list_any (λ other. other == key) kept) takes.fresh_is,
        here,
      )
    where
      kept_if : (b : Bool) → false ≡ not b → b ≡ true
      kept_if true is = refl
      kept_if false is = absurd (cc is)

  -- and one that was filled
  pub tables_filled : (has : HasTables book v kept entries places halves) → Takes capacity kept entries places entries' places' key slot true has.is → (table : HalfSeen) → slot < length halves → IsTableOf book v key table
      → HasTables book v (used capacity kept key) entries' places' (set halves slot table) × (list_any (λ other. other == key) kept ≡ false) × IsTableOf book v key (get_or (set halves slot table) slot no_half)
  tables_filled has takes table lt is_table =
      let here : At (set halves slot table) (slot, key) = subst (IsTableOf book v key) (sym (get_or-set_same halves slot table no_half lt)) is_table in (
        record {
          is = takes.now;
          tables = λ e c. elim (takes.others e c) [
            | inl is ↦ subst (At (set halves slot table)) (sym is) here
            | inr old ↦ subst (IsTableOf book v e.1) (sym (get_or-set_other halves slot e.0 table no_half old.1)) (has.tables e old.0)
          ];
        },
        new_if (list_any (λ other. other == key) kept) takes.fresh_is,
        here,
      )
    where
      new_if : (b : Bool) → true ≡ not b → b ≡ false
      new_if false is = refl
      new_if true is = absurd (cc is)

-- without a cache both keys of a cell are missed
none_of : (key x : ℕ) → x ≢ key → list_any (λ other. other == key) (x ∷ []) ≡ false
none_of key x ne = let differs : (x == key) ≡ false = ne_eqb x key ne in rw differs refl

few_any : (k0 : ℕ) (kept : List ℕ) (a : ℕ) → FewKept k0 kept → a < k0 → list_any (λ other. other == a) kept ≡ false
few_any k0 kept a (inl none) lt = ap (list_any (λ other. other == a)) none
few_any k0 kept a (inr one) lt = ap (list_any (λ other. other == a)) one.1 ∙ none_of a one.0 (λ e. omega (arith, lt, one.2, e))

used_if : (capacity : ℕ) (kept : List ℕ) (q : ℕ) → list_any (λ other. other == q) kept ≡ false → (used capacity kept q ≡ take capacity (q ∷ kept))
used_if capacity kept q is = simp is

missed : (capacity : ℕ) (kept : List ℕ) (a b : ℕ) → list_any (λ other. other == a) kept ≡ false → list_any (λ other. other == b) (used capacity kept a) ≡ false → misses capacity kept (a ∷ b ∷ []) ≡ 2
missed capacity kept a b first second = omega (arith, ap {B = ℕ} (λ c. cond c 0 1) first, ap {B = ℕ} (λ c. cond c 0 1) second)

pub few_step : (capacity k0 : ℕ) (kept : List ℕ) (a b : ℕ) → capacity ≤ 1 → FewKept k0 kept → a < k0 → k0 ≤ b → (misses capacity kept (a ∷ b ∷ []) ≡ 2) × FewKept k0 (kept_after capacity kept (a ∷ b ∷ []))
few_step zero k0 kept a b le few lt ge =
    let first = few_any k0 kept a few lt in
    let one : used zero kept a ≡ [] = used_if zero kept a first in
    let second : list_any (λ other. other == b) (used zero kept a) ≡ false = ap (list_any (λ other. other == b)) one in
    (missed zero kept a b first second, inl (used_if zero (used zero kept a) b second))
few_step (suc zero) k0 kept a b le few lt ge =
    let first = few_any k0 kept a few lt in
    let one : used (suc zero) kept a ≡ a ∷ [] = used_if (suc zero) kept a first in
    let second : list_any (λ other. other == b) (used (suc zero) kept a) ≡ false = ap (list_any (λ other. other == b)) one ∙ none_of b a (λ e. omega (arith, lt, ge, e)) in
    (missed (suc zero) kept a b first second, inr (b, used_if (suc zero) (used (suc zero) kept a) b second, ge))
few_step (suc (suc n)) k0 kept a b le few lt ge = absurd (omega (arith, le))

-- the two keys of a cell, one after the other
pub two_tables : (book : Book) (v kept : List ℕ) (entries : List (ℕ × ℕ)) (places : List ℕ) (halves : List HalfSeen) (capacity first second a b low high h0 h1 h2 : ℕ) → first ≡ capacity → second ≡ capacity → low ≡ a → high ≡ b
    → HasTables book v (used second (used first kept low) high) entries places halves → h1 ≡ h0 + cond (list_any (λ other. other == low) kept) 0 1 → h2 ≡ h1 + cond (list_any (λ other. other == high) (used first kept low)) 0 1
    → HasTables book v (kept_after capacity kept (a ∷ b ∷ [])) entries places halves × (h2 ≡ h0 + misses capacity kept (a ∷ b ∷ []))
two_tables book v kept entries places halves capacity first second a b low high h0 h1 h2 cap1 cap2 low_is high_is has one two =
    let keys : used second (used first kept low) high ≡ used capacity (used capacity kept a) b = λ t. used (cap2 t) (used (cap1 t) kept (low_is t)) (high_is t) in
    let miss1 : ◌≡◌ {A = ℕ} (cond (list_any (λ other. other == low) kept) 0 1) (cond (list_any (λ other. other == a) kept) 0 1) = λ t. cond (list_any (λ other. other == low_is t) kept) 0 1 in
    let miss2 : ◌≡◌ {A = ℕ} (cond (list_any (λ other. other == high) (used first kept low)) 0 1) (cond (list_any (λ other. other == b) (used capacity kept a)) 0 1) =
    λ t. cond (list_any (λ other. other == high_is t) (used (cap1 t) kept (low_is t))) 0 1 in
    (subst (λ ks. HasTables book v ks entries places halves) keys has, omega (arith, one, two, miss1, miss2))

pub not_true : (b : Bool) → not b ≡ true → b ≡ false
not_true false is = refl
not_true true is = absurd (cc is)

pub not_false : (b : Bool) → not b ≡ false → b ≡ true
not_false true is = refl
not_false false is = absurd (cc is)

-- the table of a key of part 0, and of one of part 1
pub low_table : (book : Book) (v : List ℕ) (key word : ℕ) (seen : HalfSeen) → key ≡ word → word < book.k0 → IsTableOf book v key seen → IsHalfOf book v 0 word seen
low_table book v key word seen is lt table = subst (λ k. IsHalfOf book v 0 k seen) is (table.0 (omega (arith, is, lt)))

pub high_table : (book : Book) (v : List ℕ) (key word : ℕ) (seen : HalfSeen) → key ≡ book.k0 + word → IsTableOf book v key seen → IsHalfOf book v 1 word seen
high_table book v key word seen is table =
    let rest : key - book.k0 ≡ word = omega (arith, is) in
    subst (λ k. IsHalfOf book v 1 k seen) rest (table.1 (omega (arith, is)))
