-- A cache of which no slot has a key of this query.
use Rattle.std.proofs.Common.{◌≡◌, ℕ, ◌<◌, false, List, [], ◌∷◌, length, get_or, None, Some, refl, ap, ◌∙◌, sym, inl, arith, nat_eq}
use Rattle.std.specs.Prelude.{Option}
use Rattle.std.specs.List.{AllByRecursion}
use Rattle.std.specs.Map.{lookup}
use Rattle.std.proofs.lemmas.Bool.{ne_eqb}
use Rattle.lru.specs.LruCache.{LruCache}
use Rattle.lru.proofs.Splits.{Contains-nil}
use Rattle.book_model.specs.Book.{Book}
use Rattle.half_tables.specs.Half.{HalfSeen}
use Rattle.residual_scan.specs.Caching.{HasKept, AreSlots, Stands}

past : (n : ℕ) (es : List (ℕ × ℕ)) → AllByRecursion (λ (e : ℕ × ℕ). e.0 < n) es → lookup (nat_eq n) es ≡ None
past n [] all = refl
past n (e ∷ es) all =
    let differs : nat_eq n e.0 ≡ false = ne_eqb n e.0 (λ is. let lt = all.0 in omega (arith, is, lt)) in
    rw differs (past n es all.1)

none_found : (n : ℕ) (es : List (ℕ × ℕ)) (places : List ℕ) → AllByRecursion (λ (e : ℕ × ℕ). e.0 < n) es → ((key : ℕ) → key < length places → get_or places key 0 ≡ n) → (key : ℕ) → key < length places
    → lookup (nat_eq (get_or places key 0)) es ≡ Some key → ⊥
none_found n es places all none key lt is =
    let nothing : lookup (nat_eq (get_or places key 0)) es ≡ None = ap (λ s. lookup (nat_eq s) es) (none key lt) ∙ past n es all in
    let broken : None ≡ Some key = sym nothing ∙ is in
    cc broken

abbrev cleared : (n : ℕ) (es : List (ℕ × ℕ)) (places : List ℕ) → AllByRecursion (λ (e : ℕ × ℕ). e.0 < n) es → ((key : ℕ) → key < length places → get_or places key 0 ≡ n) → HasKept [] es places
cleared n es places all none = record {
  front = [];
  back = es;
  whole = refl;
  keys = refl;
  placed = λ e c. absurd (Contains-nil e c);
  found = λ key lt is. absurd (none_found n es places all none key lt is);
}

pub stands_cleared : (book : Book) (v : List ℕ) (cache : ℕ) (slots : Option (LruCache ℕ ℕ)) (places : List ℕ) (halves : List HalfSeen) → AreSlots cache slots → ((key : ℕ) → key < length places → get_or places key 0 ≡ cache)
    → Stands book v [] slots places halves
stands_cleared book v cache None places halves are none = inl refl
stands_cleared book v cache (Some slots) places halves are none = record {
  is = cleared cache slots.entries places are.3 none;
  tables = λ e c. absurd (Contains-nil e c);
}
