-- Lists in which the row of an id ended.
use Rattle.cell_store.proofs.Words.{◌≡◌, ◌≢◌, ℕ, ◌+◌, ◌<◌, Bool, true, false, List, [], ◌∷◌, ◌++◌, length, map, refl, sym, ap, ap₂, ◌∙◌, subst, arith, inl, inr, filter, ◌==◌, ◌||◌, ◌&&◌, if◌then◌else◌, AllByRecursion, list_any, cases_Bool, common_steps, Kept, is_live, Rising, ended, ended_id, is_row_of, all_weaken, all_middle, filter_yes, filter_no}
use Rattle.std.specs.List.{IsDistinct}
use Rattle.cell_store.proofs.Index.{end_that, ended_that}
use Rattle.cell_store.proofs.Keeping.{eq-eqb, no_row_of, row_id}
use Rattle.std.proofs.lemmas.List.{map-append}

pub ended_absent : (stamp id : ℕ) (xs : List Kept) → list_any (is_row_of id) xs ≡ false → ended_id stamp id xs ≡ xs
ended_absent stamp id [] h = refl
ended_absent stamp id (x ∷ xs) h = grind (arith, common_steps, ended_absent stamp id xs)

-- ---- the row of a birth alone

module _ (s id born : ℕ) where
  other_birth : (k : Kept) → k.born ≢ born → end_that s id born k ≡ k
  other_birth k off = grind (arith, common_steps)

  that_ends : (k : Kept) → is_row_of id k ≡ true → k.born ≡ born → end_that s id born k ≡ ended s k
  that_ends k row at = grind (arith, common_steps)

  alone_ends : (k : Kept) → (is_row_of id k ≡ true → k.born ≡ born) → end_that s id born k ≡ (if is_row_of id k then ended s k else k)
  alone_ends k at = grind (arith, common_steps)

  pub that_none : (xs : List Kept) → AllByRecursion (λ k. k.born ≢ born) xs → ended_that s id born xs ≡ xs
  that_none [] all = refl
  that_none (x ∷ xs) all = ap₂ (λ (k : Kept) (ks : List Kept). k ∷ ks) (other_birth x all.0) (that_none xs all.1)

  pub that_one : (xs : List Kept) (x : Kept) (ys : List Kept) → Rising (xs ++ x ∷ ys) → is_row_of id x ≡ true → x.born ≡ born → ended_that s id born (xs ++ x ∷ ys) ≡ xs ++ ended s x ∷ ys
  that_one [] x ys rises row at =
      ap₂ (λ (k : Kept) (ks : List Kept). k ∷ ks) (that_ends x row at) (that_none ys (all_weaken (λ l. l.born ≢ born) (λ l. x.born < l.born) ys (λ l h. omega (arith, at)) rises.0))
  that_one (z ∷ xs) x ys rises row at =
      let h : z.born < x.born = all_middle (λ l. z.born < l.born) xs x ys rises.0 in
      ap₂ (λ (k : Kept) (ks : List Kept). k ∷ ks) (other_birth z (omega (arith, at))) (that_one xs x ys rises.1 row at)

  pub that_push : (xs : List Kept) (k : Kept) → k.born ≢ born → ended_that s id born (xs ++ k ∷ []) ≡ ended_that s id born xs ++ k ∷ []
  that_push xs k off = map-append (end_that s id born) xs (k ∷ []) ∙ ap (λ l. ended_that s id born xs ++ l ∷ []) (other_birth k off)

  -- where the id has no other live row
  pub that_alone : (xs : List Kept) → AllByRecursion (λ k. is_row_of id k ≡ true → k.born ≡ born) xs → ended_that s id born xs ≡ ended_id s id xs
  that_alone [] all = refl
  that_alone (x ∷ xs) all = ap₂ (λ (k : Kept) (ks : List Kept). k ∷ ks) (alone_ends x all.0) (that_alone xs all.1)

-- ---- the one live row of an id

abbrev pub live_ids : List Kept → List ℕ
live_ids kept = map (λ row. row.id) (map (λ k. k.row) (filter is_live kept))

pub record IsOnly (id : ℕ) (kept : List Kept) : Type 0 where
  pub row : Kept
  pub found : is_row_of id row ≡ true
  pub alone : filter (is_row_of id) kept ≡ row ∷ []

none_behind : (id : ℕ) (xs : List Kept) → AllByRecursion (λ i. (id == i) ≡ false) (live_ids xs) → filter (is_row_of id) xs ≡ []
none_behind id [] all = refl
none_behind id (x ∷ xs) all = elim (cases_Bool (is_live x)) [
  | inl lives ↦
      let there : AllByRecursion (λ i. (id == i) ≡ false) (x.row.id ∷ live_ids xs) = simp lives at all in
      filter_no (is_row_of id) x xs (no_row_of id x (λ l same. (let e : true ≡ false = sym (eq-eqb id x.row.id (sym same)) ∙ there.0 in cc))) ∙ none_behind id xs there.1
  | inr dead ↦ filter_no (is_row_of id) x xs (ap (λ b. b && (x.row.id == id)) dead) ∙ none_behind id xs (simp dead at all)
]

distinct_parts : (x : Kept) (xs : List Kept) → IsDistinct (λ a b. a == b) (live_ids (x ∷ xs))
    → (is_live x ≡ true → AllByRecursion (λ i. (x.row.id == i) ≡ false) (live_ids xs)) × IsDistinct (λ a b. a == b) (live_ids xs)
unfolding IsDistinct
distinct_parts x xs apart = elim (cases_Bool (is_live x)) [
  | inl lives ↦ (let both : IsDistinct (λ a b. a == b) (x.row.id ∷ live_ids xs) = simp lives at apart in ((λ l. both.0), both.1))
  | inr dead ↦ ((λ l. absurd (let e : true ≡ false = sym l ∙ dead in cc)), simp dead at apart)
]

pub only_row : (id : ℕ) (xs : List Kept) → IsDistinct (λ a b. a == b) (live_ids xs) → list_any (is_row_of id) xs ≡ true → IsOnly id xs
only_row id [] apart any = absurd (let e : false ≡ true = any in cc)
only_row id (x ∷ xs) apart any =
    let parts = distinct_parts x xs apart in
    elim (cases_Bool (is_row_of id x)) [
      | inl found ↦
          let row = row_id id x found in
          let none = none_behind id xs (subst (λ (n : ℕ). AllByRecursion (λ i. (n == i) ≡ false) (live_ids xs)) row.1 (parts.0 row.0)) in
          record { row = x; found = found; alone = filter_yes (is_row_of id) x xs found ∙ ap (λ l. x ∷ l) none }
      | inr other ↦
          let rest = only_row id xs parts.1 (ap (λ b. b || list_any (is_row_of id) xs) (sym other) ∙ any) in
          record { row = rest.row; found = rest.found; alone = filter_no (is_row_of id) x xs other ∙ rest.alone }
    ]

-- how many rows pass a test once it ended
module _ (r : Kept → Bool) (s id : ℕ) where
  count_ends : (xs : List Kept) → length (filter r (ended_id s id xs)) + length (filter r (filter (is_row_of id) xs)) ≡ length (filter r xs) + length (filter r (map (ended s) (filter (is_row_of id) xs)))
  count_ends [] = refl
  count_ends (x ∷ xs) = grind (arith, common_steps, count_ends xs)

  pub count_ended : (kept : List Kept) (one : IsOnly id kept) → length (filter r (ended_id s id kept)) + (if r one.row then 1 else 0) ≡ length (filter r kept) + (if r (ended s one.row) then 1 else 0)
  count_ended kept one = (let h = count_ends kept in let e = ap (λ l. length (filter r l)) one.alone in let f = ap (λ l. length (filter r (map (ended s) l))) one.alone in grind (arith, common_steps))
