-- Elements of a list by their numbers, of which no two are the same; and what one of equal numbers in rising order is.
use Rattle.std.proofs.Common.{◌≡◌, ℕ, zero, suc, ◌+◌, ◌≤◌, ◌<◌, Bool, true, false, cond, not, ◌==◌, ◌||◌, List, [], ◌∷◌, ◌++◌, length, map, filter, take, drop, get_or, set, refl, sym, ap, ap₂, ◌∙◌, subst, arith, inl, inr}
use Rattle.std.specs.Prelude.{Option, Some, None, nat_lt, remove, if◌then◌else◌}
use Rattle.std.specs.List.{AllByRecursion, IsDistinct, find, list_any, position, position_or_len, prefix_len}
use Rattle.std.proofs.lemmas.Bool.{eq-eqb, cases_Bool}
use Rattle.std.proofs.lemmas.Grind.{common_steps}
use Rattle.std.proofs.lemmas.List.{get_or-map, map-append, take-map, drop-map}
use Rattle.std.proofs.lemmas.List.Quantifiers.{position-Some}
use Rattle.book_model.proofs.AllLemmas.{all_at, all_remove, all_push}
use Rattle.book_model.proofs.FilterLemmas.{filter_yes, filter_no, filter_all}
use Rattle.adc_program.specs.SessionStates.{Ascending}

pub map_remove : {X Y : Type 0} (f : X → Y) (xs : List X) (i : ℕ) → map f (remove xs i) ≡ remove (map f xs) i
map_remove f xs i = map-append f (take i xs) (drop (suc i) xs) ∙ ap₂ (λ a b. a ++ b) (sym (take-map f i xs)) (sym (drop-map f (suc i) xs))

-- where no place is found, no element passes
none_past : {X : Type 0} (p : X → Bool) (xs : List X) → length xs ≤ prefix_len (λ x. not (p x)) xs → AllByRecursion (λ x. p x ≡ false) xs
none_past p [] h = tt
none_past p (x ∷ xs) h = elim (cases_Bool (p x)) [
  | inl passes ↦ absurd (let e : prefix_len (λ x. not (p x)) (x ∷ xs) ≡ 0 = ap (λ b. cond (not b) (1 + prefix_len (λ x. not (p x)) xs) 0) passes in omega (arith, e, h))
  | inr fails ↦ (fails, none_past p xs (let e : prefix_len (λ x. not (p x)) (x ∷ xs) ≡ 1 + prefix_len (λ x. not (p x)) xs = ap (λ b. cond (not b) (1 + prefix_len (λ x. not (p x)) xs) 0) fails in omega (arith, e, h)))
]

pub all_from_none : {X : Type 0} (p : X → Bool) (xs : List X) → position p xs ≡ None → AllByRecursion (λ x. p x ≡ false) xs
all_from_none p xs none = elim (cases_Bool (nat_lt (position_or_len p xs) (length xs))) [
  | inl within ↦ absurd (let e : position p xs ≡ Some (position_or_len p xs) = simp within refl in let two : ◌≡◌ {A = Option ℕ} None (Some (position_or_len p xs)) = sym none ∙ e in cc)
  | inr past ↦ none_past p xs (let e : nat_lt (position_or_len p xs) (length xs) ≡ false = past in grind (arith, common_steps))
]

module _ {X : Type 0} (key : X → ℕ) where
  differ : (n : ℕ) (xs : List X) → AllByRecursion (λ y. (n == y) ≡ false) (map key xs) → AllByRecursion (λ x. (key x == n) ≡ false) xs
  differ n [] all = tt
  differ n (x ∷ xs) all = ((let e : (n == key x) ≡ false = all.0 in grind (arith, common_steps)), differ n xs all.1)

  -- no element has the number
  pub find_none : (n : ℕ) (xs : List X) → AllByRecursion (λ x. (key x == n) ≡ false) xs → find (λ x. key x == n) xs ≡ None
  find_none n [] all = refl
  find_none n (x ∷ xs) all = ap (λ b. cond b (Some x) (find (λ x. key x == n) xs)) all.0 ∙ find_none n xs all.1

  pub any_none : (n : ℕ) (xs : List X) → AllByRecursion (λ x. (key x == n) ≡ false) xs → list_any (λ x. key x == n) xs ≡ false
  any_none n [] all = refl
  any_none n (x ∷ xs) all = ap₂ (λ (a b : Bool). a || b) all.0 (any_none n xs all.1)

  none_replaced : (n : ℕ) (y : X) (xs : List X) → AllByRecursion (λ x. (key x == n) ≡ false) xs → map (λ x. if key x == n then y else x) xs ≡ xs
  none_replaced n y [] all = refl
  none_replaced n y (x ∷ xs) all = ap₂ (λ (b : Bool) l. (if b then y else x) ∷ l) all.0 (none_replaced n y xs all.1)

  -- the first element has another number than one behind it
  other : (x : X) (xs : List X) (n i : ℕ) (d : X) → IsDistinct (λ a b. a == b) (map key (x ∷ xs)) → i < length xs → key (get_or xs i d) ≡ n → (key x == n) ≡ false
  unfolding IsDistinct
  other x xs n i d apart h e =
      let there : (key x == get_or (map key xs) i (key d)) ≡ false = all_at (λ y. (key x == y) ≡ false) (map key xs) i (key d) apart.0 (let l = length_keys xs in omega (arith, l, h)) in
      subst (λ y. (key x == y) ≡ false) (get_or-map key xs i d (key d) h ∙ e) there
    where
      length_keys : (xs : List X) → length (map key xs) ≡ length xs
      length_keys [] = refl
      length_keys (x ∷ xs) = ap suc (length_keys xs)

  rest : (x : X) (xs : List X) → IsDistinct (λ a b. a == b) (map key (x ∷ xs)) → IsDistinct (λ a b. a == b) (map key xs)
  unfolding IsDistinct
  rest x xs apart = apart.1

  behind : (x : X) (xs : List X) → IsDistinct (λ a b. a == b) (map key (x ∷ xs)) → AllByRecursion (λ y. (key y == key x) ≡ false) xs
  unfolding IsDistinct
  behind x xs apart = differ (key x) xs apart.0

  -- the element of a number, by its place
  pub find_at_place : (xs : List X) (n i : ℕ) (d : X) → IsDistinct (λ a b. a == b) (map key xs) → i < length xs → key (get_or xs i d) ≡ n → find (λ x. key x == n) xs ≡ Some (get_or xs i d)
  find_at_place [] n i d apart h e = absurd (omega arith)
  find_at_place (x ∷ xs) n zero d apart h e = ap (λ b. cond b (Some x) (find (λ x. key x == n) xs)) (eq-eqb (key x) n e)
  find_at_place (x ∷ xs) n (suc i) d apart h e =
      ap (λ b. cond b (Some x) (find (λ x. key x == n) xs)) (other x xs n i d apart (omega arith) e) ∙ find_at_place xs n i d (rest x xs apart) (omega arith) e

  pub replaced_at : (xs : List X) (n i : ℕ) (d y : X) → IsDistinct (λ a b. a == b) (map key xs) → i < length xs → key (get_or xs i d) ≡ n → map (λ x. if key x == n then y else x) xs ≡ set xs i y
  replaced_at [] n i d y apart h e = absurd (omega arith)
  replaced_at (x ∷ xs) n zero d y apart h e =
      ap₂ (λ (b : Bool) l. (if b then y else x) ∷ l) (eq-eqb (key x) n e) (none_replaced n y xs (subst (λ m. AllByRecursion (λ z. (key z == m) ≡ false) xs) e (behind x xs apart)))
  replaced_at (x ∷ xs) n (suc i) d y apart h e =
      ap₂ (λ (b : Bool) l. (if b then y else x) ∷ l) (other x xs n i d apart (omega arith) e) (replaced_at xs n i d y (rest x xs apart) (omega arith) e)

  pub without_at : (xs : List X) (n i : ℕ) (d : X) → IsDistinct (λ a b. a == b) (map key xs) → i < length xs → key (get_or xs i d) ≡ n → filter (λ x. not (key x == n)) xs ≡ remove xs i
  without_at [] n i d apart h e = absurd (omega arith)
  without_at (x ∷ xs) n zero d apart h e =
      filter_no (λ x. not (key x == n)) x xs (ap not (eq-eqb (key x) n e))
      ∙ filter_all (λ x. not (key x == n)) xs (all_not n xs (subst (λ m. AllByRecursion (λ z. (key z == m) ≡ false) xs) e (behind x xs apart)))
    where
      all_not : (n : ℕ) (xs : List X) → AllByRecursion (λ x. (key x == n) ≡ false) xs → AllByRecursion (λ x. not (key x == n) ≡ true) xs
      all_not n [] all = tt
      all_not n (x ∷ xs) all = (ap not all.0, all_not n xs all.1)
  without_at (x ∷ xs) n (suc i) d apart h e =
      filter_yes (λ x. not (key x == n)) x xs (ap not (other x xs n i d apart (omega arith) e)) ∙ ap (λ l. x ∷ l) (without_at xs n i d (rest x xs apart) (omega arith) e)

-- the numbers stay apart where one of none is added, and where one is taken out
pub distinct_push : (ns : List ℕ) (n : ℕ) → IsDistinct (λ a b. a == b) ns → AllByRecursion (λ m. (m == n) ≡ false) ns → IsDistinct (λ a b. a == b) (ns ++ n ∷ [])
unfolding IsDistinct
distinct_push [] n apart all = (tt, tt)
distinct_push (m ∷ ns) n apart all = (all_push (λ y. (m == y) ≡ false) ns n apart.0 all.0, distinct_push ns n apart.1 all.1)

pub distinct_remove : (ns : List ℕ) (i : ℕ) → IsDistinct (λ a b. a == b) ns → IsDistinct (λ a b. a == b) (remove ns i)
unfolding IsDistinct
distinct_remove [] zero apart = tt
distinct_remove [] (suc i) apart = tt
distinct_remove (m ∷ ns) zero apart = apart.1
distinct_remove (m ∷ ns) (suc i) apart = (all_remove (λ y. (m == y) ≡ false) ns i apart.0, distinct_remove ns i apart.1)

-- numbers in rising order
pub ascending_push : (ns : List ℕ) (n : ℕ) → Ascending ns → AllByRecursion (λ m. m ≤ n) ns → Ascending (ns ++ n ∷ [])
ascending_push [] n up all = (tt, tt)
ascending_push (m ∷ ns) n up all = (all_push (λ y. m ≤ y) ns n up.0 all.0, ascending_push ns n up.1 all.1)

pub ascending_remove : (ns : List ℕ) (i : ℕ) → Ascending ns → Ascending (remove ns i)
ascending_remove [] zero up = tt
ascending_remove [] (suc i) up = tt
ascending_remove (m ∷ ns) zero up = up.1
ascending_remove (m ∷ ns) (suc i) up = (all_remove (λ y. m ≤ y) ns i up.0, ascending_remove ns i up.1)

first_again : (n : ℕ) (ns : List ℕ) (i : ℕ) → Ascending (n ∷ ns) → i < length ns → n ≡ get_or ns i 0 → ns ≡ n ∷ remove ns i
first_again n [] i up h e = absurd (omega arith)
first_again n (m ∷ ns) zero up h e = ap (λ x. x ∷ ns) (sym e)
first_again n (m ∷ ns) (suc i) up h e =
    let low : n ≤ m = up.0.0 in
    let high : m ≤ get_or ns i 0 = all_at (λ y. m ≤ y) ns i 0 up.1.0 (omega arith) in
    let same : m ≡ n = omega (arith, low, high, e) in
    ap₂ (λ x l. x ∷ l) same (first_again m ns i up.1 (omega arith) (same ∙ e))

-- which of equal numbers is taken out makes no difference
pub remove_either : (ns : List ℕ) (i j : ℕ) → Ascending ns → i < length ns → j < length ns → get_or ns i 0 ≡ get_or ns j 0 → remove ns i ≡ remove ns j
remove_either [] i j up h l e = absurd (omega arith)
remove_either (n ∷ ns) zero zero up h l e = refl
remove_either (n ∷ ns) zero (suc j) up h l e = first_again n ns j up (omega arith) e
remove_either (n ∷ ns) (suc i) zero up h l e = sym (first_again n ns i up (omega arith) (sym e))
remove_either (n ∷ ns) (suc i) (suc j) up h l e = ap (λ l. n ∷ l) (remove_either ns i j up.1 (omega arith) (omega arith) e)

-- a place that is found lies in the list
pub place_within : {X : Type 0} (p : X → Bool) (xs : List X) (i : ℕ) → position p xs ≡ Some i → i < length xs
place_within p [] i h = cc
place_within p (x ∷ xs) i h = (position-Some p (x ∷ xs) i x h).0
