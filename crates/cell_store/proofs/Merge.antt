-- The rows of the cells and the one list of them determine each other.
use Rattle.cell_store.proofs.Words.{filter_yes, filter_no, ◌≡◌, ◌≢◌, ℕ, zero, suc, ◌<◌, ◌≤◌, Bool, true, false, cond, List, [], ◌∷◌, ◌++◌, refl, sym, ap, ap₂, ◌∙◌, subst, arith, inl, inr, filter, ◌==◌, AllByRecursion, is_gt, cases_Bool, cases_lt, common_steps, eqb_tells, append-nil, filter-append, Kept, kept_in, Rising, rows_below, born_cmp, AreCells, all_append, all_filter, all_weaken, filter_all}
use Rattle.book_model.specs.Order.{sorted, placed}
use Rattle.book_model.proofs.Sorting.{placed-gt, placed-le, all-placed, all-sorted}
use Rattle.cell_store.specs.Cells.{all_kept}

-- ---- the order of birth

pub not_later : (a b : Kept) → a.born ≤ b.born → is_gt (born_cmp a b) ≡ false
not_later a b h = grind (arith, common_steps)

pub later_means : (a b : Kept) → is_gt (born_cmp a b) ≡ true → b.born < a.born
later_means a b h = grind (arith, common_steps)

pub not_later_means : (a b : Kept) → is_gt (born_cmp a b) ≡ false → a.born ≤ b.born
not_later_means a b h = grind (arith, common_steps)

-- ---- each is born no later than those behind it

abbrev Weak : List Kept → Type 0
Weak [] = Unit {0}
Weak (k ∷ ks) = AllByRecursion (λ l. k.born ≤ l.born) ks × Weak ks

before_all : (x y : Kept) (ys : List Kept) → x.born ≤ y.born → AllByRecursion (λ l. y.born ≤ l.born) ys → AllByRecursion (λ l. x.born ≤ l.born) ys
before_all x y ys h all = all_weaken (λ l. x.born ≤ l.born) (λ l. y.born ≤ l.born) ys (λ l here. omega arith) all

weak_placed : (x : Kept) (ys : List Kept) → Weak ys → Weak (placed born_cmp x ys)
weak_placed x [] h = (tt, tt)
weak_placed x (y ∷ ys) h = elim (cases_Bool (is_gt (born_cmp x y))) [
  | inl gt ↦ rw (placed-gt born_cmp x y ys gt) (all-placed (λ l. y.born ≤ l.born) born_cmp x ys (let e : y.born < x.born = later_means x y gt in omega arith) h.0, weak_placed x ys h.1)
  | inr le ↦ rw (placed-le born_cmp x y ys le) ((not_later_means x y le, before_all x y ys (not_later_means x y le) h.0), h)
]

weak_sorted : (xs : List Kept) → Weak (sorted born_cmp xs)
unfolding sorted
weak_sorted [] = tt
weak_sorted (x ∷ xs) = weak_placed x (sorted born_cmp xs) (weak_sorted xs)

placed_first : (x : Kept) (ys : List Kept) → AllByRecursion (λ l. x.born ≤ l.born) ys → placed born_cmp x ys ≡ x ∷ ys
placed_first x [] all = refl
placed_first x (y ∷ ys) all = placed-le born_cmp x y ys (not_later x y all.0)

-- ---- a filter keeps the order

filter_placed : (p : Kept → Bool) (x : Kept) (ys : List Kept) → p x ≡ true → Weak ys → filter p (placed born_cmp x ys) ≡ placed born_cmp x (filter p ys)
filter_placed p x [] held h = filter_yes p x [] held
filter_placed p x (y ∷ ys) held h = elim (cases_Bool (is_gt (born_cmp x y))) [
  | inl gt ↦ elim (cases_Bool (p y)) [
    | inl with_y ↦ simp (placed-gt born_cmp x y ys gt, with_y, filter_placed p x ys held h.1, placed-gt born_cmp x y (filter p ys) gt)
    | inr without_y ↦ simp (placed-gt born_cmp x y ys gt, without_y, filter_placed p x ys held h.1)
  ]
  | inr le ↦
      ap (filter p) (placed-le born_cmp x y ys le)
      ∙ filter_yes p x (y ∷ ys) held
      ∙ sym (placed_first x (filter p (y ∷ ys)) (all_filter (λ l. x.born ≤ l.born) p (y ∷ ys) (not_later_means x y le, before_all x y ys (not_later_means x y le) h.0)))
]

filter_placed_out : (p : Kept → Bool) (x : Kept) (ys : List Kept) → p x ≡ false → filter p (placed born_cmp x ys) ≡ filter p ys
filter_placed_out p x [] gone = filter_no p x [] gone
filter_placed_out p x (y ∷ ys) gone = elim (cases_Bool (is_gt (born_cmp x y))) [
  | inl gt ↦ ap (filter p) (placed-gt born_cmp x y ys gt) ∙ ap (λ l. cond (p y) (y ∷ l) l) (filter_placed_out p x ys gone)
  | inr le ↦ ap (filter p) (placed-le born_cmp x y ys le) ∙ filter_no p x (y ∷ ys) gone
]

pub filter_sorted : (p : Kept → Bool) (xs : List Kept) → filter p (sorted born_cmp xs) ≡ sorted born_cmp (filter p xs)
unfolding sorted
filter_sorted p [] = refl
filter_sorted p (x ∷ xs) = elim (cases_Bool (p x)) [
  | inl held ↦
      filter_placed p x (sorted born_cmp xs) held (weak_sorted xs)
      ∙ ap (placed born_cmp x) (filter_sorted p xs)
      ∙ ap (sorted born_cmp) (sym (filter_yes p x xs held))
  | inr gone ↦ filter_placed_out p x (sorted born_cmp xs) gone ∙ filter_sorted p xs ∙ ap (sorted born_cmp) (sym (filter_no p x xs gone))
]

sorted_rising : (xs : List Kept) → Rising xs → sorted born_cmp xs ≡ xs
unfolding sorted
sorted_rising [] h = refl
sorted_rising (x ∷ xs) h =
    ap (placed born_cmp x) (sorted_rising xs h.1) ∙ placed_first x xs (all_weaken (λ l. x.born ≤ l.born) (λ l. x.born < l.born) xs (λ l here. omega arith) h.0)

-- ---- the rows of a cell in the list of all

pub own_cell : (c : ℕ) (k : Kept) → k.row.cell ≡ c → (k.row.cell == c) ≡ true
own_cell c k h = grind (arith, common_steps)

pub other_cell : (c e : ℕ) (k : Kept) → k.row.cell ≡ e → c ≢ e → (k.row.cell == c) ≡ false
other_cell c e k h n = grind (arith, common_steps)

kept_in_own : (c : ℕ) (xs : List Kept) → AllByRecursion (λ k. k.row.cell ≡ c) xs → kept_in c xs ≡ xs
kept_in_own c xs all = filter_all (λ k. k.row.cell == c) xs (all_weaken (λ k. (k.row.cell == c) ≡ true) (λ k. k.row.cell ≡ c) xs (own_cell c) all)

kept_in_other : (c e : ℕ) (xs : List Kept) → c ≢ e → AllByRecursion (λ k. k.row.cell ≡ e) xs → kept_in c xs ≡ []
kept_in_other c e [] n all = refl
kept_in_other c e (x ∷ xs) n all = filter_no (λ k. k.row.cell == c) x xs (other_cell c e x all.0 n) ∙ kept_in_other c e xs n all.1

pub kept_in-append : (c : ℕ) (xs ys : List Kept) → kept_in c (xs ++ ys) ≡ kept_in c xs ++ kept_in c ys
kept_in-append c xs ys = filter-append (λ k. k.row.cell == c) xs ys

module _ (rows : ℕ → List Kept) (of_cell : (c : ℕ) → AllByRecursion (λ k. k.row.cell ≡ c) (rows c)) where
  below_past : (n c : ℕ) → n ≤ c → kept_in c (rows_below rows n) ≡ []
  below_past zero c h = refl
  below_past (suc n) c h =
      kept_in-append c (rows_below rows n) (rows n)
      ∙ ap₂ (λ (xs ys : List Kept). xs ++ ys) (below_past n c (omega arith)) (kept_in_other c n (rows n) (omega arith) (of_cell n))

  below_own : (n c : ℕ) → c < n → kept_in c (rows_below rows n) ≡ rows c
  below_own zero c h = absurd (omega arith)
  below_own (suc n) c h = elim (eqb_tells c n) [
    | inl at ↦
        kept_in-append c (rows_below rows n) (rows n)
        ∙ ap₂ (λ (xs ys : List Kept). xs ++ ys) (below_past n c (let e : c ≡ n = at.1 in omega arith)) (ap (λ m. kept_in c (rows m)) (sym at.1) ∙ kept_in_own c (rows c) (of_cell c))
    | inr off ↦
        kept_in-append c (rows_below rows n) (rows n)
        ∙ ap₂ (λ (xs ys : List Kept). xs ++ ys) (below_own n c (let e : c ≢ n = off.1 in omega arith)) (kept_in_other c n (rows n) off.1 (of_cell n))
        ∙ append-nil (rows c)
  ]

pub kept_in-all_kept : (n stamp : ℕ) (rows : ℕ → List Kept) → AreCells n stamp rows → (c : ℕ) → kept_in c (all_kept rows n) ≡ rows c
unfolding all_kept
kept_in-all_kept n stamp rows are c =
    filter_sorted (λ k. k.row.cell == c) (rows_below rows n)
    ∙ elim (cases_lt c n) [
      | inl below ↦ ap (sorted born_cmp) (below_own rows are.of_cell n c below) ∙ sorted_rising (rows c) (are.rising c)
      | inr past ↦ ap (sorted born_cmp) (below_past rows are.of_cell n c past) ∙ sorted_rising [] tt ∙ sym (are.none_past c past)
    ]

-- ---- all are born apart

abbrev Apart : List Kept → Type 0
Apart [] = Unit {0}
Apart (k ∷ ks) = AllByRecursion (λ l. k.born ≢ l.born) ks × Apart ks

rising_apart : (xs : List Kept) → Rising xs → Apart xs
rising_apart [] h = tt
rising_apart (x ∷ xs) h = (all_weaken (λ l. x.born ≢ l.born) (λ l. x.born < l.born) xs (λ l here. omega arith) h.0, rising_apart xs h.1)

apart_append : (xs ys : List Kept) → Apart xs → Apart ys → AllByRecursion (λ k. AllByRecursion (λ l. k.born ≢ l.born) ys) xs → Apart (xs ++ ys)
apart_append [] ys a b cross = b
apart_append (x ∷ xs) ys a b cross = (all_append (λ l. x.born ≢ l.born) xs ys a.0 cross.0, apart_append xs ys a.1 b cross.1)

rising_placed : (x : Kept) (ys : List Kept) → AllByRecursion (λ l. x.born ≢ l.born) ys → Rising ys → Rising (placed born_cmp x ys)
rising_placed x [] new h = (tt, tt)
rising_placed x (y ∷ ys) new h = elim (cases_Bool (is_gt (born_cmp x y))) [
  | inl gt ↦ rw (placed-gt born_cmp x y ys gt) (all-placed (λ l. y.born < l.born) born_cmp x ys (later_means x y gt) h.0, rising_placed x ys new.1 h.1)
  | inr le ↦
      let first : x.born < y.born = (let e : x.born ≤ y.born = not_later_means x y le in let n : x.born ≢ y.born = new.0 in omega arith) in
      rw (placed-le born_cmp x y ys le) ((first, all_weaken (λ l. x.born < l.born) (λ l. y.born < l.born) ys (λ l here. omega arith) h.0), h)
]

rising_sorted : (xs : List Kept) → Apart xs → Rising (sorted born_cmp xs)
unfolding sorted
rising_sorted [] h = tt
rising_sorted (x ∷ xs) h = rising_placed x (sorted born_cmp xs) (all-sorted (λ l. x.born ≢ l.born) born_cmp xs h.0) (rising_sorted xs h.1)

pub all_below : (P : Kept → Type 0) (rows : ℕ → List Kept) (n : ℕ) → ((c : ℕ) → c < n → AllByRecursion P (rows c)) → AllByRecursion P (rows_below rows n)
all_below P rows zero all = tt
all_below P rows (suc n) all = all_append P (rows_below rows n) (rows n) (all_below P rows n (λ c h. all c (omega arith))) (all n (omega arith))

apart_below : (stamp m : ℕ) (rows : ℕ → List Kept) → AreCells m stamp rows → (n : ℕ) → Apart (rows_below rows n)
apart_below stamp m rows are zero = tt
apart_below stamp m rows are (suc n) =
    apart_append (rows_below rows n) (rows n) (apart_below stamp m rows are n) (rising_apart (rows n) (are.rising n))
    (all_below (λ k. AllByRecursion (λ l. k.born ≢ l.born) (rows n)) rows n (λ c h. are.apart c n (omega arith)))

pub rising-all_kept : (n stamp : ℕ) (rows : ℕ → List Kept) → AreCells n stamp rows → Rising (all_kept rows n)
unfolding all_kept
rising-all_kept n stamp rows are = rising_sorted (rows_below rows n) (apart_below stamp n rows are n)

pub all-all_kept : (P : Kept → Type 0) (rows : ℕ → List Kept) (n : ℕ) → ((c : ℕ) → AllByRecursion P (rows c)) → AllByRecursion P (all_kept rows n)
unfolding all_kept
all-all_kept P rows n all = all-sorted P born_cmp (rows_below rows n) (all_below P rows n (λ c h. all c))

-- ---- a list that rises is determined by what each cell has of it

-- a row with which some cell's rows begin is at the front or behind it
not_before : (x y : Kept) (xs ys : List Kept) → AllByRecursion (λ l. y.born < l.born) ys → (y.row.cell == x.row.cell) ≡ false
    → x ∷ xs ≡ kept_in x.row.cell (y ∷ ys) → y.born < x.born
not_before x y xs ys behind other same =
    let here : x ∷ xs ≡ kept_in x.row.cell ys = same ∙ filter_no (λ k. k.row.cell == x.row.cell) y ys other in
    (subst (AllByRecursion (λ l. y.born < l.born)) (sym here) (all_filter (λ l. y.born < l.born) (λ k. k.row.cell == x.row.cell) ys behind)).0

own_first : (x : Kept) (xs : List Kept) → kept_in x.row.cell (x ∷ xs) ≡ x ∷ kept_in x.row.cell xs
own_first x xs = filter_yes (λ k. k.row.cell == x.row.cell) x xs (own_cell x.row.cell x refl)

heads_same : (x y : Kept) (xs ys : List Kept) → AllByRecursion (λ l. x.born < l.born) xs → AllByRecursion (λ l. y.born < l.born) ys
    → ((c : ℕ) → kept_in c (x ∷ xs) ≡ kept_in c (y ∷ ys)) → x ≡ y
heads_same x y xs ys after_x after_y same = elim (cases_Bool (y.row.cell == x.row.cell)) [
  | inl one ↦ (let e : x ∷ kept_in x.row.cell xs ≡ y ∷ kept_in x.row.cell ys = sym (own_first x xs) ∙ same x.row.cell ∙ filter_yes (λ k. k.row.cell == x.row.cell) y ys one in cc)
  | inr two ↦ elim (cases_Bool (x.row.cell == y.row.cell)) [
    | inl one ↦ absurd (let e : x.row.cell ≡ y.row.cell = grind (arith, common_steps) in let t : (y.row.cell == x.row.cell) ≡ true = own_cell x.row.cell y (sym e) in cc)
    | inr also ↦
        let first : y.born < x.born = not_before x y (kept_in x.row.cell xs) ys after_y two (sym (own_first x xs) ∙ same x.row.cell) in
        let second : x.born < y.born = not_before y x (kept_in y.row.cell ys) xs after_x also (sym (own_first y ys) ∙ sym (same y.row.cell)) in
        absurd (omega arith)
  ]
]

tails_same : (x : Kept) (xs ys : List Kept) (c : ℕ) → kept_in c (x ∷ xs) ≡ kept_in c (x ∷ ys) → kept_in c xs ≡ kept_in c ys
tails_same x xs ys c same = elim (cases_Bool (x.row.cell == c)) [
  | inl one ↦ (let e : x ∷ kept_in c xs ≡ x ∷ kept_in c ys = simp one at same in cc)
  | inr two ↦ simp two at same
]

pub same_by_cell : (xs ys : List Kept) → Rising xs → Rising ys → ((c : ℕ) → kept_in c xs ≡ kept_in c ys) → xs ≡ ys
same_by_cell [] [] h k same = refl
same_by_cell [] (y ∷ ys) h k same = (let e : [] ≡ y ∷ kept_in y.row.cell ys = same y.row.cell ∙ own_first y ys in cc)
same_by_cell (x ∷ xs) [] h k same = (let e : [] ≡ x ∷ kept_in x.row.cell xs = sym (same x.row.cell) ∙ own_first x xs in cc)
same_by_cell (x ∷ xs) (y ∷ ys) h k same =
    let head : x ≡ y = heads_same x y xs ys h.0 k.0 same in
    ap₂ (λ (z : Kept) (zs : List Kept). z ∷ zs) head
    (same_by_cell xs ys h.1 k.1 (λ c. tails_same x xs ys c (same c ∙ ap (λ z. kept_in c (z ∷ ys)) (sym head))))

-- the list of all rows is the one that rises and has the rows of each cell
pub all_kept_is : (n stamp : ℕ) (rows : ℕ → List Kept) (ys : List Kept) → AreCells n stamp rows → Rising ys → ((c : ℕ) → kept_in c ys ≡ rows c) → all_kept rows n ≡ ys
all_kept_is n stamp rows ys are rising same =
    same_by_cell (all_kept rows n) ys (rising-all_kept n stamp rows are) rising (λ c. kept_in-all_kept n stamp rows are c ∙ sym (same c))
