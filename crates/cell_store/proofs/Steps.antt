-- What the one list of rows becomes when one cell changes.
use Rattle.cell_store.proofs.Words.{all_swap, all_middle, all_push, all_filter, all_weaken, filter_yes, filter_no, ◌≡◌, ◌≢◌, ℕ, ◌+◌, ◌<◌, ◌≤◌, Bool, true, List, [], ◌∷◌, ◌++◌, refl, sym, ap, ap₂, ◌∙◌, subst, arith, inl, inr, filter, ◌==◌, AllByRecursion, cases_Bool, eqb_tells, append-nil, Kept, never, kept_in, Rising, IsDated, ended, all_kept, AreCells, Replaces}
use Rattle.cell_store.proofs.Merge.{kept_in-append, kept_in-all_kept, rising-all_kept, all-all_kept, all_kept_is, own_cell, other_cell}

-- two lists that are apart, told from the other one
swap_apart : (xs ys : List Kept) → AllByRecursion (λ k. AllByRecursion (λ l. k.born ≢ l.born) ys) xs → AllByRecursion (λ k. AllByRecursion (λ l. k.born ≢ l.born) xs) ys
swap_apart xs [] all = tt
swap_apart xs (y ∷ ys) all = (
  all_weaken (λ l. y.born ≢ l.born) (λ k. AllByRecursion (λ l. k.born ≢ l.born) (y ∷ ys)) xs (λ k here e. here.0 (sym e)) all,
  swap_apart xs ys (all_weaken (λ k. AllByRecursion (λ l. k.born ≢ l.born) ys) (λ k. AllByRecursion (λ l. k.born ≢ l.born) (y ∷ ys)) xs (λ k here. here.1) all),
)

-- what holds of the rows of one cell and of the others
pub replaced : (P : ℕ → List Kept → Type 0) (cell : ℕ) (old new : ℕ → List Kept) (rows : List Kept) → Replaces cell old new rows → P cell rows → ((c : ℕ) → c ≢ cell → P c (old c)) → (c : ℕ) → P c (new c)
replaced P cell old new rows changes here there c = elim (eqb_tells c cell) [
  | inl at ↦ subst (λ (e : ℕ). P e (new e)) (sym at.1) (subst (P cell) (sym changes.own) here)
  | inr off ↦ subst (P c) (sym (changes.others c off.1)) (there c off.1)
]

-- what the rows of one cell have to be
pub record IsCell (n stamp cell : ℕ) (rows : ℕ → List Kept) (new : List Kept) : Type 0 where
  pub of_cell : AllByRecursion (λ k. k.row.cell ≡ cell) new
  pub rising : Rising new
  pub apart : (e : ℕ) → cell ≢ e → AllByRecursion (λ k. AllByRecursion (λ l. k.born ≢ l.born) (rows e)) new
  pub dated : AllByRecursion (IsDated stamp) new
  pub ids : AllByRecursion (λ k. k.row.id ≤ 2147483647) new

module _ (n stamp next cell : ℕ) (old new : ℕ → List Kept) (rows : List Kept) (are : AreCells n stamp old) (later : stamp ≤ next) (small : cell < n)
    (changes : Replaces cell old new rows) (is : IsCell n next cell old rows) where
  by_cell : (P : ℕ → List Kept → Type 0) → P cell rows → ((c : ℕ) → c ≢ cell → P c (old c)) → (c : ℕ) → P c (new c)
  by_cell P = replaced P cell old new rows changes

  still_dated : (k : Kept) → IsDated stamp k → IsDated next k
  still_dated k d = record { born = (let h : k.born ≤ stamp = d.born in omega arith); died = elim d.died [ inl live ↦ inl live | inr died ↦ inr (omega arith) ] }

  pub AreCells-replaced : AreCells n next new
  AreCells-replaced = record {
    of_cell = by_cell (λ c xs. AllByRecursion (λ k. k.row.cell ≡ c) xs) is.of_cell (λ c h. are.of_cell c);
    none_past = λ c h. changes.others c (omega arith) ∙ are.none_past c h;
    rising = by_cell (λ c xs. Rising xs) is.rising (λ c h. are.rising c);
    apart = λ c e differ. elim (eqb_tells c cell) [
      | inl at ↦
          let off : e ≢ cell = (λ same. differ (at.1 ∙ sym same)) in
          subst (λ xs. AllByRecursion (λ k. AllByRecursion (λ l. k.born ≢ l.born) (new e)) xs) (sym (ap new at.1 ∙ changes.own))
          (subst (λ ys. AllByRecursion (λ k. AllByRecursion (λ l. k.born ≢ l.born) ys) rows) (sym (changes.others e off)) (is.apart e (λ same. off (sym same))))
      | inr off ↦
          subst (λ xs. AllByRecursion (λ k. AllByRecursion (λ l. k.born ≢ l.born) (new e)) xs) (sym (changes.others c off.1))
          (by_cell (λ e ys. c ≢ e → AllByRecursion (λ k. AllByRecursion (λ l. k.born ≢ l.born) ys) (old c))
          (λ h. swap_apart rows (old c) (is.apart c (λ same. h (sym same)))) (λ e' h h'. are.apart c e' h') e differ)
    ];
    dated = by_cell (λ c xs. AllByRecursion (IsDated next) xs) is.dated (λ c h. all_weaken (IsDated next) (IsDated stamp) (old c) still_dated (are.dated c));
    ids = by_cell (λ c xs. AllByRecursion (λ k. k.row.id ≤ 2147483647) xs) is.ids (λ c h. are.ids c);
  }

  -- and the list of all is any that rises and has the rows of each cell
  pub all_kept-replaced : (ys : List Kept) → Rising ys → kept_in cell ys ≡ rows → ((c : ℕ) → c ≢ cell → kept_in c ys ≡ old c) → all_kept new n ≡ ys
  all_kept-replaced ys rising here there =
      all_kept_is n next new ys AreCells-replaced rising (by_cell (λ c xs. kept_in c ys ≡ xs) here there)

-- ---- a row that is added

rising_push : (xs : List Kept) (k : Kept) → Rising xs → AllByRecursion (λ l. l.born < k.born) xs → Rising (xs ++ k ∷ [])
rising_push [] k h below = (tt, tt)
rising_push (x ∷ xs) k h below = (all_push (λ l. x.born < l.born) xs k h.0 below.0, rising_push xs k h.1 below.1)

-- a row that is born now
pub record IsNew (n stamp cell : ℕ) (k : Kept) : Type 0 where
  pub in_cell : k.row.cell ≡ cell
  pub born : k.born ≡ stamp + 1
  pub live : k.died ≡ never
  pub id : k.row.id ≤ 2147483647

module _ (n stamp cell : ℕ) (old new : ℕ → List Kept) (k : Kept) (are : AreCells n stamp old) (small : cell < n) (is : IsNew n stamp cell k)
    (changes : Replaces cell old new (old cell ++ k ∷ [])) where
  older : (c : ℕ) → AllByRecursion (λ l. l.born < k.born) (old c)
  older c = all_weaken (λ l. l.born < k.born) (IsDated stamp) (old c) (λ l d. (let h : l.born ≤ stamp = d.born in let e : k.born ≡ stamp + 1 = is.born in omega arith)) (are.dated c)

  IsCell-added : IsCell n (stamp + 1) cell old (old cell ++ k ∷ [])
  IsCell-added = record {
    of_cell = all_push (λ l. l.row.cell ≡ cell) (old cell) k (are.of_cell cell) is.in_cell;
    rising = rising_push (old cell) k (are.rising cell) (older cell);
    apart = λ e differ. all_push (λ k. AllByRecursion (λ l. k.born ≢ l.born) (old e)) (old cell) k (are.apart cell e differ)
        (all_weaken (λ l. k.born ≢ l.born) (λ l. l.born < k.born) (old e) (λ l h. omega arith) (older e));
    dated = all_push (IsDated (stamp + 1)) (old cell) k
        (all_weaken (IsDated (stamp + 1)) (IsDated stamp) (old cell) (λ l d. record { born = (let h : l.born ≤ stamp = d.born in omega arith); died = elim d.died [ inl live ↦ inl live | inr died ↦ inr (omega arith) ] }) (are.dated cell))
        (record { born = (let e : k.born ≡ stamp + 1 = is.born in omega arith); died = inl is.live });
    ids = all_push (λ l. l.row.id ≤ 2147483647) (old cell) k (are.ids cell) is.id;
  }

  pub AreCells-added : AreCells n (stamp + 1) new
  AreCells-added = AreCells-replaced n stamp (stamp + 1) cell old new (old cell ++ k ∷ []) are (omega arith) small changes IsCell-added

  pub all_kept-added : all_kept new n ≡ all_kept old n ++ k ∷ []
  all_kept-added =
      all_kept-replaced n stamp (stamp + 1) cell old new (old cell ++ k ∷ []) are (omega arith) small changes IsCell-added (all_kept old n ++ k ∷ [])
      (rising_push (all_kept old n) k (rising-all_kept n stamp old are) (all-all_kept (λ l. l.born < k.born) old n older))
      (kept_in-append cell (all_kept old n) (k ∷ [])
      ∙ ap₂ (λ (xs ys : List Kept). xs ++ ys) (kept_in-all_kept n stamp old are cell) (filter_yes (λ l. l.row.cell == cell) k [] (own_cell cell k is.in_cell)))
      (λ c differ.
      kept_in-append c (all_kept old n) (k ∷ [])
      ∙ ap₂ (λ (xs ys : List Kept). xs ++ ys) (kept_in-all_kept n stamp old are c) (filter_no (λ l. l.row.cell == c) k [] (other_cell c cell k is.in_cell differ))
      ∙ append-nil (old c))

-- ---- a row that ends

rising_ended : (s : ℕ) (xs : List Kept) (x : Kept) (ys : List Kept) → Rising (xs ++ x ∷ ys) → Rising (xs ++ ended s x ∷ ys)
rising_ended s [] x ys h = h
rising_ended s (z ∷ xs) x ys h = (all_swap (λ l. z.born < l.born) xs x (ended s x) ys (λ e. e) h.0, rising_ended s xs x ys h.1)

-- a row of a cell in the list of all
pub record IsAmid (cell : ℕ) (all front : List Kept) (x : Kept) (back : List Kept) : Type 0 where
  pub before : List Kept
  pub after : List Kept
  pub all_is : all ≡ before ++ x ∷ after
  pub front_is : kept_in cell before ≡ front
  pub back_is : kept_in cell after ≡ back

amid_more : (cell : ℕ) (z : Kept) (all front : List Kept) (x : Kept) (back : List Kept) → IsAmid cell all front x back → (new : List Kept) → kept_in cell (z ∷ []) ++ front ≡ new → IsAmid cell (z ∷ all) new x back
amid_more cell z all front x back is new same = record {
  before = z ∷ is.before;
  after = is.after;
  all_is = ap (λ l. z ∷ l) is.all_is;
  front_is = kept_in-append cell (z ∷ []) is.before ∙ ap (λ l. kept_in cell (z ∷ []) ++ l) is.front_is ∙ same;
  back_is = is.back_is;
}

amid_here : (cell : ℕ) (z : Kept) (all front : List Kept) (x : Kept) (back : List Kept) → z ∷ kept_in cell all ≡ front ++ x ∷ back → (z.row.cell == cell) ≡ true
    → ((front' : List Kept) → kept_in cell all ≡ front' ++ x ∷ back → IsAmid cell all front' x back) → IsAmid cell (z ∷ all) front x back
amid_here cell z all [] x back h one rest = record {
  before = [];
  after = all;
  all_is = (let e : z ≡ x = cc in ap (λ y. y ∷ all) e);
  front_is = refl;
  back_is = (let e : kept_in cell all ≡ back = cc in e);
}
amid_here cell z all (f ∷ front) x back h one rest =
    let e : z ≡ f = cc in
    let tail : kept_in cell all ≡ front ++ x ∷ back = cc in
    amid_more cell z all front x back (rest front tail) (f ∷ front) (ap (λ l. l ++ front) (filter_yes (λ k. k.row.cell == cell) z [] one) ∙ ap (λ y. y ∷ front) e)

pub amid : (cell : ℕ) (all front : List Kept) (x : Kept) (back : List Kept) → kept_in cell all ≡ front ++ x ∷ back → IsAmid cell all front x back
amid cell [] [] x back h = absurd (let e : [] ≡ x ∷ back = h in cc)
amid cell [] (f ∷ front) x back h = absurd (let e : [] ≡ f ∷ (front ++ x ∷ back) = h in cc)
amid cell (z ∷ all) front x back h = elim (cases_Bool (z.row.cell == cell)) [
  | inl one ↦ amid_here cell z all front x back (sym (filter_yes (λ k. k.row.cell == cell) z all one) ∙ h) one (λ front' h'. amid cell all front' x back h')
  | inr two ↦
      amid_more cell z all front x back (amid cell all front x back (sym (filter_no (λ k. k.row.cell == cell) z all two) ∙ h)) front
      (ap (λ l. l ++ front) (filter_no (λ k. k.row.cell == cell) z [] two))
]

module _ (n stamp s cell : ℕ) (old new : ℕ → List Kept) (front : List Kept) (x : Kept) (back : List Kept) (are : AreCells n stamp old) (small : cell < n)
    (was : old cell ≡ front ++ x ∷ back) (changes : Replaces cell old new (front ++ ended s x ∷ back)) (later : stamp ≤ s) where
  then : (P : Kept → Type 0) → AllByRecursion P (old cell) → (P x → P (ended s x)) → AllByRecursion P (front ++ ended s x ∷ back)
  then P all f = all_swap P front x (ended s x) back f (subst (AllByRecursion P) was all)

  IsCell-ended : IsCell n s cell old (front ++ ended s x ∷ back)
  IsCell-ended = record {
    of_cell = then (λ k. k.row.cell ≡ cell) (are.of_cell cell) (λ e. e);
    rising = rising_ended s front x back (subst Rising was (are.rising cell));
    apart = λ e differ. then (λ k. AllByRecursion (λ l. k.born ≢ l.born) (old e)) (are.apart cell e differ) (λ h. h);
    dated = then (IsDated s)
        (all_weaken (IsDated s) (IsDated stamp) (old cell) (λ l d. record { born = (let h : l.born ≤ stamp = d.born in omega arith); died = elim d.died [ inl live ↦ inl live | inr died ↦ inr (omega arith) ] }) (are.dated cell))
        (λ d. record { born = d.born; died = inr (omega arith) });
    ids = then (λ k. k.row.id ≤ 2147483647) (are.ids cell) (λ h. h);
  }

  pub AreCells-ended : AreCells n s new
  AreCells-ended = AreCells-replaced n stamp s cell old new (front ++ ended s x ∷ back) are later small changes IsCell-ended

  pub row_amid : IsAmid cell (all_kept old n) front x back
  row_amid = amid cell (all_kept old n) front x back (kept_in-all_kept n stamp old are cell ∙ was)

  cell_is : x.row.cell ≡ cell
  cell_is = all_middle (λ k. k.row.cell ≡ cell) front x back (subst (AllByRecursion (λ k. k.row.cell ≡ cell)) was (are.of_cell cell))

  pub all_kept-ended : (amidst : IsAmid cell (all_kept old n) front x back) → all_kept new n ≡ amidst.before ++ ended s x ∷ amidst.after
  all_kept-ended amidst =
      all_kept-replaced n stamp s cell old new (front ++ ended s x ∷ back) are later small changes IsCell-ended (amidst.before ++ ended s x ∷ amidst.after)
      (rising_ended s amidst.before x amidst.after (subst Rising amidst.all_is (rising-all_kept n stamp old are)))
      (kept_in-append cell amidst.before (ended s x ∷ amidst.after)
      ∙ ap₂ (λ (xs ys : List Kept). xs ++ ys) amidst.front_is
      (filter_yes (λ l. l.row.cell == cell) (ended s x) amidst.after (own_cell cell (ended s x) cell_is) ∙ ap (λ l. ended s x ∷ l) amidst.back_is))
      (λ c differ.
      kept_in-append c amidst.before (ended s x ∷ amidst.after)
      ∙ ap (λ l. kept_in c amidst.before ++ l) (filter_no (λ l. l.row.cell == c) (ended s x) amidst.after (other_cell c cell (ended s x) cell_is differ))
      ∙ ap (λ l. kept_in c amidst.before ++ l) (sym (filter_no (λ l. l.row.cell == c) x amidst.after (other_cell c cell x cell_is differ)))
      ∙ sym (kept_in-append c amidst.before (x ∷ amidst.after))
      ∙ ap (kept_in c) (sym amidst.all_is)
      ∙ kept_in-all_kept n stamp old are c)

-- ---- rows of a cell that are let go

pub rising_filter : (p : Kept → Bool) (xs : List Kept) → Rising xs → Rising (filter p xs)
rising_filter p [] h = tt
rising_filter p (x ∷ xs) h = elim (cases_Bool (p x)) [
  | inl held ↦ subst Rising (sym (filter_yes p x xs held)) (all_filter (λ l. x.born < l.born) p xs h.0, rising_filter p xs h.1)
  | inr gone ↦ subst Rising (sym (filter_no p x xs gone)) (rising_filter p xs h.1)
]
