-- The table of all cells when one entry changes.
use Rattle.cell_store.proofs.Words.{◌≡◌, ◌≢◌, ◌⊎◌, ℕ, ◌<◌, ◌≤◌, List, [], ◌∷◌, length, set, refl, sym, ap, ◌∙◌, subst, arith, inl, inr, Option, Some, None, map, AllByRecursion, cases_lt, eqb_tells, get_or_past, get_or-set_same, get_or-set_other, length-set, numbers_below, AreCodeWords, IsCode, code_of_words, Table, rows_for, rows_of, Coded, Slot, Rows, IsNewEntry, HasCodes, IsCounted, HasEntry, AreEntries, key_at, under, entry_at, found_in, rows_in, rows_at_cell}
use Rattle.std.proofs.lemmas.List.FromFn.{length-map-range_with_len, get_or-map-range_with_len}
use Rattle.slab.specs.Slab.{Slab, get as slab_get, with_value, Updates}
use Rattle.slab.proofs.SlabLemmas.{Updates-with_value}
use Rattle.shape_core.proofs.Codes.{IsCode-code_of_words}
use Rattle.cell_store.specs.Tables.{table_of}
use Rattle.cell_store.proofs.FinishLemmas.{some_same}
use Rattle.cell_store.proofs.OwnRows.{own_codes}

no_some : {P : Type 0} {X : Type 0} (x : X) → None ≡ Some x → P
no_some x e = cc

-- a place of the table
pub table_at : (widths : List ℕ) (g : ℕ) (keys : List (Option ℕ)) (slab : Slab Rows) (c : ℕ) → rows_for (table_of widths g keys slab) c ≡ rows_at_cell widths keys slab c
unfolding table_of
table_at widths g keys slab c = elim (cases_lt c (length keys)) [
  | inl below ↦ get_or-map-range_with_len (rows_at_cell widths keys slab) 0 (length keys) c c [] below (omega arith)
  | inr past ↦
      rw (get_or_past (map (rows_at_cell widths keys slab) (numbers_below (length keys))) c [] (omega (arith, past, length-map-range_with_len (rows_at_cell widths keys slab) 0 (length keys))), get_or_past keys c None past)
]

pub table_g : (widths : List ℕ) (g : ℕ) (keys : List (Option ℕ)) (slab : Slab Rows) → (table_of widths g keys slab).g ≡ g
unfolding table_of
table_g widths g keys slab = refl

-- a table that is shown
module _ {widths : List ℕ} {g : ℕ} {keys : List (Option ℕ)} {slab : Slab Rows} {shown : Table} (are : AreEntries widths g keys slab) (is : table_of widths g keys slab ≡ shown) where
  pub shown_at : (c : ℕ) → rows_for shown c ≡ rows_at_cell widths keys slab c
  shown_at c = ap (λ (t : Table). rows_for t c) (sym is) ∙ table_at widths g keys slab c

  pub shown_g : shown.g ≡ g
  shown_g = ap (λ (t : Table). t.g) (sym is) ∙ table_g widths g keys slab

-- the key that was read
pub key_is : {keys read : List (Option ℕ)} {o k : Option ℕ} (cell : ℕ) → read ≡ keys → o ≡ key_at read cell → o ≡ k → key_at keys cell ≡ k
key_is cell same at is = ap (λ l. key_at l cell) (sym same) ∙ sym at ∙ is

-- ---- keys and entries that are the same

pub AreEntries-same : {widths : List ℕ} {g : ℕ} {keys keys' : List (Option ℕ)} {slab slab' : Slab Rows} → AreEntries widths g keys slab → ((c : ℕ) → key_at keys' c ≡ key_at keys c) → length keys' ≤ 1048576
    → ((key : ℕ) → slab_get slab' key ≡ slab_get slab key) → AreEntries widths g keys' slab'
AreEntries-same are keys few entries = record {
  g_small = are.g_small;
  few = few;
  entry = λ c key is.
      let e = are.entry c key (sym (keys c) ∙ is) in
      record { rows = e.rows; is = entries key ∙ e.is; codes = e.codes; counted = e.counted };
  apart = λ c e key is also. are.apart c e key (sym (keys c) ∙ is) (sym (keys e) ∙ also);
}

under_same : (widths : List ℕ) (slab slab' : Slab Rows) → ((key : ℕ) → slab_get slab' key ≡ slab_get slab key) → (c : ℕ) (o : Option ℕ) → found_in widths c (under slab' o) ≡ found_in widths c (under slab o)
under_same widths slab slab' same c None = refl
under_same widths slab slab' same c (Some key) = ap (found_in widths c) (same key)

pub rows_same : (widths : List ℕ) (keys keys' : List (Option ℕ)) (slab slab' : Slab Rows) → ((c : ℕ) → key_at keys' c ≡ key_at keys c) → ((key : ℕ) → slab_get slab' key ≡ slab_get slab key)
    → (c : ℕ) → rows_at_cell widths keys' slab' c ≡ rows_at_cell widths keys slab c
rows_same widths keys keys' slab slab' same entries c = under_same widths slab slab' entries c (key_at keys' c) ∙ ap (λ (o : Option ℕ). found_in widths c (under slab o)) (same c)

-- ---- the entry of a cell

found_codes : (widths : List ℕ) (g : ℕ) (slab : Slab Rows) (o : Option ℕ) → ((key : ℕ) → o ≡ Some key → HasEntry widths g slab key) → (rows : Rows) → under slab o ≡ Some rows → HasCodes widths g rows × IsCounted rows
found_codes widths g slab None own rows is = no_some rows is
found_codes widths g slab (Some key) own rows is =
    let e = own key refl in
    let same : e.rows ≡ rows = some_same (sym e.is ∙ is) in
    (subst (HasCodes widths g) same e.codes, subst IsCounted same e.counted)

pub found_good : {widths : List ℕ} {g : ℕ} {keys : List (Option ℕ)} {slab : Slab Rows} → AreEntries widths g keys slab → (c : ℕ) (rows : Rows) → entry_at keys slab c ≡ Some rows → HasCodes widths g rows × IsCounted rows
found_good {widths} {g} {keys} {slab} are c rows is = found_codes widths g slab (key_at keys c) (are.entry c) rows is

-- ---- a new entry

module _ {widths : List ℕ} {g : ℕ} {keys : List (Option ℕ)} {slab slab' : Slab Rows} (are : AreEntries widths g keys slab) (cell key : ℕ)
    (small : cell < length keys) (none : key_at keys cell ≡ None) (made : IsNewEntry g slab slab' key) where
  new_entry : HasEntry widths g slab' key
  new_entry = record {
    rows = made.rows;
    is = made.updates.changed;
    codes = record {
      g_is = ap (λ (v : Coded). v.g) made.codes;
      room = rw made.slots (omega arith);
      words = rw made.codes tt;
    };
    counted = rw made.slots made.live;
  }

  other_key : (c k : ℕ) → key_at keys c ≡ Some k → k ≢ key
  other_key c k is = λ same. no_some (are.entry c k is).rows (sym made.vacant ∙ ap (slab_get slab) (sym same) ∙ (are.entry c k is).is)

  pub own_key : key_at (set keys cell (Some key)) cell ≡ Some key
  own_key = get_or-set_same keys cell (Some key) None small

  -- the key of a cell, and that it is another cell where the key is another one
  which : (c k : ℕ) → key_at (set keys cell (Some key)) c ≡ Some k → ((c ≡ cell) × (key ≡ k)) ⊎ (key_at keys c ≡ Some k)
  which c k is = elim (eqb_tells c cell) [
    | inl at ↦ inl (at.1, some_same (sym own_key ∙ ap (key_at (set keys cell (Some key))) (sym at.1) ∙ is))
    | inr off ↦ inr (sym (get_or-set_other keys cell c (Some key) None off.1) ∙ is)
  ]

  pub AreEntries-made : AreEntries widths g (set keys cell (Some key)) slab'
  AreEntries-made = record {
    g_small = are.g_small;
    few = omega (arith, length-set keys cell (Some key), are.few);
    entry = λ c k is. elim (which c k is) [
      | inl own ↦ subst (HasEntry widths g slab') own.1 new_entry
      | inr old ↦
          let e = are.entry c k old in
          record { rows = e.rows; is = made.updates.others k (other_key c k old) ∙ e.is; codes = e.codes; counted = e.counted }
    ];
    apart = λ c e k is also. elim (which c k is) [
      | inl own ↦ elim (which e k also) [ inl too ↦ own.0 ∙ sym too.0 | inr old ↦ absurd (other_key e k old (sym own.1)) ]
      | inr old ↦ elim (which e k also) [ inl own ↦ absurd (other_key c k old (sym own.1)) | inr too ↦ are.apart c e k old too ]
    ];
  }

  same_entry : (c : ℕ) (o : Option ℕ) → key_at keys c ≡ o → found_in widths c (under slab' o) ≡ found_in widths c (under slab o)
  same_entry c None is = refl
  same_entry c (Some k) is = ap (found_in widths c) (made.updates.others k (other_key c k is))

  -- each cell has its rows
  pub same_rows : (c : ℕ) → rows_at_cell widths (set keys cell (Some key)) slab' c ≡ rows_at_cell widths keys slab c
  same_rows c = elim (eqb_tells c cell) [
    | inl at ↦ rw (at.1, own_key, made.updates.changed, made.slots, none)
    | inr off ↦ rw (get_or-set_other keys cell c (Some key) None off.1) (same_entry c (key_at keys c) refl)
  ]

-- ---- an entry that changes

-- the entry of a cell under its key, beside a table that is shown
pub record IsEntry (widths : List ℕ) (g : ℕ) (keys : List (Option ℕ)) (slab : Slab Rows) (shown : Table) (cell key : ℕ) (was : Rows) : Type 0 where
  pub are : AreEntries widths g keys slab
  pub at : key_at keys cell ≡ Some key
  pub found : slab_get slab key ≡ Some was
  pub rows : (c : ℕ) → rows_for shown c ≡ rows_at_cell widths keys slab c
  pub g_is : shown.g ≡ g

module _ {widths : List ℕ} {g : ℕ} {keys : List (Option ℕ)} {slab : Slab Rows} {shown : Table} {cell key : ℕ} {was : Rows} (e : IsEntry widths g keys slab shown cell key was) where
  good : HasCodes widths g was × IsCounted was
  good = found_good e.are cell was (ap (under slab) e.at ∙ e.found)

  pub entry_counted : IsCounted was
  entry_counted = good.1

  pub entry_codes : HasCodes widths was.codes.g was
  entry_codes = own_codes good.0

  pub entry_g : shown.g ≡ was.codes.g
  entry_g = e.g_is ∙ sym good.0.g_is

  pub rows_before : rows_for shown cell ≡ rows_in widths cell was
  rows_before = e.rows cell ∙ rw (e.at, e.found)

  module _ (now : Rows) where
    updates : Updates slab (with_value slab key now) key (Some now)
    updates = Updates-with_value slab key now (rw e.found refl)

    away : (c k : ℕ) → c ≢ cell → key_at keys c ≡ Some k → slab_get (with_value slab key now) k ≡ slab_get slab k
    away c k differ is = updates.others k (λ same. differ (e.are.apart c cell key (is ∙ ap Some same) e.at))

    stays : (c : ℕ) → c ≢ cell → (o : Option ℕ) → key_at keys c ≡ o → found_in widths c (under (with_value slab key now) o) ≡ found_in widths c (under slab o)
    stays c differ None is = refl
    stays c differ (Some k) is = ap (found_in widths c) (away c k differ is)

    pub AreEntries-changed : HasCodes widths was.codes.g now → IsCounted now → AreEntries widths g keys (with_value slab key now)
    AreEntries-changed codes counted = record {
      g_small = e.are.g_small;
      few = e.are.few;
      entry = λ c k is. elim (eqb_tells c cell) [
        | inl here ↦
            subst (HasEntry widths g (with_value slab key now)) (some_same (sym e.at ∙ ap (key_at keys) (sym here.1) ∙ is))
            (record { rows = now; is = updates.changed; codes = subst (λ (n : ℕ). HasCodes widths n now) good.0.g_is codes; counted = counted })
        | inr off ↦
            let h = e.are.entry c k is in
            record { rows = h.rows; is = away c k off.1 is ∙ h.is; codes = h.codes; counted = h.counted }
      ];
      apart = e.are.apart;
    }

    pub rows_now : rows_for (table_of widths g keys (with_value slab key now)) cell ≡ rows_in widths cell now
    rows_now = table_at widths g keys (with_value slab key now) cell ∙ rw (e.at, updates.changed)

    pub rows_others : (c : ℕ) → c ≢ cell → rows_for (table_of widths g keys (with_value slab key now)) c ≡ rows_for shown c
    rows_others c differ = table_at widths g keys (with_value slab key now) c ∙ stays c differ (key_at keys c) refl ∙ sym (e.rows c)

    pub g_now : (table_of widths g keys (with_value slab key now)).g ≡ shown.g
    g_now = table_g widths g keys (with_value slab key now) ∙ sym e.g_is

-- ---- codes that fit

fit_rows : (widths : List ℕ) (g cell : ℕ) (slots : List Slot) (codes : List (List ℕ)) → AllByRecursion (AreCodeWords widths g) codes → AllByRecursion (λ k. IsCode widths g k.row.code) (rows_of widths cell slots codes)
fit_rows widths g cell [] codes all = tt
fit_rows widths g cell (s ∷ slots) [] all = tt
fit_rows widths g cell (s ∷ slots) (c ∷ codes) all = (subst (λ (n : ℕ). IsCode widths n (code_of_words widths c)) all.0.count (IsCode-code_of_words widths c), fit_rows widths g cell slots codes all.1)

fit_entry : (widths : List ℕ) (g c : ℕ) (slab : Slab Rows) (o : Option ℕ) → ((key : ℕ) → o ≡ Some key → HasEntry widths g slab key) → AllByRecursion (λ k. IsCode widths g k.row.code) (found_in widths c (under slab o))
fit_entry widths g c slab None own = tt
fit_entry widths g c slab (Some key) own = (let e = own key refl in rw e.is (fit_rows widths g c e.rows.slots.items e.rows.codes.codes e.codes.words))

pub fit_all : {widths : List ℕ} {g : ℕ} {keys : List (Option ℕ)} {slab : Slab Rows} → AreEntries widths g keys slab → (c : ℕ) → AllByRecursion (λ k. IsCode widths g k.row.code) (rows_at_cell widths keys slab c)
fit_all {widths} {g} {keys} {slab} are c = fit_entry widths g c slab (key_at keys c) (are.entry c)

-- a cell with rows has a key
pub has_key : (widths : List ℕ) (keys : List (Option ℕ)) (slab : Slab Rows) (c : ℕ) → 0 < length (rows_at_cell widths keys slab c) → key_at keys c ≢ None
has_key widths keys slab c some = λ none. absurd (omega (arith, some, ap (λ (o : Option ℕ). length (found_in widths c (under slab o))) none))

-- a cell past the table
pub past_rows : (widths : List ℕ) (keys : List (Option ℕ)) (slab : Slab Rows) (c : ℕ) → length keys ≤ c → rows_at_cell widths keys slab c ≡ []
past_rows widths keys slab c past = ap (λ (o : Option ℕ). found_in widths c (under slab o)) (get_or_past keys c None past)
