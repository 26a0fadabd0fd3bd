-- The groups in which the table of ids has the live rows.
use Rattle.cell_store.proofs.Words.{◌≡◌, ◌≢◌, ◌⊎◌, ℕ, zero, suc, ◌+◌, ◌*◌, ◌<◌, ◌≤◌, Bool, true, false, List, [], ◌∷◌, ◌++◌, length, map, refl, sym, ap, ◌∙◌, subst, arith, inl, inr, filter, ◌==◌, ◌&&◌, Some, None, Option, is_some, if◌then◌else◌, cases_Bool, and_parts, length-append, length-map, get_or-map, get_or_append_left, filter_yes, filter_no, length_filter_le, all_at, Place, Kept, Slot, is_live, is_held, is_row_of, slot_of, slot_at, slot_is_live, row_at, no_row, IsIndex, IsTidied, Replaces, Ends, ended, AllByRecursion, all_swap, all_filter, SomeIndex}
use Rattle.std.proofs.Math.Seq.{get_or-append_seam}
use Rattle.std.specs.FinMap as fin
use Rattle.std.proofs.lemmas.Bool.{cond-true, cond-false, and_from, and_left, and_right, eqb-true, ne_eqb, false_from_ne_true, cases_eq, eq-eqb}
use Rattle.id_table.specs.declared.Place.{Place as Spot}
use Rattle.id_table.specs.Slots.{IsPlace}
use Rattle.id_table.specs.Table.{Places}
use Rattle.id_table.proofs.Maps.{insert_own, insert_other}
use Rattle.cell_store.specs.Groups.{listed_at, InGroup, Grouping, IsGrouped, slot_has, listed_anew}
use Rattle.cell_store.proofs.Index.{Listed, some_place, end_that, is_that, ended_that}
use Rattle.cell_store.proofs.FinishLemmas.{slot_at-map}
use Rattle.cell_store.proofs.Steps.{replaced}

some_spot : {x y : Spot} → Some x ≡ Some y → x ≡ y
some_spot e = cc

-- an index with another answer at an id
abbrev pub with_place : (ℕ → Option Place) → ℕ → Option Place → ℕ → Option Place
with_place places id o q = if q == id then o else places q

pub with_own : (places : ℕ → Option Place) (id : ℕ) (o : Option Place) → with_place places id o id ≡ o
with_own places id o = cond-true (id == id) o (places id) (eq-eqb id id refl)

pub with_others : (places : ℕ → Option Place) (id : ℕ) (o : Option Place) (q : ℕ) → q ≢ id → with_place places id o q ≡ places q
with_others places id o q off = cond-false (q == id) o (places q) (ne_eqb q id off)

-- a place that the table can hold
pub listed_small : (cell at : ℕ) → cell < 1048576 → at ≤ 16777280 → IsPlace (listed_at cell at)
listed_small cell at small few = record { cell = small; group = omega arith }

-- ---- what the table answers

pub none_grouped : (rows : ℕ → List Kept) (id : ℕ) (o : Option Place) (listed : Option Spot) → Grouping rows id o listed → listed ≡ None → o ≡ None
none_grouped rows id None listed is none = refl
none_grouped rows id (Some place) listed is none = (let e : None ≡ Some (listed_at place.cell is.at) = sym none ∙ is.is in cc)

pub listed_too : (rows : ℕ → List Kept) (id : ℕ) (o : Option Place) (listed : Option Spot) → Grouping rows id o listed → is_some listed ≡ is_some o
listed_too rows id None listed is = ap is_some is
listed_too rows id (Some place) listed is = ap is_some is.is

-- a live row of an id is that of the index
pub indexed : (rows : ℕ → List Kept) (places : ℕ → Option Place) → IsIndex rows places → (c at id : ℕ) → at < length (rows c) → is_row_of id (row_at (rows c) at) ≡ true → places id ≡ Some (record { cell = c; born = (row_at (rows c) at).born })
indexed rows places index c at id within row =
    let k : Kept = row_at (rows c) at in
    let parts = and_parts (is_live k) (k.row.id == id) row in
    ap places (sym (eqb-true k.row.id id parts.1)) ∙ all_at (Listed places c) (rows c) at no_row (index.listed c) within parts.0

-- no live row of the id in its group
pub no_row_in : (rows : ℕ → List Kept) (id : ℕ) (o : Option Place) (listed : Spot) → Grouping rows id o (Some listed)
    → ((k : ℕ) → listed.group * 2560 ≤ k → k < listed.group * 2560 + 2560 → k < length (rows listed.cell) → is_row_of id (row_at (rows listed.cell) k) ≡ false) → o ≡ None
no_row_in rows id None listed is none = refl
no_row_in rows id (Some place) listed is none =
    let same : listed ≡ listed_at place.cell is.at = some_spot is.is in
    let group : listed.group ≡ (listed_at place.cell is.at).group = ap (λ (s : Spot). s.group) same in
    let here : InGroup (rows listed.cell) id place (Some listed) = subst (λ (c : ℕ). InGroup (rows c) id place (Some listed)) (sym (ap (λ (s : Spot). s.cell) same)) is in
    let row : is_row_of id (row_at (rows listed.cell) is.at) ≡ true = subst (λ (c : ℕ). is_row_of id (row_at (rows c) is.at) ≡ true) (sym (ap (λ (s : Spot). s.cell) same)) (and_from _ _ is.live (eq-eqb _ id is.id_is)) in
    let within : is.at < length (rows listed.cell) = subst (λ (c : ℕ). is.at < length (rows c)) (sym (ap (λ (s : Spot). s.cell) same)) is.within in
    let e : true ≡ false = sym row ∙ none is.at (omega arith) (omega arith) within in
    cc

-- ---- the row that is found in its group

slot_row : (rows : List Kept) (slots : List Slot) (k id : ℕ) → slots ≡ map slot_of rows → k < length rows → slot_at slots k ≡ slot_of (row_at rows k)
slot_row rows slots k id same within = ap (λ (l : List Slot). slot_at l k) same ∙ slot_at-map rows k within

module _ (rows : ℕ → List Kept) (places : ℕ → Option Place) (ids : Places) (index : IsIndex rows places) (grouped : IsGrouped rows places ids) (id : ℕ) where
  pub found_row : (cell born : ℕ) (slots : List Slot) → slots ≡ map slot_of (rows cell) → SomeIndex slots (λ k. ((slot_at slots k).born ≡ born) × (slot_has id (slot_at slots k) ≡ true))
      → Some (record { cell = cell; born = born }) ≡ places id
  found_row cell born slots same found =
      let within : found.0 < length (rows cell) = omega (arith, found.1, ap length same, length-map (rows cell) slot_of) in
      let row = slot_row (rows cell) slots found.0 id same within in
      ap (λ (b : ℕ). Some (let p : Place = record { cell = cell; born = b } in p)) (sym found.2.0 ∙ ap (λ (s : Slot). s.born) row)
      ∙ sym (indexed rows places index cell found.0 id within (ap (slot_has id) (sym row) ∙ found.2.1))

  pub no_row_found : (listed : Spot) (slots : List Slot) → slots ≡ map slot_of (rows listed.cell) → fin.get ids id ≡ Some listed
      → ((k : ℕ) → listed.group * 2560 ≤ k → k < listed.group * 2560 + 2560 → k < length slots → slot_has id (slot_at slots k) ≡ false) → None ≡ places id
  no_row_found listed slots same there none = sym (no_row_in rows id (places id) listed (subst (λ (l : Option Spot). Grouping rows id (places id) l) there (grouped id)) (λ k low high within.
      let small : k < length slots = omega (arith, within, ap length same, length-map (rows listed.cell) slot_of) in
      ap (slot_has id) (sym (slot_row (rows listed.cell) slots k id same within)) ∙ none k low high small))

  pub no_rows_found : (listed : Spot) → rows listed.cell ≡ [] → fin.get ids id ≡ Some listed → None ≡ places id
  no_rows_found listed empty there = no_row_found listed [] (sym (ap (map slot_of) empty)) there (λ k low high within. absurd (omega arith))

  pub not_listed : fin.get ids id ≡ None → None ≡ places id
  not_listed none = sym (none_grouped rows id (places id) (fin.get ids id) (grouped id) none)

-- ---- a cell whose rows were listed anew

module _ (cell : ℕ) (slots : List Slot) (id : ℕ) where
  anew_none : (n : ℕ) → listed_anew cell slots n id None ≡ None
  anew_none zero = refl
  anew_none (suc n) = cond-false (slot_has id (slot_at slots n) && false) (Some (listed_at cell n)) (listed_anew cell slots n id None) (and_right (slot_has id (slot_at slots n)) false refl) ∙ anew_none n

  module _ (listed : Option Spot) where
    anew_other : (n : ℕ) → ((k : ℕ) → k < n → slot_has id (slot_at slots k) ≡ false) → listed_anew cell slots n id listed ≡ listed
    anew_other zero none = refl
    anew_other (suc n) none =
        cond-false (slot_has id (slot_at slots n) && is_some listed) (Some (listed_at cell n)) (listed_anew cell slots n id listed) (and_left (slot_has id (slot_at slots n)) (is_some listed) (none n (omega arith)))
        ∙ anew_other n (λ k less. none k (omega arith))

    anew_own : is_some listed ≡ true → (n at : ℕ) → at < n → slot_has id (slot_at slots at) ≡ true
        → (k : ℕ) × (k < n) × (slot_has id (slot_at slots k) ≡ true) × (listed_anew cell slots n id listed ≡ Some (listed_at cell k))
    anew_own there zero at within has = absurd (omega arith)
    anew_own there (suc n) at within has = elim (cases_Bool (slot_has id (slot_at slots n))) [
      | inl last ↦ (n, omega arith, last, cond-true (slot_has id (slot_at slots n) && is_some listed) (Some (listed_at cell n)) (listed_anew cell slots n id listed) (and_from _ _ last there))
      | inr other ↦
          let off : at ≢ n = λ same. (let e : true ≡ false = sym has ∙ ap (λ (k : ℕ). slot_has id (slot_at slots k)) same ∙ other in cc) in
          let more = anew_own there n at (omega arith) has in
          (more.0, omega (arith, more.1), more.2, cond-false (slot_has id (slot_at slots n) && is_some listed) (Some (listed_at cell n)) (listed_anew cell slots n id listed) (and_left _ _ other) ∙ more.3)
    ]

    anew_some : (n : ℕ) → is_some (listed_anew cell slots n id listed) ≡ is_some listed
    anew_some zero = refl
    anew_some (suc n) = elim (cases_Bool (slot_has id (slot_at slots n) && is_some listed)) [
      | inl so ↦ ap is_some (cond-true (slot_has id (slot_at slots n) && is_some listed) (Some (listed_at cell n)) (listed_anew cell slots n id listed) so) ∙ sym (and_parts _ _ so).1
      | inr other ↦ ap is_some (cond-false (slot_has id (slot_at slots n) && is_some listed) (Some (listed_at cell n)) (listed_anew cell slots n id listed) other) ∙ anew_some n
    ]

-- one slot more was listed anew
module _ (cell n : ℕ) (slots : List Slot) (ids ids' ids0 : Places) (s : Slot) (read : s ≡ slot_at slots n) (before : (id : ℕ) → fin.get ids id ≡ listed_anew cell slots n id (fin.get ids0 id)) where
  anew_past : (id : ℕ) → slot_has id s ≡ false → fin.get ids' id ≡ fin.get ids id → fin.get ids' id ≡ listed_anew cell slots (suc n) id (fin.get ids0 id)
  anew_past id other same =
      same ∙ before id
      ∙ sym (cond-false (slot_has id (slot_at slots n) && is_some (fin.get ids0 id)) (Some (listed_at cell n)) (listed_anew cell slots n id (fin.get ids0 id))
      (and_left _ _ (ap (slot_has id) (sym read) ∙ other)))

  pub anew_let : slot_is_live s ≡ false → ids' ≡ ids → (id : ℕ) → fin.get ids' id ≡ listed_anew cell slots (suc n) id (fin.get ids0 id)
  anew_let dead same id = anew_past id (and_left (slot_is_live s) (s.id == id) dead) (ap (λ (m : Places). fin.get m id) same)

  module _ (live : slot_is_live s ≡ true) (place : Spot) (place_is : place ≡ listed_at cell n) (set : ids' ≡ (if fin.contains_key ids s.id then fin.insert ids s.id place else ids)) where
    there : fin.contains_key ids s.id ≡ true → ids' ≡ fin.insert ids s.id place
    there so = set ∙ cond-true (fin.contains_key ids s.id) (fin.insert ids s.id place) ids so

    away : fin.contains_key ids s.id ≡ false → ids' ≡ ids
    away so = set ∙ cond-false (fin.contains_key ids s.id) (fin.insert ids s.id place) ids so

    listed_too_then : is_some (fin.get ids s.id) ≡ is_some (fin.get ids0 s.id)
    listed_too_then = ap is_some (before s.id) ∙ anew_some cell slots s.id (fin.get ids0 s.id) n

    own_set : fin.get ids' s.id ≡ listed_anew cell slots (suc n) s.id (fin.get ids0 s.id)
    own_set = elim (cases_Bool (fin.contains_key ids s.id)) [
      | inl so ↦
          ap (λ (m : Places). fin.get m s.id) (there so) ∙ insert_own ids s.id place ∙ ap (λ (p : Spot). Some p) place_is
          ∙ sym (cond-true (slot_has s.id (slot_at slots n) && is_some (fin.get ids0 s.id)) (Some (listed_at cell n)) (listed_anew cell slots n s.id (fin.get ids0 s.id))
          (and_from _ _ (ap (slot_has s.id) (sym read) ∙ and_from _ _ live (eq-eqb s.id s.id refl)) (sym listed_too_then ∙ so)))
      | inr no_place ↦
          ap (λ (m : Places). fin.get m s.id) (away no_place) ∙ before s.id
          ∙ sym (cond-false (slot_has s.id (slot_at slots n) && is_some (fin.get ids0 s.id)) (Some (listed_at cell n)) (listed_anew cell slots n s.id (fin.get ids0 s.id))
          (and_right _ _ (sym listed_too_then ∙ no_place)))
    ]

    other_same : (id : ℕ) → id ≢ s.id → fin.get ids' id ≡ fin.get ids id
    other_same id off = elim (cases_Bool (fin.contains_key ids s.id)) [
      | inl so ↦ ap (λ (m : Places). fin.get m id) (there so) ∙ insert_other ids s.id place id off
      | inr no_place ↦ ap (λ (m : Places). fin.get m id) (away no_place)
    ]

    pub anew_set : (id : ℕ) → fin.get ids' id ≡ listed_anew cell slots (suc n) id (fin.get ids0 id)
    anew_set id = elim (cases_eq id s.id) [
      | inl same ↦ subst (λ (q : ℕ). fin.get ids' q ≡ listed_anew cell slots (suc n) q (fin.get ids0 q)) (sym same) own_set
      | inr off ↦ anew_past id (and_right (slot_is_live s) (s.id == id) (ne_eqb s.id id (λ e. off (sym e)))) (other_same id off)
    ]

-- a filter that leaves as many leaves all
filter_whole : {X : Type 0} (p : X → Bool) (xs : List X) → length xs ≤ length (filter p xs) → filter p xs ≡ xs
filter_whole p [] whole = refl
filter_whole p (x ∷ xs) whole = elim (cases_Bool (p x)) [
  | inl kept ↦ filter_yes p x xs kept ∙ ap (λ l. x ∷ l) (filter_whole p xs (omega (arith, ap length (filter_yes p x xs kept), whole)))
  | inr gone ↦ absurd (omega (arith, ap length (filter_no p x xs gone), whole, length_filter_le p xs))
]

pub tidied_whole : (pins : List ℕ) (old new : List Kept) → IsTidied pins old new → length old ≤ length new → new ≡ old
tidied_whole pins old new is whole = elim is [ inl same ↦ same | inr less ↦ less ∙ filter_whole (is_held pins) old (omega (arith, whole, ap length less)) ]

module _ (rows mid : ℕ → List Kept) (places : ℕ → Option Place) (ids : Places) (grouped : IsGrouped mid places ids) where
  same_grouping : ((c : ℕ) → rows c ≡ mid c) → (id : ℕ) (o : Option Place) (listed : Option Spot) → Grouping mid id o listed → Grouping rows id o listed
  same_grouping same id None listed is = is
  same_grouping same id (Some place) listed is = subst (λ (xs : List Kept). InGroup xs id place listed) (sym (same place.cell)) is

  -- each cell has its rows
  pub grouped_same : ((c : ℕ) → rows c ≡ mid c) → IsGrouped rows places ids
  grouped_same same = λ id. same_grouping same id (places id) (fin.get ids id) (grouped id)

  module _ (cell : ℕ) (others : (c : ℕ) → c ≢ cell → rows c ≡ mid c) (index : IsIndex rows places) where
    abbrev anew : ℕ → ℕ → Option Spot
    anew c id = listed_anew c (map slot_of (rows c)) (length (map slot_of (rows c))) id (fin.get ids id)

    slot_is : (c at id : ℕ) → at < length (rows c) → slot_has id (slot_at (map slot_of (rows c)) at) ≡ is_row_of id (row_at (rows c) at)
    slot_is c at id within = ap (slot_has id) (slot_at-map (rows c) at within)

    own_cell : (id : ℕ) (place : Place) → places id ≡ Some place → is_some (fin.get ids id) ≡ true → InGroup (rows place.cell) id place (anew place.cell id)
    own_cell id place here there =
        let live = index.live id place here in
        let slots : List Slot = map slot_of (rows place.cell) in
        let size : length slots ≡ length (rows place.cell) = length-map (rows place.cell) slot_of in
        let has : slot_has id (slot_at slots live.0) ≡ true = slot_is place.cell live.0 id live.1 ∙ and_from _ _ live.4 (eq-eqb _ id live.3) in
        let own = anew_own place.cell slots id (fin.get ids id) there (length slots) live.0 (omega (arith, live.1, size)) has in
        let within : own.0 < length (rows place.cell) = omega (arith, own.1, size) in
        let row : is_row_of id (row_at (rows place.cell) own.0) ≡ true = sym (slot_is place.cell own.0 id within) ∙ own.2 in
        let parts = and_parts _ _ row in
        record {
          at = own.0;
          within = within;
          born = ap (λ (p : Place). p.born) (some_place (sym (indexed rows places index place.cell own.0 id within row) ∙ here));
          id_is = eqb-true _ id parts.1;
          live = parts.0;
          is = own.3;
        }

    other_cell : (id : ℕ) (place : Place) → places id ≡ Some place → place.cell ≢ cell → anew cell id ≡ fin.get ids id
    other_cell id place here off = anew_other cell (map slot_of (rows cell)) id (fin.get ids id) (length (map slot_of (rows cell))) (λ k less.
        let within : k < length (rows cell) = omega (arith, less, length-map (rows cell) slot_of) in
        false_from_ne_true _ (λ has.
        off (ap (λ (p : Place). p.cell) (some_place (sym here ∙ indexed rows places index cell k id within (sym (slot_is cell k id within) ∙ has))))))

    anew_grouping : (id : ℕ) (o : Option Place) → places id ≡ o → Grouping mid id o (fin.get ids id) → Grouping rows id o (anew cell id)
    anew_grouping id None here is = ap (listed_anew cell (map slot_of (rows cell)) (length (map slot_of (rows cell))) id) is ∙ anew_none cell (map slot_of (rows cell)) id (length (map slot_of (rows cell)))
    anew_grouping id (Some place) here is = elim (cases_eq place.cell cell) [
      | inl same ↦ subst (λ (c : ℕ). InGroup (rows place.cell) id place (anew c id)) same (own_cell id place here (ap is_some is.is))
      | inr off ↦ subst (λ (l : Option Spot). InGroup (rows place.cell) id place l) (sym (other_cell id place here off)) (subst (λ (xs : List Kept). InGroup xs id place (fin.get ids id)) (sym (others place.cell off)) is)
    ]

    pub grouped_anew : (ids' : Places) → ((id : ℕ) → fin.get ids' id ≡ anew cell id) → IsGrouped rows places ids'
    grouped_anew ids' is = λ id. subst (λ (l : Option Spot). Grouping rows id (places id) l) (sym (is id)) (anew_grouping id (places id) refl (grouped id))

-- ---- a row that comes, and one that ends

module _ (places places' : ℕ → Option Place) (ids ids' : Places) (id : ℕ) (others : (q : ℕ) → q ≢ id → places' q ≡ places q) (rest : (q : ℕ) → q ≢ id → fin.get ids' q ≡ fin.get ids q) where
  other_grouping : (rows : ℕ → List Kept) (q : ℕ) → q ≢ id → Grouping rows q (places q) (fin.get ids q) → Grouping rows q (places' q) (fin.get ids' q)
  other_grouping rows q off is = subst (λ (o : Option Place). Grouping rows q o (fin.get ids' q)) (sym (others q off)) (subst (λ (l : Option Spot). Grouping rows q (places q) l) (sym (rest q off)) is)

  pub grouped_without : (rows : ℕ → List Kept) → places' id ≡ None → fin.get ids' id ≡ None → IsGrouped rows places ids → IsGrouped rows places' ids'
  grouped_without rows none gone grouped = λ q. elim (cases_eq q id) [
    | inl same ↦ subst (λ (r : ℕ). Grouping rows r (places' r) (fin.get ids' r)) (sym same) (subst (λ (o : Option Place). Grouping rows id o (fin.get ids' id)) (sym none) gone)
    | inr off ↦ other_grouping rows q off (grouped q)
  ]

  module _ (cell : ℕ) (old new : ℕ → List Kept) (k : Kept) (changes : Replaces cell old new (old cell ++ k ∷ [])) (live : is_live k ≡ true) (same_id : k.row.id ≡ id) where
    front : (xs : List Kept) (q : ℕ) (place : Place) (listed : Option Spot) → InGroup xs q place listed → InGroup (xs ++ k ∷ []) q place listed
    front xs q place listed is =
        let same : row_at (xs ++ k ∷ []) is.at ≡ row_at xs is.at = get_or_append_left xs (k ∷ []) no_row is.at is.within in
        record {
          at = is.at;
          within = omega (arith, is.within, length-append xs (k ∷ []));
          born = ap (λ (r : Kept). r.born) same ∙ is.born;
          id_is = ap (λ (r : Kept). r.row.id) same ∙ is.id_is;
          live = ap is_live same ∙ is.live;
          is = is.is;
        }

    added_grouping : (q : ℕ) (o : Option Place) (listed : Option Spot) → Grouping old q o listed → Grouping new q o listed
    added_grouping q None listed is = is
    added_grouping q (Some place) listed is =
        replaced (λ c l. InGroup (old c) q place listed → InGroup l q place listed) cell old new (old cell ++ k ∷ []) changes (front (old cell) q place listed) (λ c off here. here) place.cell is

    last_row : InGroup (old cell ++ k ∷ []) id (record { cell = cell; born = k.born }) (Some (listed_at cell (length (old cell))))
    last_row =
        let same : row_at (old cell ++ k ∷ []) (length (old cell)) ≡ k = get_or-append_seam (old cell) k [] no_row in
        record {
          at = length (old cell);
          within = omega (arith, length-append (old cell) (k ∷ []));
          born = ap (λ (r : Kept). r.born) same;
          id_is = ap (λ (r : Kept). r.row.id) same ∙ same_id;
          live = ap is_live same ∙ live;
          is = refl;
        }

    pub grouped_with : places' id ≡ Some (record { cell = cell; born = k.born }) → fin.get ids' id ≡ Some (listed_at cell (length (old cell))) → IsGrouped old places ids → IsGrouped new places' ids'
    grouped_with put listed grouped = λ q. elim (cases_eq q id) [
      | inl same ↦
          let place : Place = record { cell = cell; born = k.born } in
          let own : InGroup (new cell) id place (fin.get ids' id) =
          subst (λ (l : Option Spot). InGroup (new cell) id place l) (sym listed) (subst (λ (xs : List Kept). InGroup xs id place (Some (listed_at cell (length (old cell))))) (sym changes.own) last_row) in
          subst (λ (r : ℕ). Grouping new r (places' r) (fin.get ids' r)) (sym same) (subst (λ (o : Option Place). Grouping new id o (fin.get ids' id)) (sym put) own)
      | inr off ↦ other_grouping new q off (added_grouping q (places q) (fin.get ids q) (grouped q))
    ]

module _ (s id born : ℕ) where
  unended : (k : Kept) → (k.row.id ≢ id) ⊎ (k.born ≢ born) → end_that s id born k ≡ k
  unended k other =
      cond-false (is_that id born k) _ k
      (elim other [
        | inl off ↦ and_left _ _ (and_right (is_live k) (k.row.id == id) (ne_eqb k.row.id id off))
        | inr off ↦ and_right (is_row_of id k) (k.born == born) (ne_eqb k.born born off)
      ])

  ended_grouping : (rows : ℕ → List Kept) (q : ℕ) (o : Option Place) (listed : Option Spot) → ((place : Place) → o ≡ Some place → (q ≢ id) ⊎ (place.born ≢ born)) → Grouping rows q o listed
      → Grouping (λ c. ended_that s id born (rows c)) q o listed
  ended_grouping rows q None listed apart is = is
  ended_grouping rows q (Some place) listed apart is =
      let k : Kept = row_at (rows place.cell) is.at in
      let other : (k.row.id ≢ id) ⊎ (k.born ≢ born) = elim (apart place refl) [ inl off ↦ inl (λ e. off (sym is.id_is ∙ e)) | inr off ↦ inr (λ e. off (sym is.born ∙ e)) ] in
      let same : row_at (ended_that s id born (rows place.cell)) is.at ≡ k = get_or-map (end_that s id born) (rows place.cell) is.at no_row no_row is.within ∙ unended k other in
      record {
        at = is.at;
        within = omega (arith, is.within, length-map (rows place.cell) (end_that s id born));
        born = ap (λ (r : Kept). r.born) same ∙ is.born;
        id_is = ap (λ (r : Kept). r.row.id) same ∙ is.id_is;
        live = ap is_live same ∙ is.live;
        is = is.is;
      }

  -- the rows of the index are not that one
  pub grouped_ended : (rows : ℕ → List Kept) (places : ℕ → Option Place) (ids : Places) → ((q : ℕ) (place : Place) → places q ≡ Some place → (q ≢ id) ⊎ (place.born ≢ born)) → IsGrouped rows places ids
      → IsGrouped (λ c. ended_that s id born (rows c)) places ids
  grouped_ended rows places ids apart grouped = λ q. ended_grouping rows q (places q) (fin.get ids q) (apart q) (grouped q)

-- ---- the rows of a cell after one ended

module _ {born now : ℕ} {pins : List ℕ} {old new : List Kept} {needed : Bool} (ends : Ends born now pins old new needed) where
  abbrev after : List Kept
  after = ends.front ++ ended now ends.row ∷ ends.back

  as_long : length after ≡ length old
  as_long = omega (arith, ap length ends.was, length-append ends.front (ends.row ∷ ends.back), length-append ends.front (ended now ends.row ∷ ends.back))

  pub ends_few : length new ≤ length old
  ends_few = elim ends.is [ inl same ↦ omega (arith, ap length same, as_long) | inr less ↦ omega (arith, ap length less, length_filter_le (is_held pins) after, as_long) ]

  pub ends_ids : AllByRecursion (λ k. k.row.id ≤ 2147483647) old → AllByRecursion (λ k. k.row.id ≤ 2147483647) new
  ends_ids all =
      let mid : AllByRecursion (λ k. k.row.id ≤ 2147483647) after =
      all_swap (λ k. k.row.id ≤ 2147483647) ends.front ends.row (ended now ends.row) ends.back (λ h. h) (subst (AllByRecursion (λ k. k.row.id ≤ 2147483647)) ends.was all) in
      elim ends.is [ inl same ↦ subst (AllByRecursion (λ k. k.row.id ≤ 2147483647)) (sym same) mid | inr less ↦ subst (AllByRecursion (λ k. k.row.id ≤ 2147483647)) (sym less) (all_filter (λ k. k.row.id ≤ 2147483647) (is_held pins) after mid) ]

-- a cell with one row more
pub added_length : (cell : ℕ) (old new : ℕ → List Kept) (k : Kept) → Replaces cell old new (old cell ++ k ∷ []) → ((c : ℕ) → length (old c) ≤ 16777248) → (c : ℕ) → length (new c) ≤ 16777280
added_length cell old new k changes few = replaced (λ c l. length l ≤ 16777280) cell old new (old cell ++ k ∷ []) changes (let h = few cell in omega (arith, h, length-append (old cell) (k ∷ []))) (λ c off. let h = few c in omega (arith, h))
