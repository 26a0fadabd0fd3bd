-- One more key is used.
use Rattle.std.proofs.Common.{◌≡◌, ◌≢◌, ℕ, zero, suc, ◌-◌, ◌<◌, ◌≤◌, true, false, not, cond, List, [], ◌∷◌, ◌++◌, length, map, filter, take, get_or, Contains, Some, refl, sym, ap, subst, ◌∙◌, inl, inr, arith, nat_eq, append_assoc, length-append, get_or-set_same, get_or-set_other, length-set}
use Rattle.std.proofs.Common.{eq-eqb}
use Rattle.std.proofs.Math.ListN.{set}
use Rattle.std.specs.Prelude.{◌⊎◌, ◌==◌, slice_get, IsSome}
use Rattle.std.specs.List.{AllByRecursion, IsDistinct, list_any}
use Rattle.std.specs.Map.{lookup, lookup_entry, remove_entry}
use Rattle.std.proofs.lemmas.Bool.{cases_eq, cases_Bool, ne_eqb}
use Rattle.std.proofs.lemmas.List.{append-nil, length-map, take_all}
use Rattle.lru.specs.LruCache.{LruCache, promoted, put_entries, last_entry}
use Rattle.lru.proofs.Splits.{Contains-head, Contains-tail, Contains-cons, Contains-cut, Contains-with, Contains-without, all_left, all_right, all_both, all_at, distinct_differs}
use Rattle.residual_scan.specs.Misses.{used}
use Rattle.residual_scan.specs.Caching.{HasKept, Takes}

abbrev Entry : Type 0
Entry = ℕ × ℕ

abbrev slot_of : Entry → ℕ
slot_of e = e.0

abbrev Distinct : List Entry → Type 0
Distinct es = IsDistinct nat_eq (map slot_of es)

-- the slots of these are not s
abbrev Others : ℕ → List Entry → Type 0
Others s es = AllByRecursion (λ (e : Entry). nat_eq s e.0 ≡ false) es

flips : (a b : ℕ) → nat_eq a b ≡ nat_eq b a
flips a b = elim (cases_eq a b) [
  | inl e ↦ eq-eqb a b e ∙ sym (eq-eqb b a (sym e))
  | inr ne ↦ ne_eqb a b ne ∙ sym (ne_eqb b a (λ e. ne (sym e)))
]

same : (s : ℕ) → nat_eq s s ≡ true
same s = eq-eqb s s refl

others_at : (us : List Entry) (s q : ℕ) (vs : List Entry) → Distinct (us ++ (s, q) ∷ vs) → Others s (us ++ vs)
others_at us s q vs d = distinct_differs slot_of nat_eq flips us (s, q) vs d

other_slot : (s : ℕ) (es : List Entry) (e : Entry) → Others s es → Contains es e → e.0 ≢ s
other_slot s es e others there is =
    let differs : nat_eq s e.0 ≡ false = all_at (λ (e : Entry). nat_eq s e.0 ≡ false) es e others there in
    let equal : nat_eq s e.0 ≡ true = eq-eqb s e.0 (sym is) in
    cc

-- look-ups at the one entry of a slot
entry_there : (us : List Entry) (s q : ℕ) (vs : List Entry) → Others s us → lookup_entry (nat_eq s) (us ++ (s, q) ∷ vs) ≡ Some (s, q)
entry_there [] s q vs h = rw (same s) refl
entry_there (u ∷ us) s q vs h = let differs : nat_eq s u.0 ≡ false = h.0 in rw differs (entry_there us s q vs h.1)

removed_there : (us : List Entry) (s q : ℕ) (vs : List Entry) → Others s us → remove_entry (nat_eq s) (us ++ (s, q) ∷ vs) ≡ us ++ vs
removed_there [] s q vs h = rw (same s) refl
removed_there (u ∷ us) s q vs h = let differs : nat_eq s u.0 ≡ false = h.0 in rw differs (ap (λ l. u ∷ l) (removed_there us s q vs h.1))

value_there : (us : List Entry) (s q : ℕ) (vs : List Entry) → Others s us → lookup (nat_eq s) (us ++ (s, q) ∷ vs) ≡ Some q
value_there [] s q vs h = rw (same s) refl
value_there (u ∷ us) s q vs h = let differs : nat_eq s u.0 ≡ false = h.0 in rw differs (value_there us s q vs h.1)

-- and at another slot
value_elsewhere : (us : List Entry) (s q t : ℕ) (vs : List Entry) → nat_eq t s ≡ false → lookup (nat_eq t) (us ++ (s, q) ∷ vs) ≡ lookup (nat_eq t) (us ++ vs)
value_elsewhere [] s q t vs differs = rw differs refl
value_elsewhere (u ∷ us) s q t vs differs = ap (cond (nat_eq t u.0) (Some u.1)) (value_elsewhere us s q t vs differs)

-- what an entry says is found
value_at : (es : List Entry) (e : Entry) → Distinct es → Contains es e → lookup (nat_eq e.0) es ≡ Some e.1
value_at es e d there =
    let cut = Contains-cut es e there in
    let whole : es ≡ cut.0 ++ (e.0, e.1) ∷ cut.1 = cut.2 in
    let others = others_at cut.0 e.0 e.1 cut.1 (subst Distinct whole d) in
    ap (lookup (nat_eq e.0)) whole ∙ value_there cut.0 e.0 e.1 cut.1 (all_left (λ (x : Entry). nat_eq e.0 x.0 ≡ false) cut.0 cut.1 others)

abbrev keys : List Entry → List ℕ
keys es = map (λ (e : Entry). e.1) es

-- whether a key is among those of entries
among : (us : List Entry) (s q : ℕ) (vs : List Entry) → list_any (λ other. other == q) (keys (us ++ (s, q) ∷ vs)) ≡ true
among [] s q vs = rw (eq-eqb q q refl) refl
among (u ∷ us) s q vs = (elim (cases_Bool (u.1 == q)) [
  | inl is ↦ rw is refl
  | inr other ↦ rw other (among us s q vs)
])

not_among : (es : List Entry) (q : ℕ) → ((e : Entry) → Contains es e → e.1 ≢ q) → list_any (λ other. other == q) (keys es) ≡ false
not_among [] q h = refl
not_among (e ∷ es) q h =
    let differs : (e.1 == q) ≡ false = ne_eqb e.1 q (h e (Contains-head e es)) in
    rw differs (not_among es q (λ x c. h x (Contains-tail e es x c)))

kept_others : (es : List Entry) (q : ℕ) → ((e : Entry) → Contains es e → e.1 ≢ q) → filter (λ other. not (other == q)) (keys es) ≡ keys es
kept_others [] q h = refl
kept_others (e ∷ es) q h =
    let differs : (e.1 == q) ≡ false = ne_eqb e.1 q (h e (Contains-head e es)) in
    rw differs (ap (λ l. e.1 ∷ l) (kept_others es q (λ x c. h x (Contains-tail e es x c))))

without_key : (us : List Entry) (s q : ℕ) (vs : List Entry) → ((e : Entry) → Contains (us ++ vs) e → e.1 ≢ q) → filter (λ other. not (other == q)) (keys (us ++ (s, q) ∷ vs)) ≡ keys (us ++ vs)
without_key [] s q vs h = rw (eq-eqb q q refl) (kept_others vs q h)
without_key (u ∷ us) s q vs h =
    let differs : (u.1 == q) ≡ false = ne_eqb u.1 q (h u (Contains-head u (us ++ vs))) in
    rw differs (ap (λ l. u.1 ∷ l) (without_key us s q vs (λ x c. h x (Contains-tail u (us ++ vs) x c))))

used_there : (capacity : ℕ) (kept : List ℕ) (q : ℕ) → list_any (λ other. other == q) kept ≡ true → used capacity kept q ≡ q ∷ filter (λ other. not (other == q)) kept
used_there capacity kept q is = ap (λ b. cond b (q ∷ filter (λ other. not (other == q)) kept) (take capacity (q ∷ kept))) is

used_new : (capacity : ℕ) (kept : List ℕ) (q : ℕ) → list_any (λ other. other == q) kept ≡ false → used capacity kept q ≡ take capacity (q ∷ kept)
used_new capacity kept q is = ap (λ b. cond b (q ∷ filter (λ other. not (other == q)) kept) (take capacity (q ∷ kept))) is

-- a key that is kept
module _ (capacity : ℕ) (kept : List ℕ) (entries : List Entry) (places : List ℕ) (was : HasKept kept entries places) (d : Distinct entries) (key slot : ℕ) (within : key < length places) (place : slot ≡ get_or places key 0)
    (held : lookup (nat_eq slot) entries ≡ Some key) where
  pub in_front : Contains was.front (slot, key)
  in_front = subst (λ s. Contains was.front (s, key)) (sym place) (was.found key within (subst (λ s. lookup (nat_eq s) entries ≡ Some key) place held))

  abbrev pub us : List Entry
  us = (Contains-cut was.front (slot, key) in_front).0

  abbrev pub vs : List Entry
  vs = (Contains-cut was.front (slot, key) in_front).1

  front_is : was.front ≡ us ++ (slot, key) ∷ vs
  front_is = (Contains-cut was.front (slot, key) in_front).2

  entries_are : entries ≡ us ++ (slot, key) ∷ (vs ++ was.back)
  entries_are = was.whole ∙ ap (λ l. l ++ was.back) front_is ∙ append_assoc us ((slot, key) ∷ vs) was.back

  others : Others slot (us ++ (vs ++ was.back))
  others = others_at us slot key (vs ++ was.back) (subst Distinct entries_are d)

  before : Others slot us
  before = all_left (λ (e : Entry). nat_eq slot e.0 ≡ false) us (vs ++ was.back) others

  rest : Others slot (us ++ vs)
  rest = all_both (λ (e : Entry). nat_eq slot e.0 ≡ false) us vs before (all_left (λ (e : Entry). nat_eq slot e.0 ≡ false) vs was.back (all_right (λ (e : Entry). nat_eq slot e.0 ≡ false) us (vs ++ was.back) others))

  pub promoted_is : promoted (nat_eq slot) entries ≡ (slot, key) ∷ (us ++ (vs ++ was.back))
  promoted_is =
      let there : lookup_entry (nat_eq slot) entries ≡ Some (slot, key) = ap (lookup_entry (nat_eq slot)) entries_are ∙ entry_there us slot key (vs ++ was.back) before in
      let gone : remove_entry (nat_eq slot) entries ≡ us ++ (vs ++ was.back) = ap (remove_entry (nat_eq slot)) entries_are ∙ removed_there us slot key (vs ++ was.back) before in
      rw there (ap (λ l. (slot, key) ∷ l) gone)

  was_there : (e : Entry) → Contains (us ++ vs) e → Contains was.front e
  was_there e c = subst (λ l. Contains l e) (sym front_is) (Contains-with us (slot, key) vs e c)

  other_key : (e : Entry) → Contains (us ++ vs) e → e.1 ≢ key
  other_key e c is =
      let at = (was.placed e (was_there e c)).1 in
      other_slot slot (us ++ vs) e rest c (sym at ∙ ap (λ k. get_or places k 0) is ∙ sym place)

  in_new : (e : Entry) → Contains was.front e → e.0 ≢ slot → Contains ((slot, key) ∷ (us ++ vs)) e
  in_new e c ne = elim (Contains-without us (slot, key) vs e (subst (λ l. Contains l e) front_is c)) [
    | inl is ↦ absurd (ne (sym (ap slot_of is)))
    | inr there ↦ Contains-tail (slot, key) (us ++ vs) e there
  ]

  found_after : (q : ℕ) → q < length places → lookup (nat_eq (get_or places q 0)) ((slot, key) ∷ (us ++ (vs ++ was.back))) ≡ Some q → Contains ((slot, key) ∷ (us ++ vs)) (get_or places q 0, q)
  found_after q lt is =
      let t = get_or places q 0 in
      elim (cases_eq t slot) [
        | inl e ↦
            let first : nat_eq t slot ≡ true = eq-eqb t slot e in
            let value : Some key ≡ Some q = sym (ap (λ b. cond b (Some key) (lookup (nat_eq t) (us ++ (vs ++ was.back)))) first) ∙ is in
            let key_is : key ≡ q = cc in
            subst (λ p. Contains ((slot, key) ∷ (us ++ vs)) p) (λ i. (sym e i, key_is i)) (Contains-head (slot, key) (us ++ vs))
        | inr ne ↦
            let differs : nat_eq t slot ≡ false = ne_eqb t slot ne in
            let old : lookup (nat_eq t) entries ≡ Some q =
            ap (lookup (nat_eq t)) entries_are ∙ value_elsewhere us slot key t (vs ++ was.back) differs ∙ sym (ap (λ b. cond b (Some key) (lookup (nat_eq t) (us ++ (vs ++ was.back)))) differs) ∙ is in
            in_new (t, q) (was.found q lt old) ne
      ]

  is_kept : list_any (λ other. other == key) kept ≡ true
  is_kept = ap (list_any (λ other. other == key)) (was.keys ∙ ap keys front_is) ∙ among us slot key vs

  pub takes_kept : (entries' : List Entry) → entries' ≡ promoted (nat_eq slot) entries → Takes capacity kept entries places entries' places key slot false was
  takes_kept entries' are = record {
    now = record {
      front = (slot, key) ∷ (us ++ vs);
      back = was.back;
      whole = are ∙ promoted_is ∙ ap (λ l. (slot, key) ∷ l) (sym (append_assoc us vs was.back));
      keys = used_there capacity kept key is_kept ∙ ap (λ l. key ∷ filter (λ other. not (other == key)) l) (was.keys ∙ ap keys front_is) ∙ ap (λ l. key ∷ l) (without_key us slot key vs other_key);
      placed = λ e c. elim (Contains-cons (slot, key) (us ++ vs) e c) [
        | inl is ↦ subst (λ (e : Entry). (e.1 < length places) × (get_or places e.1 0 ≡ e.0)) is (within, sym place)
        | inr there ↦ was.placed e (was_there e there)
      ];
      found = λ q lt is. found_after q lt (sym (ap (lookup (nat_eq (get_or places q 0))) (are ∙ promoted_is)) ∙ is);
    };
    fresh_is = sym (ap not is_kept);
    others = λ e c. elim (Contains-cons (slot, key) (us ++ vs) e c) [
      | inl is ↦ inl (sym is)
      | inr there ↦ inr (was_there e there, other_slot slot (us ++ vs) e rest there)
    ];
    here = λ _. in_front;
  }

-- what the entries are where the last slot is given to a key: the others stand behind it
module _ (kept : List ℕ) (entries : List Entry) (places : List ℕ) (was : HasKept kept entries places) (d : Distinct entries) (key : ℕ) (within : key < length places)
    (absent : lookup (nat_eq (get_or places key 0)) entries ≢ Some key) where
  new_key : (e : Entry) → Contains was.front e → e.1 ≢ key
  new_key e c is =
      let at : get_or places key 0 ≡ e.0 = ap (λ k. get_or places k 0) (sym is) ∙ (was.placed e c).1 in
      let there : Contains entries e = subst (λ l. Contains l e) (sym was.whole) (front_in was.front was.back e c) in
      absent (ap (λ s. lookup (nat_eq s) entries) at ∙ value_at entries e d there ∙ ap Some is)
    where
      front_in : (xs ys : List Entry) (e : Entry) → Contains xs e → Contains (xs ++ ys) e
      front_in xs ys e c = (c.0, omega (arith, c.1, length-append xs ys), get_left xs ys e c.0 c.1 ∙ c.2)
        where
          get_left : (xs ys : List Entry) (e : Entry) (k : ℕ) → k < length xs → get_or (xs ++ ys) k e ≡ get_or xs k e
          get_left [] ys e k lt = absurd (omega arith)
          get_left (x ∷ xs) ys e zero lt = refl
          get_left (x ∷ xs) ys e (suc k) lt = get_left xs ys e k (omega arith)

  is_new : list_any (λ other. other == key) kept ≡ false
  is_new = ap (list_any (λ other. other == key)) was.keys ∙ not_among was.front key new_key

  module _ (init : List Entry) (slot old : ℕ) (split : entries ≡ init ++ (slot, old) ∷ []) (R B : List Entry) (init_is : init ≡ R ++ B) (in_front : (e : Entry) → Contains R e → Contains was.front e)
      (stays : (e : Entry) → Contains was.front e → e.0 ≢ slot → Contains R e) (capacity : ℕ) (keys_are : take capacity (key ∷ kept) ≡ key ∷ keys R) where
    apart : Others slot init
    apart = subst (Others slot) (append-nil init) (others_at init slot old [] (subst Distinct split d))

    R_apart : Others slot R
    R_apart = all_left (λ (e : Entry). nat_eq slot e.0 ≡ false) R B (subst (Others slot) init_is apart)

    found_new : (q : ℕ) → q < length (set places key slot) → lookup (nat_eq (get_or (set places key slot) q 0)) ((slot, key) ∷ init) ≡ Some q → Contains ((slot, key) ∷ R) (get_or (set places key slot) q 0, q)
    found_new q lt is = elim (cases_eq q key) [
      | inl e ↦
          let place : get_or (set places key slot) q 0 ≡ slot = ap (λ k. get_or (set places key slot) k 0) e ∙ get_or-set_same places key slot 0 within in
          subst (λ p. Contains ((slot, key) ∷ R) p) (λ i. (sym place i, sym e i)) (Contains-head (slot, key) R)
      | inr ne ↦
          let place : get_or (set places key slot) q 0 ≡ get_or places q 0 = get_or-set_other places key q slot 0 ne in
          let t = get_or places q 0 in
          let here : lookup (nat_eq t) ((slot, key) ∷ init) ≡ Some q = sym (ap (λ s. lookup (nat_eq s) ((slot, key) ∷ init)) place) ∙ is in
          let lt' : q < length places = omega (arith, lt, length-set {A = ℕ} places key slot) in
          elim (cases_eq t slot) [
            | inl same_slot ↦
                let first : nat_eq t slot ≡ true = eq-eqb t slot same_slot in
                let value : Some key ≡ Some q = sym (ap (λ b. cond b (Some key) (lookup (nat_eq t) init)) first) ∙ here in
                let key_is : key ≡ q = cc in
                absurd (ne (sym key_is))
            | inr other ↦
                let differs : nat_eq t slot ≡ false = ne_eqb t slot other in
                let in_init : lookup (nat_eq t) init ≡ Some q = sym (ap (λ b. cond b (Some key) (lookup (nat_eq t) init)) differs) ∙ here in
                let in_all : lookup (nat_eq t) entries ≡ Some q = ap (lookup (nat_eq t)) split ∙ value_elsewhere init slot old t [] differs ∙ ap (lookup (nat_eq t)) (append-nil init) ∙ in_init in
                subst (λ s. Contains ((slot, key) ∷ R) (s, q)) (sym place) (Contains-tail (slot, key) R (t, q) (stays (t, q) (was.found q lt' in_all) other))
          ]
    ]

    pub takes_last : (entries' : List Entry) → entries' ≡ (slot, key) ∷ init → Takes capacity kept entries places entries' (set places key slot) key slot true was
    takes_last entries' are = record {
      now = record {
        front = (slot, key) ∷ R;
        back = B;
        whole = are ∙ ap (λ l. (slot, key) ∷ l) init_is;
        keys = used_new capacity kept key is_new ∙ keys_are;
        placed = λ e c. elim (Contains-cons (slot, key) R e c) [
          | inl is ↦ subst (λ (e : Entry). (e.1 < length (set places key slot)) × (get_or (set places key slot) e.1 0 ≡ e.0)) is
              (omega (arith, within, length-set {A = ℕ} places key slot), get_or-set_same places key slot 0 within)
          | inr there ↦
              let before = was.placed e (in_front e there) in
              (omega (arith, before.0, length-set {A = ℕ} places key slot), get_or-set_other places key e.1 slot 0 (new_key e (in_front e there)) ∙ before.1)
        ];
        found = λ q lt is. found_new q lt (sym (ap (lookup (nat_eq (get_or (set places key slot) q 0))) are) ∙ is);
      };
      fresh_is = sym (ap not is_new);
      others = λ e c. elim (Contains-cons (slot, key) R e c) [
        | inl is ↦ inl (sym is)
        | inr there ↦ inr (in_front e there, other_slot slot R e R_apart there)
      ];
      here = λ off. absurd (cc off);
    }

-- a list that is not empty has a last element
abbrev HasLast : List Entry → Type 0
HasLast es = (init : List Entry) × (e : Entry) × (es ≡ init ++ e ∷ [])

pub empty_or_last : (es : List Entry) → (es ≡ []) ⊎ HasLast es
empty_or_last [] = inl refl
empty_or_last (e ∷ es) = elim (empty_or_last es) [
  | inl none ↦ inr ([], e, ap (λ l. e ∷ l) none)
  | inr more ↦ inr (e ∷ more.0, more.1, ap (λ l. e ∷ l) more.2)
]

pub last_is : (init : List Entry) (e : Entry) → last_entry (init ++ e ∷ []) ≡ Some e
last_is init e =
    let at : length (init ++ e ∷ []) - 1 ≡ length init = omega (arith, length-append init (e ∷ [])) in
    ap (slice_get (init ++ e ∷ [])) at ∙ seam init e
  where
    seam : (init : List Entry) (e : Entry) → slice_get (init ++ e ∷ []) (length init) ≡ Some e
    seam [] e = refl
    seam (x ∷ init) e = seam init e

-- the last slot is given to a key: its entry goes first
pub put_last : (c : LruCache ℕ ℕ) (init : List Entry) (slot old key : ℕ) → Distinct c.entries → c.entries ≡ init ++ (slot, old) ∷ [] → put_entries nat_eq c slot key ≡ (slot, key) ∷ init
put_last c init slot old key d split =
    let others = subst (Others slot) (append-nil init) (others_at init slot old [] (subst Distinct split d)) in
    let there : lookup_entry (nat_eq slot) c.entries ≡ Some (slot, old) = ap (lookup_entry (nat_eq slot)) split ∙ entry_there init slot old [] others in
    let gone : remove_entry (nat_eq slot) c.entries ≡ init = ap (remove_entry (nat_eq slot)) split ∙ removed_there init slot old [] others ∙ append-nil init in
    rw there (ap (λ l. (slot, key) ∷ l) gone)

-- where the last element is known, so is the rest
pub last_split : (es : List Entry) (e : Entry) → last_entry es ≡ Some e → 1 ≤ length es → (init : List Entry) × (es ≡ init ++ e ∷ [])
last_split es e is some = elim (empty_or_last es) [
  | inl none ↦ absurd (omega (arith, some, ap length none))
  | inr last ↦
      let value : Some last.1 ≡ Some e = sym (ap last_entry last.2 ∙ last_is last.0 last.1) ∙ is in
      let same_entry : last.1 ≡ e = cc in
      (last.0, last.2 ∙ ap (λ x. last.0 ++ x ∷ []) same_entry)
]

take_keys : (init : List Entry) (e : Entry) → take (length init) (keys (init ++ e ∷ [])) ≡ keys init
take_keys [] e = refl
take_keys (x ∷ init) e = ap (λ l. x.1 ∷ l) (take_keys init e)

-- a key that is not kept, in the slot that was used longest ago
pub takes_fresh : (c : LruCache ℕ ℕ) (kept places : List ℕ) (was : HasKept kept c.entries places) → Distinct c.entries → (key : ℕ) → key < length places → lookup (nat_eq (get_or places key 0)) c.entries ≢ Some key
    → length c.entries ≡ c.cap → 1 ≤ length c.entries → (slot old : ℕ) → last_entry c.entries ≡ Some (slot, old) → (entries' : List Entry) → entries' ≡ put_entries nat_eq c slot key
    → Takes c.cap kept c.entries places entries' (set places key slot) key slot true was
takes_fresh c kept places was d key within absent full some slot old last entries' are = elim (empty_or_last was.back) [
  | inl none ↦
      let split = last_split c.entries (slot, old) last some in
      let init = split.0 in
      let front_is : was.front ≡ init ++ (slot, old) ∷ [] = sym (was.whole ∙ ap (λ l. was.front ++ l) none ∙ append-nil was.front) ∙ split.1 in
      let long : c.cap ≡ suc (length init) = omega (arith, full, ap length split.1, length-append init ((slot, old) ∷ [])) in
      let keys_are : take c.cap (key ∷ kept) ≡ key ∷ keys init =
      ap (λ n. take n (key ∷ kept)) long ∙ ap (λ l. key ∷ take (length init) l) (was.keys ∙ ap keys front_is) ∙ ap (λ l. key ∷ l) (take_keys init (slot, old)) in
      takes_last kept c.entries places was d key within absent init slot old split.1 init [] (sym (append-nil init))
      (λ e there. subst (λ l. Contains l e) (sym front_is) (Contains-with init (slot, old) [] e (subst (λ l. Contains l e) (sym (append-nil init)) there)))
      (λ e there ne. elim (Contains-without init (slot, old) [] e (subst (λ l. Contains l e) front_is there)) [
        | inl is ↦ absurd (ne (sym (ap slot_of is)))
        | inr before ↦ subst (λ l. Contains l e) (append-nil init) before
      ]) c.cap keys_are entries' (are ∙ put_last c init slot old key d split.1)
  | inr more ↦
      let b0 = more.0 in
      let init = was.front ++ b0 in
      let whole : c.entries ≡ init ++ more.1 ∷ [] = was.whole ∙ ap (λ l. was.front ++ l) more.2 ∙ sym (append_assoc was.front b0 (more.1 ∷ [])) in
      let value : Some more.1 ≡ Some (slot, old) = sym (ap last_entry whole ∙ last_is init more.1) ∙ last in
      let same_entry : more.1 ≡ (slot, old) = cc in
      let split : c.entries ≡ init ++ (slot, old) ∷ [] = whole ∙ ap (λ x. init ++ x ∷ []) same_entry in
      let count : length kept ≡ length was.front = ap length was.keys ∙ length-map was.front (λ (e : Entry). e.1) in
      let fits : length (key ∷ kept) ≤ c.cap = omega (arith, full, ap length split, length-append init ((slot, old) ∷ []), length-append was.front b0, count) in
      let keys_are : take c.cap (key ∷ kept) ≡ key ∷ keys was.front = take_all c.cap (key ∷ kept) fits ∙ ap (λ l. key ∷ l) was.keys in
      takes_last kept c.entries places was d key within absent init slot old split was.front b0 refl (λ e there. there) (λ e there ne. there) c.cap keys_are entries' (are ∙ put_last c init slot old key d split)
]

-- where a slot has a key, its entry goes first
pub cut_at : (es : List Entry) (s q : ℕ) → lookup (nat_eq s) es ≡ Some q → (us : List Entry) × (vs : List Entry) × (es ≡ us ++ (s, q) ∷ vs)
cut_at [] s q is = cc
cut_at (e ∷ es) s q is = elim (cases_eq s e.0) [
  | inl same_slot ↦
      let first : nat_eq s e.0 ≡ true = eq-eqb s e.0 same_slot in
      let value : Some e.1 ≡ Some q = sym (ap (λ b. cond b (Some e.1) (lookup (nat_eq s) es)) first) ∙ is in
      let key_is : e.1 ≡ q = cc in
      ([], es, λ i. (sym same_slot i, key_is i) ∷ es)
  | inr ne ↦
      let differs : nat_eq s e.0 ≡ false = ne_eqb s e.0 ne in
      let more = cut_at es s q (sym (ap (λ b. cond b (Some e.1) (lookup (nat_eq s) es)) differs) ∙ is) in
      (e ∷ more.0, more.1, ap (λ l. e ∷ l) more.2)
]

pub promoted_cut : (es us : List Entry) (s q : ℕ) (vs : List Entry) → Distinct es → es ≡ us ++ (s, q) ∷ vs → promoted (nat_eq s) es ≡ (s, q) ∷ (us ++ vs)
promoted_cut es us s q vs d cut =
    let before = all_left (λ (e : Entry). nat_eq s e.0 ≡ false) us vs (others_at us s q vs (subst Distinct cut d)) in
    let there : lookup_entry (nat_eq s) es ≡ Some (s, q) = ap (lookup_entry (nat_eq s)) cut ∙ entry_there us s q vs before in
    let gone : remove_entry (nat_eq s) es ≡ us ++ vs = ap (remove_entry (nat_eq s)) cut ∙ removed_there us s q vs before in
    rw there (ap (λ l. (s, q) ∷ l) gone)

pub length_cut : (us : List Entry) (s q : ℕ) (vs : List Entry) → length ((s, q) ∷ (us ++ vs)) ≡ length (us ++ (s, q) ∷ vs)
length_cut us s q vs = omega (arith, length-append us vs, length-append us ((s, q) ∷ vs))

pub within_cut : (n : ℕ) (us : List Entry) (s q : ℕ) (vs : List Entry) (q' : ℕ) → AllByRecursion (λ (e : Entry). e.0 < n) (us ++ (s, q) ∷ vs) → AllByRecursion (λ (e : Entry). e.0 < n) ((s, q') ∷ (us ++ vs))
within_cut n us s q vs q' all =
    let P : Entry → Type 0 = λ e. e.0 < n in
    let right = all_right P us ((s, q) ∷ vs) all in
    (right.0, all_both P us vs (all_left P us ((s, q) ∷ vs) all) right.1)

-- the slot that has a key is not that of the first entry, if this has another key
pub apart_there : (es : List Entry) (s q slot other : ℕ) → lookup (nat_eq s) es ≡ Some q → slice_get es 0 ≡ Some (slot, other) → other ≢ q → s ≢ slot
apart_there [] s q slot other is first ne same_slot = cc
apart_there (e ∷ es) s q slot other is first ne same_slot =
    let head : e ≡ (slot, other) = cc in
    let hit : nat_eq s e.0 ≡ true = eq-eqb s e.0 (same_slot ∙ sym (ap slot_of head)) in
    let value : Some e.1 ≡ Some q = sym (ap (λ b. cond b (Some e.1) (lookup (nat_eq s) es)) hit) ∙ is in
    let key_is : e.1 ≡ q = cc in
    ne (sym (ap (λ (e : Entry). e.1) head) ∙ key_is)

-- nor is the last one, if there are two
pub apart_last : (es init : List Entry) (s q slot other : ℕ) → Distinct es → es ≡ init ++ (s, q) ∷ [] → slice_get es 0 ≡ Some (slot, other) → 2 ≤ length es → s ≢ slot
apart_last es [] s q slot other d split first two same_slot = omega (arith, two, ap length split)
apart_last es (e ∷ init) s q slot other d split first two same_slot =
    let head : Some e ≡ Some (slot, other) = sym (ap (λ l. slice_get l 0) split) ∙ first in
    let head_is : e ≡ (slot, other) = cc in
    let others = others_at (e ∷ init) s q [] (subst Distinct split d) in
    let differs : nat_eq s e.0 ≡ false = others.0 in
    let hit : nat_eq s e.0 ≡ true = eq-eqb s e.0 (same_slot ∙ sym (ap slot_of head_is)) in
    cc

pub found_last : (es : List Entry) (slot old : ℕ) → Distinct es → 1 ≤ length es → last_entry es ≡ Some (slot, old) → IsSome (lookup (nat_eq slot) es)
found_last es slot old d some last =
    let split = last_split es (slot, old) last some in
    let others = subst (Others slot) (append-nil split.0) (others_at split.0 slot old [] (subst Distinct split.1 d)) in
    let value : lookup (nat_eq slot) es ≡ Some old = ap (lookup (nat_eq slot)) split.1 ∙ value_there split.0 slot old [] others in
    rw value refl

-- what the entries are after a slot that has the key was used
pub after_use : (es es' : List Entry) (s q : ℕ) → Distinct es → lookup (nat_eq s) es ≡ Some q → es' ≡ promoted (nat_eq s) es
    → (slice_get es' 0 ≡ Some (s, q)) × ((n : ℕ) → AllByRecursion (λ (e : Entry). e.0 < n) es → AllByRecursion (λ (e : Entry). e.0 < n) es') × (length es' ≡ length es)
after_use es es' s q d is are =
    let cut = cut_at es s q is in
    let now : es' ≡ (s, q) ∷ (cut.0 ++ cut.1) = are ∙ promoted_cut es cut.0 s q cut.1 d cut.2 in (
      ap (λ l. slice_get l 0) now,
      λ n all. subst (AllByRecursion (λ (e : Entry). e.0 < n)) (sym now) (within_cut n cut.0 s q cut.1 q (subst (AllByRecursion (λ (e : Entry). e.0 < n)) cut.2 all)),
      ap length now ∙ length_cut cut.0 s q cut.1 ∙ sym (ap length cut.2),
    )

-- and after the last slot was given to a key
pub after_giving : (c : LruCache ℕ ℕ) (es' : List Entry) (slot old key : ℕ) → Distinct c.entries → 1 ≤ length c.entries → last_entry c.entries ≡ Some (slot, old) → es' ≡ put_entries nat_eq c slot key
    → (slice_get es' 0 ≡ Some (slot, key)) × ((n : ℕ) → AllByRecursion (λ (e : Entry). e.0 < n) c.entries → AllByRecursion (λ (e : Entry). e.0 < n) es') × (length es' ≡ length c.entries)
after_giving c es' slot old key d some last are =
    let split = last_split c.entries (slot, old) last some in
    let now : es' ≡ (slot, key) ∷ split.0 = are ∙ put_last c split.0 slot old key d split.1 in
    let whole : (slot, key) ∷ split.0 ≡ (slot, key) ∷ (split.0 ++ []) = ap (λ l. (slot, key) ∷ l) (sym (append-nil split.0)) in (
      ap (λ l. slice_get l 0) now,
      λ n all. subst (AllByRecursion (λ (e : Entry). e.0 < n)) (sym (now ∙ whole)) (within_cut n split.0 slot old [] key (subst (AllByRecursion (λ (e : Entry). e.0 < n)) split.1 all)),
      ap length (now ∙ whole) ∙ length_cut split.0 slot key [] ∙ sym (ap length split.1 ∙ length_same split.0 slot old key),
    )
  where
    length_same : (us : List Entry) (s p q : ℕ) → length (us ++ (s, p) ∷ []) ≡ length (us ++ (s, q) ∷ [])
    length_same us s p q = length-append us ((s, p) ∷ []) ∙ sym (length-append us ((s, q) ∷ []))
