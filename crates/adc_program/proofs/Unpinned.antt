-- Changes of a store in which nothing is pinned are those of the definitions.
use Rattle.std.proofs.Common.{◌≡◌, ℕ, ◌+◌, ◌*◌, ◌≤◌, ◌<◌, List, [], ◌∷◌, ◌++◌, length, filter, not, ◌&&◌, true, false, cond, Ok, Err, Some, None, refl, sym, ap, ◌∙◌, arith, inl, inr, subst, Bool}
use Rattle.std.specs.Prelude.{Option, nat_le, nat_lt}
use Rattle.std.proofs.lemmas.Bool.{cases_Bool, and_right, leb-false, lt-leb, le-ltb}
use Rattle.book_model.specs.Rows.{Row, has_id, without, insert_row, delete_row, put_row, Present as IsPresent, Full as IsFull, Absent as IsAbsent}
use Rattle.cell_store.specs.State.{Store, Kept, live_rows, lives_at, is_needed, live_is_needed, needed_count, put_rows}
use Rattle.cell_store.specs.Refusals.{RefusesAs, insert_refusal, put_refusal}
use Rattle.cell_store.specs.declared.InsertRefusal.{InsertRefusal}
use Rattle.cell_store.specs.declared.InsertRefusal.TheVariants as insert
use Rattle.cell_store.specs.declared.PutRefusal.{PutRefusal}
use Rattle.cell_store.specs.declared.PutRefusal.TheVariants as put

-- no pin needs a row where there is none
none_of : (p : Kept → Bool) (kept : List Kept) → length (filter (λ k. p k && is_needed [] k) kept) ≡ 0
none_of p [] = refl
none_of p (k ∷ kept) = ap (λ b. length (cond b (k ∷ filter (λ k. p k && is_needed [] k) kept) (filter (λ k. p k && is_needed [] k) kept))) (and_right (p k) false refl) ∙ none_of p kept

module _ (store : Store) (free : store.pins ≡ []) (some : 1 ≤ store.most) where
  none_needed : needed_count store ≡ 0
  none_needed = ap (λ (pins : List ℕ). length (filter (λ k. not (lives_at store.stamp k) && is_needed pins k) store.kept)) free ∙ none_of (λ k. not (lives_at store.stamp k)) store.kept

  -- the refusals of an insert, in order
  pub insert_present : (id : ℕ) → has_id (live_rows store) id ≡ true → insert_refusal store id ≡ Some insert.Present
  insert_present id e = rw e refl

  pub insert_full : (id : ℕ) → has_id (live_rows store) id ≡ false → nat_le store.most (length (live_rows store)) ≡ true → insert_refusal store id ≡ Some insert.Full
  insert_full id e f = rw (e, f) refl

  pub insert_free : (id : ℕ) → has_id (live_rows store) id ≡ false → nat_le store.most (length (live_rows store)) ≡ false → insert_refusal store id ≡ None
  insert_free id e f =
      let few : length (live_rows store) < store.most = leb-false store.most (length (live_rows store)) f in
      let held : nat_le (2 * store.most) (length (live_rows store) + needed_count store) ≡ false = lt-leb (2 * store.most) (length (live_rows store) + needed_count store) (omega (arith, few, none_needed)) in
      rw (e, f, held) refl

  -- what an insert of a row gives, told from what the store answers
  pub insert_made : {T : Type 0} (row : Row) (x : T) (after : List Row) → RefusesAs (insert_refusal store row.id) insert.Memory (Ok x) → after ≡ live_rows store ++ row ∷ []
      → insert_row store.most (live_rows store) row ≡ Ok after
  insert_made {T} row x after refusal is = elim (cases_Bool (has_id (live_rows store) row.id)) [
    | inl e ↦ absurd (subst (λ (o : Option InsertRefusal). RefusesAs {T = T} o insert.Memory (Ok x)) (insert_present row.id e) refusal)
    | inr e ↦ elim (cases_Bool (nat_le store.most (length (live_rows store)))) [
      | inl f ↦ absurd (subst (λ (o : Option InsertRefusal). RefusesAs {T = T} o insert.Memory (Ok x)) (insert_full row.id e f) refusal)
      | inr f ↦ rw (e, f) (ap Ok (sym is))
    ]
  ]

  pub insert_unmade : (T : Type 0) (row : Row) (cause : InsertRefusal) → RefusesAs {T = T} (insert_refusal store row.id) insert.Memory (Err cause)
      → (cause ≡ insert.Present → insert_row store.most (live_rows store) row ≡ Err IsPresent) × (cause ≡ insert.Full → insert_row store.most (live_rows store) row ≡ Err IsFull) × (cause ≡ insert.Held → ⊥)
  insert_unmade T row cause refusal = elim (cases_Bool (has_id (live_rows store) row.id)) [
    | inl e ↦
        let is : cause ≡ insert.Present = subst (λ (o : Option InsertRefusal). RefusesAs {T = T} o insert.Memory (Err cause)) (insert_present row.id e) refusal in
        (λ _. rw e refl, λ full. (let two : insert.Present ≡ insert.Full = sym is ∙ full in cc), λ held. (let two : insert.Present ≡ insert.Held = sym is ∙ held in cc))
    | inr e ↦ elim (cases_Bool (nat_le store.most (length (live_rows store)))) [
      | inl f ↦
          let is : cause ≡ insert.Full = subst (λ (o : Option InsertRefusal). RefusesAs {T = T} o insert.Memory (Err cause)) (insert_full row.id e f) refusal in
          (λ present. (let two : insert.Full ≡ insert.Present = sym is ∙ present in cc), λ _. rw (e, f) refl, λ held. (let two : insert.Full ≡ insert.Held = sym is ∙ held in cc))
      | inr f ↦
          let is : cause ≡ insert.Memory = subst (λ (o : Option InsertRefusal). RefusesAs {T = T} o insert.Memory (Err cause)) (insert_free row.id e f) refusal in
          (λ present. (let two : insert.Memory ≡ insert.Present = sym is ∙ present in cc), λ full. (let two : insert.Memory ≡ insert.Full = sym is ∙ full in cc), λ held. (let two : insert.Memory ≡ insert.Held = sym is ∙ held in cc))
    ]
  ]

  -- the same of a put
  at_most_one : (b : Bool) → cond b 1 0 ≤ 1
  at_most_one true = omega arith
  at_most_one false = omega arith

  module _ (few : length (live_rows store) ≤ store.most) where
    pub put_there : (id : ℕ) → has_id (live_rows store) id ≡ true → put_refusal store id ≡ None
    put_there id e =
        let count = length (live_rows store) + (needed_count store + cond (live_is_needed store id) 1 0) in
        let held : nat_lt (2 * store.most) count ≡ false = le-ltb (2 * store.most) count (omega (arith, few, some, none_needed, at_most_one (live_is_needed store id))) in
        rw (e, held) refl

    pub put_full : (id : ℕ) → has_id (live_rows store) id ≡ false → nat_le store.most (length (live_rows store)) ≡ true → put_refusal store id ≡ Some put.Full
    put_full id e f = rw (e, f) refl

    pub put_free : (id : ℕ) → has_id (live_rows store) id ≡ false → nat_le store.most (length (live_rows store)) ≡ false → put_refusal store id ≡ None
    put_free id e f =
        let room : length (live_rows store) < store.most = leb-false store.most (length (live_rows store)) f in
        let held : nat_lt (2 * store.most) (length (live_rows store) + 1 + needed_count store) ≡ false = le-ltb (2 * store.most) (length (live_rows store) + 1 + needed_count store) (omega (arith, room, none_needed)) in
        rw (e, f, held) refl

    pub put_made : {T : Type 0} (row : Row) (x : T) (after : List Row) → RefusesAs (put_refusal store row.id) put.Memory (Ok x) → after ≡ put_rows (live_rows store) row
        → put_row store.most (live_rows store) row ≡ Ok after
    put_made {T} row x after refusal is = elim (cases_Bool (has_id (live_rows store) row.id)) [
      | inl e ↦ rw e (ap Ok (sym (is ∙ ap (λ b. cond b (without (live_rows store) row.id ++ row ∷ []) (live_rows store ++ row ∷ [])) e)))
      | inr e ↦ elim (cases_Bool (nat_le store.most (length (live_rows store)))) [
        | inl f ↦ absurd (subst (λ (o : Option PutRefusal). RefusesAs {T = T} o put.Memory (Ok x)) (put_full row.id e f) refusal)
        | inr f ↦ rw (e, f) (ap Ok (sym (is ∙ ap (λ b. cond b (without (live_rows store) row.id ++ row ∷ []) (live_rows store ++ row ∷ [])) e)))
      ]
    ]

    pub put_unmade : (T : Type 0) (row : Row) (cause : PutRefusal) → RefusesAs {T = T} (put_refusal store row.id) put.Memory (Err cause)
        → (cause ≡ put.Full → put_row store.most (live_rows store) row ≡ Err IsFull) × (cause ≡ put.Held → ⊥)
    put_unmade T row cause refusal = elim (cases_Bool (has_id (live_rows store) row.id)) [
      | inl e ↦
          let is : cause ≡ put.Memory = subst (λ (o : Option PutRefusal). RefusesAs {T = T} o put.Memory (Err cause)) (put_there row.id e) refusal in
          (λ full. (let two : put.Memory ≡ put.Full = sym is ∙ full in cc), λ held. (let two : put.Memory ≡ put.Held = sym is ∙ held in cc))
      | inr e ↦ elim (cases_Bool (nat_le store.most (length (live_rows store)))) [
        | inl f ↦
            let is : cause ≡ put.Full = subst (λ (o : Option PutRefusal). RefusesAs {T = T} o put.Memory (Err cause)) (put_full row.id e f) refusal in
            (λ _. rw (e, f) refl, λ held. (let two : put.Full ≡ put.Held = sym is ∙ held in cc))
        | inr f ↦
            let is : cause ≡ put.Memory = subst (λ (o : Option PutRefusal). RefusesAs {T = T} o put.Memory (Err cause)) (put_free row.id e f) refusal in
            (λ full. (let two : put.Memory ≡ put.Full = sym is ∙ full in cc), λ held. (let two : put.Memory ≡ put.Held = sym is ∙ held in cc))
      ]
    ]

pub delete_made : (store : Store) (id : ℕ) (after : List Row) → has_id (live_rows store) id ≡ true → after ≡ without (live_rows store) id → delete_row (live_rows store) id ≡ Ok after
delete_made store id after there is = rw there (ap Ok (sym is))

pub delete_unmade : (store : Store) (id : ℕ) → has_id (live_rows store) id ≡ false → delete_row (live_rows store) id ≡ Err IsAbsent
delete_unmade store id absent = rw absent refl
