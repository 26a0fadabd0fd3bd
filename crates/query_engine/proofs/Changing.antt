-- Changes of a store, told from what it keeps.
use Rattle.std.proofs.Common.{◌≡◌, ℕ, ◌^◌, ◌<◌, List, [], ◌∷◌, ◌++◌, cond, false, Ok, Some, inl, inr, refl, sym, ap, ◌∙◌, subst}
use Rattle.std.specs.Prelude.{Option}
use Rattle.std.proofs.lemmas.Bool.{cases_Bool}
use Rattle.book_model.specs.Rows.{Row, has_id, without}
use Rattle.cell_store.specs.State.{Store, Changes, live_rows, inserted}
use Rattle.cell_store.specs.Held.{IsStore, KeepsAs, put_done}
use Rattle.cell_store.specs.Refusals.{RefusesAs, insert_refusal}
use Rattle.cell_store.specs.declared.InsertRefusal.{InsertRefusal}
use Rattle.cell_store.specs.declared.InsertRefusal.TheVariants as insert
use Rattle.cell_store.proofs.StoreLemmas.{timed, put_added, keeps_same, changes_put}

-- an accepted insert is of an id that was not live
absent_before : {T : Type 0} (store : Store) (id : ℕ) (x : T) → RefusesAs (insert_refusal store id) insert.Memory (Ok x) → has_id (live_rows store) id ≡ false
absent_before {T} store id x accepted = elim (cases_Bool (has_id (live_rows store) id)) [
  | inl live ↦
      let present : insert_refusal store id ≡ Some insert.Present = rw live refl in
      absurd (subst (λ (o : Option InsertRefusal). RefusesAs {T = T} o insert.Memory (Ok x)) present accepted)
  | inr absent ↦ absent
]

pub changes_inserted : {T : Type 0} (widths : List ℕ) (old new : Store) → IsStore widths old → IsStore widths new → old.stamp < 2 ^ 62 → (row : Row) (x : T)
    → RefusesAs (insert_refusal old row.id) insert.Memory (Ok x) → new ≡ inserted old row → Changes old new (live_rows old ++ row ∷ [])
changes_inserted widths old new is now_is time row x accepted e =
    let absent : has_id (live_rows old) row.id ≡ false = absent_before old row.id x accepted in
    let keeps : KeepsAs new (put_done old row) = subst (λ (s : Store). KeepsAs s (put_done old row)) (sym (e ∙ put_added old (timed widths old is) row absent)) (keeps_same (put_done old row)) in
    subst (Changes old new) (ap (λ b. cond b (without (live_rows old) row.id ++ row ∷ []) (live_rows old ++ row ∷ [])) absent)
    (changes_put widths old new is now_is time row keeps)
