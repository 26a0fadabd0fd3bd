-- The store of the changes of a play with sessions, after one more change, and after a session is opened, went a step or ended.
use Rattle.std.proofs.Common.{◌≡◌, ℕ, ◌+◌, ◌^◌, ◌≤◌, ◌<◌, Bool, true, false, not, ◌==◌, ◌&&◌, cond, List, [], ◌∷◌, ◌++◌, length, map, get_or, set, Ok, Err, refl, sym, ap, ◌∙◌, subst, arith, inl, inr}
use Rattle.std.specs.Prelude.{Option, Some, None, remove, fold, nat_le, ◌*◌}
use Rattle.std.specs.List.{AllByRecursion, IsDistinct}
use Rattle.std.proofs.lemmas.Bool.{cases_Bool}
use Rattle.std.proofs.lemmas.List.{map-append, take-append-le, take_all, length_push}
use Rattle.std.proofs.lemmas.List.Sums.{fold-append}
use Rattle.std.proofs.lemmas.List.Elements.{Contains-get_or}
use Rattle.std.proofs.Math.Seq.{map-set_same}
use Rattle.book_model.specs.declared.limits.TheConstants.{MAX_ROWS}
use Rattle.book_model.specs.Rows.{Row, Full as IsFull, Edit, Insert as Inserts, Delete as Deletes, Put as Puts, has_id, without, or_unchanged, edit_rows, rows_after}
use Rattle.book_model.proofs.AllLemmas.{all_at, all_by_index, all_push, all_remove}
use Rattle.cell_store.specs.State.{Store, live_rows, rows_at, empty, PinnedStay}
use Rattle.cell_store.specs.Held.{put_cause, IsTimed}
use Rattle.cell_store.specs.Refusals.{insert_refusal}
use Rattle.cell_store.specs.declared.InsertRefusal.{InsertRefusal}
use Rattle.cell_store.specs.declared.InsertRefusal.TheVariants as insert
use Rattle.cell_store.specs.declared.PutRefusal.{PutRefusal}
use Rattle.cell_store.specs.declared.PutRefusal.TheVariants as put
use Rattle.cell_store.proofs.StoreLemmas.{put_added, timed_deleted, timed_put, live_deleted, live_put, pinned_deleted, pinned_put}
use Rattle.play_script.specs.Play.{Stage}
use Rattle.play_script.specs.Sessions.{Standing, OpenSession, store_of, edited, rows_now, rows_then}
use Rattle.adc_program.specs.SessionStates.{IsModel}
use Rattle.adc_program.proofs.Places.{map_remove, distinct_push, distinct_remove}

-- ---- a change that a store accepts

abbrev pub Accepts : Store → Edit → Type 0
Accepts store (Inserts row) = insert_refusal store row.id ≡ None
Accepts store (Deletes id) = has_id (live_rows store) id ≡ true
Accepts store (Puts row) = put_cause store row ≡ None

-- where nothing refuses an insert, the id is not live and there is room
free_insert : (store : Store) (id : ℕ) → insert_refusal store id ≡ None → (has_id (live_rows store) id ≡ false) × (nat_le store.most (length (live_rows store)) ≡ false)
free_insert store id free = elim (cases_Bool (has_id (live_rows store) id)) [
  | inl there ↦ absurd (let e : insert_refusal store id ≡ Some insert.Present = rw there refl in let two : ◌≡◌ {A = Option InsertRefusal} None (Some insert.Present) = sym free ∙ e in cc)
  | inr absent ↦ elim (cases_Bool (nat_le store.most (length (live_rows store)))) [
    | inl full ↦ absurd (let e : insert_refusal store id ≡ Some insert.Full = rw (absent, full) refl in let two : ◌≡◌ {A = Option InsertRefusal} None (Some insert.Full) = sym free ∙ e in cc)
    | inr room ↦ (absent, room)
  ]
]

free_put : (store : Store) (row : Row) → put_cause store row ≡ None → (not (has_id (live_rows store) row.id) && nat_le store.most (length (live_rows store))) ≡ false
free_put store row free = elim (cases_Bool (not (has_id (live_rows store) row.id) && nat_le store.most (length (live_rows store)))) [
  | inl full ↦ absurd (let e : put_cause store row ≡ Some put.Full = rw full refl in let two : ◌≡◌ {A = Option PutRefusal} None (Some put.Full) = sym free ∙ e in cc)
  | inr room ↦ room
]

-- the rows of an accepted change
put_room : (rows : List Row) (row : Row) (there full : Bool) → (not there && full) ≡ false
    → (cond there (Ok (without rows row.id ++ row ∷ [])) (cond full (Err IsFull) (Ok (rows ++ row ∷ [])))) ≡ Ok (cond there (without rows row.id ++ row ∷ []) (rows ++ row ∷ []))
put_room rows row true full h = refl
put_room rows row false true h = cc
put_room rows row false false h = refl

module _ (store : Store) (most : store.most ≡ MAX_ROWS) (timed : IsTimed store) (time : store.stamp < 2 ^ 62) where
  pub live_edited : (edit : Edit) → Accepts store edit → live_rows (edited store edit) ≡ or_unchanged (live_rows store) (edit_rows MAX_ROWS (live_rows store) edit)
  live_edited (Inserts row) free =
      let room = free_insert store row.id free in
      ap live_rows (put_added store timed row room.0) ∙ live_put store timed row time
      ∙ ap (λ b. cond b (without (live_rows store) row.id ++ row ∷ []) (live_rows store ++ row ∷ [])) room.0
      ∙ sym (ap (λ m. or_unchanged (live_rows store) (edit_rows m (live_rows store) (Inserts row))) (sym most) ∙ rw (room.0, room.1) refl)
  live_edited (Deletes id) there = live_deleted store timed id time ∙ sym (rw there refl)
  live_edited (Puts row) free =
      live_put store timed row time
      ∙ sym (ap (λ m. or_unchanged (live_rows store) (edit_rows m (live_rows store) (Puts row))) (sym most) ∙ ap (or_unchanged (live_rows store)) (put_room (live_rows store) row _ _ (free_put store row free)))

  pub timed_edited : (edit : Edit) → Accepts store edit → IsTimed (edited store edit)
  timed_edited (Inserts row) free = subst IsTimed (sym (put_added store timed row (free_insert store row.id free).0)) (timed_put store timed row time)
  timed_edited (Deletes id) there = timed_deleted store timed id time
  timed_edited (Puts row) free = timed_put store timed row time

  pub pinned_edited : (edit : Edit) → Accepts store edit → PinnedStay store (edited store edit)
  pinned_edited (Inserts row) free = subst (PinnedStay store) (sym (put_added store timed row (free_insert store row.id free).0)) (pinned_put store timed row)
  pinned_edited (Deletes id) there = pinned_deleted store timed id
  pinned_edited (Puts row) free = pinned_put store timed row

edited_pins : (store : Store) (pins : List ℕ) (edit : Edit) → (let s : Store = record (edited store edit) { pins = pins } in s) ≡ edited (record store { pins = pins }) edit
edited_pins store pins (Inserts row) = refl
edited_pins store pins (Deletes id) = refl
edited_pins store pins (Puts row) = refl

edited_stamp : (store : Store) (edit : Edit) → (edited store edit).stamp ≡ store.stamp + 1
edited_stamp store (Inserts row) = refl
edited_stamp store (Deletes id) = refl
edited_stamp store (Puts row) = refl

edited_most : (store : Store) (edit : Edit) → (edited store edit).most ≡ store.most
edited_most store (Inserts row) = refl
edited_most store (Deletes id) = refl
edited_most store (Puts row) = refl

rows_after_more : (most : ℕ) (rows : List Row) (edits : List Edit) (edit : Edit)
    → rows_after most rows (edits ++ edit ∷ []) ≡ or_unchanged (rows_after most rows edits) (edit_rows most (rows_after most rows edits) edit)
rows_after_more most rows [] edit = refl
rows_after_more most rows (first ∷ edits) edit = rows_after_more most (or_unchanged rows (edit_rows most rows first)) edits edit

-- ---- one more change

abbrev pub with_edit : Standing → Edit → Standing
with_edit standing edit = record standing { edits = standing.edits ++ edit ∷ [] }

abbrev stamps : List OpenSession → List ℕ
stamps opened = map (λ session. session.stamp) opened

pub store_edited : (stage : Stage) (standing : Standing) (edit : Edit) → store_of stage (with_edit standing edit) ≡ edited (store_of stage standing) edit
store_edited stage standing edit =
    let first : Store = empty stage.book.g (stage.book.k0 * stage.book.k1) MAX_ROWS in
    ap (λ (s : Store). let t : Store = record s { pins = stamps standing.opened } in t) (fold-append edited first standing.edits (edit ∷ []))
    ∙ edited_pins (fold edited first standing.edits) (stamps standing.opened) edit

pub rows_then_stay : (standing : Standing) (edit : Edit) (s : ℕ) → s ≤ length standing.edits → rows_then (with_edit standing edit) s ≡ rows_then standing s
rows_then_stay standing edit s h = ap (rows_after MAX_ROWS []) (take-append-le s standing.edits (edit ∷ []) h)

module _ (stage : Stage) (standing : Standing) (model : IsModel stage standing) where
  -- the rows of now are those after all changes
  rows_whole : rows_now standing ≡ rows_after MAX_ROWS [] standing.edits
  rows_whole = ap (rows_after MAX_ROWS []) (take_all (length standing.edits) standing.edits (omega arith))

  -- no open session was opened later than now
  pub stamps_small : AllByRecursion (λ s. s ≤ length standing.edits) (stamps standing.opened)
  stamps_small = subst (λ n. AllByRecursion (λ s. s ≤ n) (stamps standing.opened)) model.stamp model.timed.pins

  pub model_edited : (edit : Edit) → length standing.edits < 2 ^ 62 → Accepts (store_of stage standing) edit → IsModel stage (with_edit standing edit)
  model_edited edit few accepts =
      let old : Store = store_of stage standing in
      let time : old.stamp < 2 ^ 62 = omega (arith, model.stamp, few) in
      let is = store_edited stage standing edit in
      let stay : AllByRecursion (λ s. rows_at s (edited old edit).kept ≡ rows_then (with_edit standing edit) s) (stamps standing.opened) =
      all_by_index (λ s. rows_at s (edited old edit).kept ≡ rows_then (with_edit standing edit) s) (stamps standing.opened) 0
      (λ n h.
      pinned_edited old model.most model.timed time edit accepts (get_or (stamps standing.opened) n 0) (Contains-get_or (stamps standing.opened) n 0 h)
      ∙ all_at (λ s. rows_at s old.kept ≡ rows_then standing s) (stamps standing.opened) n 0 model.pinned h
      ∙ sym (rows_then_stay standing edit (get_or (stamps standing.opened) n 0) (all_at (λ s. s ≤ length standing.edits) (stamps standing.opened) n 0 stamps_small h))) in
      record {
        timed = subst IsTimed (sym is) (timed_edited old model.most model.timed time edit accepts);
        most = ap (λ (s : Store). s.most) is ∙ edited_most old edit ∙ model.most;
        stamp = ap (λ (s : Store). s.stamp) is ∙ edited_stamp old edit ∙ ap (λ n. n + 1) model.stamp ∙ sym (length_push standing.edits edit);
        now = ap live_rows is ∙ live_edited old model.most model.timed time edit accepts
            ∙ ap (λ rows. or_unchanged rows (edit_rows MAX_ROWS rows edit)) (model.now ∙ rows_whole)
            ∙ sym (rows_after_more MAX_ROWS [] standing.edits edit)
            ∙ sym (ap (rows_after MAX_ROWS []) (take_all (length (standing.edits ++ edit ∷ [])) (standing.edits ++ edit ∷ []) (omega arith)));
        pinned = subst (λ (s : Store). AllByRecursion (λ n. rows_at n s.kept ≡ rows_then (with_edit standing edit) n) (stamps standing.opened)) (sym is) stay;
        apart = model.apart;
      }

  -- ---- one more session, which reads the rows of now
  pub model_begun : (session : OpenSession) → session.stamp ≡ length standing.edits → AllByRecursion (λ n. (n == session.sid) ≡ false) (map (λ session. session.sid) standing.opened)
      → IsModel stage (record standing { opened = standing.opened ++ session ∷ [] })
  model_begun session at apart =
      let old : Store = store_of stage standing in
      let pins : stamps (standing.opened ++ session ∷ []) ≡ stamps standing.opened ++ session.stamp ∷ [] = map-append (λ (s : OpenSession). s.stamp) standing.opened (session ∷ []) in
      let here : rows_at session.stamp old.kept ≡ rows_then standing session.stamp = ap (λ n. rows_at n old.kept) (at ∙ sym model.stamp) ∙ model.now ∙ ap (rows_then standing) (sym at) in
      record {
        timed = record {
          stamp = model.timed.stamp;
          pins = subst (λ (ps : List ℕ). AllByRecursion (λ s. s ≤ old.stamp) ps) (sym pins) (all_push (λ s. s ≤ old.stamp) (stamps standing.opened) session.stamp model.timed.pins (let e = model.stamp in omega (arith, at, e)));
          dated = model.timed.dated;
        };
        most = model.most;
        stamp = model.stamp;
        now = model.now;
        pinned = subst (λ (ps : List ℕ). AllByRecursion (λ s. rows_at s old.kept ≡ rows_then standing s) ps) (sym pins)
            (all_push (λ s. rows_at s old.kept ≡ rows_then standing s) (stamps standing.opened) session.stamp model.pinned here);
        apart = subst (IsDistinct (λ a b. a == b)) (sym (map-append (λ (s : OpenSession). s.sid) standing.opened (session ∷ []))) (distinct_push (map (λ (s : OpenSession). s.sid) standing.opened) session.sid model.apart apart);
      }

  -- ---- a session in the place of one of its number and stamp
  module _ (i : ℕ) (was now : OpenSession) (place : was ≡ get_or standing.opened i was) (sid : now.sid ≡ was.sid) (stamp : now.stamp ≡ was.stamp) where
    same_stamps : stamps (set standing.opened i now) ≡ stamps standing.opened
    same_stamps = map-set_same (λ (s : OpenSession). s.stamp) standing.opened i now was (stamp ∙ ap (λ (s : OpenSession). s.stamp) place)

    same_sids : map (λ (s : OpenSession). s.sid) (set standing.opened i now) ≡ map (λ (s : OpenSession). s.sid) standing.opened
    same_sids = map-set_same (λ (s : OpenSession). s.sid) standing.opened i now was (sid ∙ ap (λ (s : OpenSession). s.sid) place)

    pub store_stepped : store_of stage (record standing { opened = set standing.opened i now }) ≡ store_of stage standing
    store_stepped = ap (λ (pins : List ℕ). let s : Store = record (store_of stage standing) { pins = pins } in s) same_stamps

    pub model_stepped : IsModel stage (record standing { opened = set standing.opened i now })
    model_stepped = record {
      timed = subst IsTimed (sym store_stepped) model.timed;
      most = model.most;
      stamp = model.stamp;
      now = model.now;
      pinned = subst (λ (ps : List ℕ). AllByRecursion (λ s. rows_at s (store_of stage standing).kept ≡ rows_then standing s) ps) (sym same_stamps) model.pinned;
      apart = subst (IsDistinct (λ a b. a == b)) (sym same_sids) model.apart;
    }

  -- ---- and one session less
  pub stamps_less : (i : ℕ) → stamps (remove standing.opened i) ≡ remove (stamps standing.opened) i
  stamps_less i = map_remove (λ (s : OpenSession). s.stamp) standing.opened i

  pub model_ended : (i : ℕ) → IsModel stage (record standing { opened = remove standing.opened i })
  model_ended i =
      let old : Store = store_of stage standing in
      record {
        timed = record {
          stamp = model.timed.stamp;
          pins = subst (λ (ps : List ℕ). AllByRecursion (λ s. s ≤ old.stamp) ps) (sym (stamps_less i)) (all_remove (λ s. s ≤ old.stamp) (stamps standing.opened) i model.timed.pins);
          dated = model.timed.dated;
        };
        most = model.most;
        stamp = model.stamp;
        now = model.now;
        pinned = subst (λ (ps : List ℕ). AllByRecursion (λ s. rows_at s old.kept ≡ rows_then standing s) ps) (sym (stamps_less i)) (all_remove (λ s. rows_at s old.kept ≡ rows_then standing s) (stamps standing.opened) i model.pinned);
        apart = subst (IsDistinct (λ a b. a == b)) (sym (map_remove (λ (s : OpenSession). s.sid) standing.opened i)) (distinct_remove (map (λ (s : OpenSession). s.sid) standing.opened) i model.apart);
      }
