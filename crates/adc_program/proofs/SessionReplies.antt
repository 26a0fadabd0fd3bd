-- A line of a play between those of sessions: its reply is that over the store of the changes.
use Rattle.std.proofs.Common.{◌≡◌, ℕ, ◌+◌, ◌^◌, ◌≤◌, ◌<◌, Bool, true, false, List, [], ◌∷◌, length, map, refl, sym, ap, ◌∙◌, subst, arith, inl, inr}
use Rattle.std.specs.Prelude.{Option, Some, None, codes, nat_lt, nat_le, if◌then◌else◌}
use Rattle.std.specs.List.{AllByRecursion}
use Rattle.std.proofs.lemmas.Bool.{cases_Bool}
use Rattle.std.proofs.lemmas.List.{length_push}
use Rattle.book_model.specs.Rows.{Row, Edit, Insert as Inserts, Delete as Deletes, Put as Puts, row_of, cell_of, has_id}
use Rattle.cell_store.specs.State.{Store, live_rows}
use Rattle.cell_store.specs.Held.{put_cause}
use Rattle.cell_store.specs.Refusals.{insert_refusal}
use Rattle.cell_store.specs.declared.InsertRefusal.TheVariants as insert
use Rattle.cell_store.specs.declared.PutRefusal.TheVariants as put
use Rattle.play_script.specs.declared.Command.{Command}
use Rattle.play_script.specs.declared.Command.TheVariants.{Insert, Delete, Put, Query}
use Rattle.play_script.specs.declared.Cause.{Cause}
use Rattle.play_script.specs.declared.Cause.TheVariants as cause
use Rattle.play_script.specs.Texts.{insert_done, put_done}
use Rattle.play_script.specs.Play.{Stage, by_codes, told_by, base_row, asked, ranges_of, counts_of, found}
use Rattle.play_script.specs.Sessions.{Standing, OpenSession, SessionReply, plain_reply, changes, unless as unless_refused, cause_of_insert, cause_of_put, store_of, edited, rows_then, visited_by, query_cause as asked_cause}
use Rattle.adc_program.specs.StoreReplies.{StoreReply, says, unless, number_cause, id_cause, with_insert, with_vector, query_over, store_reply}
use Rattle.adc_program.specs.SessionStates.{IsModel, open_counts}
use Rattle.adc_program.proofs.SessionModels.{Accepts, with_edit, store_edited, model_edited, stamps_small, rows_then_stay}

-- ---- where no cause is told, a store accepts

pub free_number : (stage : Stage) (id row : ℕ) (others : Option Cause) → number_cause stage id row others ≡ None → others ≡ None
free_number stage id row others h = elim (cases_Bool (nat_le (length stage.base) row)) [
  | inl past ↦ absurd (let e : number_cause stage id row others ≡ Some cause.Row = simp past refl in let two : ◌≡◌ {A = Option Cause} None (Some cause.Row) = sym h ∙ e in cc)
  | inr there ↦ elim (cases_Bool (nat_lt 2147483647 id)) [
    | inl big ↦ absurd (let e : number_cause stage id row others ≡ Some cause.Id = simp (there, big) refl in let two : ◌≡◌ {A = Option Cause} None (Some cause.Id) = sym h ∙ e in cc)
    | inr small ↦ (let e : number_cause stage id row others ≡ others = simp (there, small) refl in sym e ∙ h)
  ]
]

pub free_insert_cause : (there full held : Bool)
    → cause_of_insert (if there then Some insert.Present else (if full then Some insert.Full else (if held then Some insert.Held else None))) ≡ None
    → (if there then Some insert.Present else (if full then Some insert.Full else (if held then Some insert.Held else None))) ≡ None
free_insert_cause true full held h = cc
free_insert_cause false true held h = cc
free_insert_cause false false true h = cc
free_insert_cause false false false h = refl

free_put_cause : (full held : Bool) → cause_of_put (if full then Some put.Full else (if held then Some put.Held else None)) ≡ None → (if full then Some put.Full else (if held then Some put.Held else None)) ≡ None
free_put_cause true held h = cc
free_put_cause false true h = cc
free_put_cause false false h = refl

free_id : (store : Store) (id : ℕ) → id_cause store id ≡ None → has_id (live_rows store) id ≡ true
free_id store id h = elim (cases_Bool (nat_lt 2147483647 id)) [
  | inl big ↦ absurd (let e : id_cause store id ≡ Some cause.Id = simp big refl in let two : ◌≡◌ {A = Option Cause} None (Some cause.Id) = sym h ∙ e in cc)
  | inr small ↦ elim (cases_Bool (has_id (live_rows store) id)) [
    | inl there ↦ there
    | inr absent ↦ absurd (let e : id_cause store id ≡ Some cause.Absent = simp (small, absent) refl in let two : ◌≡◌ {A = Option Cause} None (Some cause.Absent) = sym h ∙ e in cc)
  ]
]

-- ---- the reply, and what stays

-- a reply is one over the store of the changes: the store of its changes is what that leaves, and no session changed
pub record IsLike (stage : Stage) (standing : Standing) (reply : SessionReply) (over : StoreReply) : Type 0 where
  pub lines : reply.lines ≡ over.lines
  pub visits : reply.visits ≡ told_by by_codes stage.book over.queries
  pub store : store_of stage reply.after ≡ over.after
  pub opened : reply.after.opened ≡ standing.opened
  pub model : IsModel stage reply.after
  pub counts : open_counts stage reply.after ≡ open_counts stage standing
  pub edits : length reply.after.edits ≤ length standing.edits + 1

module _ (stage : Stage) (standing : Standing) (model : IsModel stage standing) (few : length standing.edits < 2 ^ 62) where
  like_unless : (why why1 : Option Cause) → why ≡ why1 → (verb : List ℕ) (n : ℕ) (done : SessionReply) (over : StoreReply) → (why1 ≡ None → IsLike stage standing done over)
      → IsLike stage standing (unless_refused why verb n standing done) (unless why1 verb n (store_of stage standing) over)
  like_unless why why1 e verb n done over made = subst (λ (o : Option Cause). IsLike stage standing (unless_refused o verb n standing done) (unless why1 verb n (store_of stage standing) over)) (sym e) (by why1 made)
    where
      by : (why : Option Cause) → (why ≡ None → IsLike stage standing done over) → IsLike stage standing (unless_refused why verb n standing done) (unless why verb n (store_of stage standing) over)
      by None made = made refl
      by (Some w) made = record { lines = refl; visits = refl; store = refl; opened = refl; model = model; counts = refl; edits = omega arith }

  -- what sessions visited is told by the rows at their stamps
  counts_stay : (edit : Edit) (opened : List OpenSession) → AllByRecursion (λ s. s ≤ length standing.edits) (map (λ session. session.stamp) opened)
      → map (visited_by stage (with_edit standing edit)) opened ≡ map (visited_by stage standing) opened
  counts_stay edit [] all = refl
  counts_stay edit (session ∷ opened) all =
      let rows : rows_then (with_edit standing edit) session.stamp ≡ rows_then standing session.stamp = rows_then_stay standing edit session.stamp all.0 in
      rw (rows, counts_stay edit opened all.1) refl

  like_change : (text : List ℕ) (edit : Edit) (after : Store) (over : StoreReply) → over ≡ says text after → after ≡ edited (store_of stage standing) edit → Accepts (store_of stage standing) edit
      → IsLike stage standing (changes text edit standing) over
  like_change text edit after over is left accepts = record {
    lines = sym (ap (λ (r : StoreReply). r.lines) is);
    visits = sym (ap (λ (r : StoreReply). told_by by_codes stage.book r.queries) is);
    store = store_edited stage standing edit ∙ sym left ∙ sym (ap (λ (r : StoreReply). r.after) is);
    opened = refl;
    model = model_edited stage standing model edit few accepts;
    counts = counts_stay edit standing.opened (stamps_small stage standing model);
    edits = omega (arith, length_push standing.edits edit);
  }

  pub plain_like : (command : Command) → IsLike stage standing (plain_reply stage standing command) (store_reply by_codes stage (store_of stage standing) command)
  unfolding plain_reply store_reply
  plain_like (Insert id row) =
      let m : Store = store_of stage standing in
      like_unless _ (number_cause stage id row (cause_of_insert (insert_refusal m id))) refl (codes "insert") id _ (with_insert by_codes stage.book m id (base_row stage row)) (λ none.
      like_change (insert_done id (cell_of stage.book (base_row stage row))) (Inserts (row_of stage.book id (base_row stage row))) _ (with_insert by_codes stage.book m id (base_row stage row)) refl refl
      (free_insert_cause _ _ _ (free_number stage id row _ none)))
  plain_like (Delete id) =
      let m : Store = store_of stage standing in
      like_unless _ (id_cause m id) (ap (λ (rows : List Row). let o : Option Cause = if nat_lt 2147483647 id then Some cause.Id else (if has_id rows id then None else Some cause.Absent) in o) (sym model.now))
      (codes "delete") id _ _ (λ none. like_change _ (Deletes id) _ _ refl refl (free_id m id none))
  plain_like (Put id row) =
      let m : Store = store_of stage standing in
      let stored : Row = row_of stage.book id (base_row stage row) in
      like_unless _ (number_cause stage id row (cause_of_put (put_cause m stored))) refl (codes "put") id _ (with_vector by_codes stage.book m id (base_row stage row)) (λ none.
      like_change _ (Puts stored) _ (with_vector by_codes stage.book m id (base_row stage row))
      (ap (λ (rows : List Row). says (put_done id (cell_of stage.book (base_row stage row)) (if has_id rows id then codes "replaced" else codes "added")) (edited m (Puts stored))) model.now) refl
      (free_put_cause _ _ (free_number stage id row _ none)))
  plain_like (Query row k wanted ids) =
      let m : Store = store_of stage standing in
      like_unless (asked_cause stage row k wanted) _ refl (codes "query") row _ (query_over by_codes stage m row k wanted ids) (λ none. record {
        lines = ap (λ (rows : List Row). found stage.book row (asked stage row k wanted (ranges_of ids)) rows) (sym model.now);
        visits = ap (λ (rows : List Row). counts_of stage.book (asked stage row k wanted (ranges_of ids)) rows ∷ []) (sym model.now);
        store = refl;
        opened = refl;
        model = model;
        counts = refl;
        edits = omega arith;
      })
