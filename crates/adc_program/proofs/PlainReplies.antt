-- A line of a play without sessions: the reply over a store in which nothing is pinned is that over its live rows.
use Rattle.std.proofs.Common.{◌≡◌, ℕ, ◌^◌, ◌≤◌, ◌<◌, Bool, true, false, List, [], ◌∷◌, ◌++◌, length, Ok, Err, refl, sym, ap, ◌∙◌, arith, inl, inr}
use Rattle.std.specs.Prelude.{Option, Some, None, codes, nat_lt, nat_le, if◌then◌else◌}
use Rattle.std.proofs.lemmas.Bool.{cases_Bool}
use Rattle.book_model.specs.Book.{Book}
use Rattle.book_model.specs.Rows.{Row, Full as IsFull, Edit, Insert as Inserts, Delete as Deletes, Put as Puts, cell_of, has_id, without, or_unchanged, edit_rows, insert_row, put_row, delete_row}
use Rattle.cell_store.specs.State.{Store, live_rows}
use Rattle.cell_store.specs.Held.{put_cause, KeepsAs, IsStore, IsTimed}
use Rattle.cell_store.specs.Refusals.{insert_refusal, put_refusal}
use Rattle.cell_store.specs.declared.PutRefusal.TheVariants as put
use Rattle.cell_store.proofs.StoreLemmas.{timed, timed_deleted, timed_put, same_live, put_cause_is}
use Rattle.play_script.specs.declared.Command.{Command}
use Rattle.play_script.specs.declared.Command.TheVariants.{Insert, Delete, Put, Query}
use Rattle.play_script.specs.declared.Cause.{Cause}
use Rattle.play_script.specs.declared.Cause.TheVariants as cause
use Rattle.play_script.specs.Texts.{insert_done, refused, delete_done, put_done}
use Rattle.play_script.specs.Play.{Means, Stage, Reply, base_row, one_line, reply}
use Rattle.play_script.specs.Sessions.{edited}
use Rattle.adc_program.specs.Work.{IsPlain}
use Rattle.adc_program.specs.Queries.{query_cause}
use Rattle.adc_program.specs.StoreReplies.{StoreReply, says, unless, store_reply}
use Rattle.adc_program.proofs.StoreReplies.{query_refused, query_found}
use Rattle.adc_program.proofs.QueryReplies as rows_replies
use Rattle.adc_program.proofs.SessionModels.{Accepts, live_edited, timed_edited}
use Rattle.adc_program.proofs.SessionReplies.{free_number, free_insert_cause}
use Rattle.adc_program.proofs.Unpinned.{insert_free, put_there, put_full, put_free}

-- the same lines, rows and queries
pub record IsPlainReply (over : StoreReply) (reply : Reply) : Type 0 where
  pub lines : over.lines ≡ reply.lines
  pub rows : live_rows over.after ≡ reply.rows
  pub queries : over.queries ≡ reply.queries

like : (text : List ℕ) (after : Store) (rows : List Row) (over : StoreReply) (r : Reply) → over ≡ says text after → r ≡ one_line text rows → live_rows after ≡ rows → IsPlainReply over r
like text after rows over r is by same = record {
  lines = ap (λ (o : StoreReply). o.lines) is ∙ sym (ap (λ (q : Reply). q.lines) by);
  rows = ap (λ (o : StoreReply). live_rows o.after) is ∙ same ∙ sym (ap (λ (q : Reply). q.rows) by);
  queries = ap (λ (o : StoreReply). o.queries) is ∙ sym (ap (λ (q : Reply). q.queries) by);
}

module _ (means : Means) (numbered : (book : Book) (id : ℕ) (v : List ℕ) → (means.row book id v).id ≡ id) (widths : List ℕ) (stage : Stage) (store : Store) (plain : IsPlain store) (is : IsStore widths store) (time : store.stamp < 2 ^ 62) where
  some : 1 ≤ store.most
  some = omega (arith, is.most)

  few : length (live_rows store) ≤ store.most
  few = is.few_live

  -- an accepted change leaves the rows that it does in the definition
  left : (edit : Edit) (after : List Row) → Accepts store edit → edit_rows 4194304 (live_rows store) edit ≡ Ok after → live_rows (edited store edit) ≡ after
  left edit after accepts done = live_edited store plain.most (timed widths store is) time edit accepts ∙ ap (or_unchanged (live_rows store)) done

  room_at : (b : Bool) → nat_le store.most (length (live_rows store)) ≡ b → nat_le 4194304 (length (live_rows store)) ≡ b
  room_at b h = ap (λ m. nat_le m (length (live_rows store))) (sym plain.most) ∙ h

  -- the row of a line has its id
  number_of : (id row : ℕ) → (means.row stage.book id (base_row stage row)).id ≡ id
  number_of id row = numbered stage.book id (base_row stage row)

  -- a store that refuses no row of the id accepts that one
  accepted : (id row : ℕ) → insert_refusal store id ≡ None → Accepts store (Inserts (means.row stage.book id (base_row stage row)))
  accepted id row free = ap (insert_refusal store) (number_of id row) ∙ free

  plain_insert : (id row : ℕ) → IsPlainReply (store_reply means stage store (Insert id row)) (reply means stage (live_rows store) (Insert id row))
  unfolding store_reply reply
  plain_insert id row = elim (cases_Bool (nat_le (length stage.base) row)) [
    | inl past ↦ like (refused (codes "insert") id cause.Row) store (live_rows store) _ _ (simp past refl) (simp past refl) refl
    | inr there ↦ elim (cases_Bool (nat_lt 2147483647 id)) [
      | inl big ↦ like (refused (codes "insert") id cause.Id) store (live_rows store) _ _ (simp (there, big) refl) (simp (there, big) refl) refl
      | inr small ↦ elim (cases_Bool (has_id (live_rows store) id)) [
        | inl e ↦ like (refused (codes "insert") id cause.Present) store (live_rows store) _ _ (simp (there, small, e) refl) (simp (there, small, number_of id row, e) refl) refl
        | inr e ↦ elim (cases_Bool (nat_le store.most (length (live_rows store)))) [
          | inl f ↦ like (refused (codes "insert") id cause.Full) store (live_rows store) _ _ (simp (there, small, e, f) refl) (simp (there, small, number_of id row, e, room_at true f) refl) refl
          | inr f ↦
              let stored : Row = means.row stage.book id (base_row stage row) in
              let free : insert_refusal store id ≡ None = insert_free store plain.pins some id e f in
              let done : insert_row 4194304 (live_rows store) stored ≡ Ok (live_rows store ++ stored ∷ []) = rw (number_of id row, e, room_at false f) refl in
              like (insert_done id (cell_of stage.book (base_row stage row))) (edited store (Inserts stored)) (live_rows store ++ stored ∷ []) _ _
              (simp (there, small, free) refl) (simp (there, small, done) refl) (left (Inserts stored) (live_rows store ++ stored ∷ []) (accepted id row free) done)
        ]
      ]
    ]
  ]

  plain_delete : (id : ℕ) → IsPlainReply (store_reply means stage store (Delete id)) (reply means stage (live_rows store) (Delete id))
  unfolding store_reply reply
  plain_delete id = elim (cases_Bool (nat_lt 2147483647 id)) [
    | inl big ↦ like (refused (codes "delete") id cause.Id) store (live_rows store) _ _ (simp big refl) (simp big refl) refl
    | inr small ↦ elim (cases_Bool (has_id (live_rows store) id)) [
      | inl there ↦
          let done : delete_row (live_rows store) id ≡ Ok (without (live_rows store) id) = rw there refl in
          like (delete_done id) (edited store (Deletes id)) (without (live_rows store) id) _ _ (simp (small, there) refl) (simp (small, done) refl) (left (Deletes id) (without (live_rows store) id) there done)
      | inr absent ↦ like (refused (codes "delete") id cause.Absent) store (live_rows store) _ _ (simp (small, absent) refl) (simp (small, absent) refl) refl
    ]
  ]

  plain_put : (id row : ℕ) → IsPlainReply (store_reply means stage store (Put id row)) (reply means stage (live_rows store) (Put id row))
  unfolding store_reply reply
  plain_put id row = elim (cases_Bool (nat_le (length stage.base) row)) [
    | inl past ↦ like (refused (codes "put") id cause.Row) store (live_rows store) _ _ (simp past refl) (simp past refl) refl
    | inr there ↦ elim (cases_Bool (nat_lt 2147483647 id)) [
      | inl big ↦ like (refused (codes "put") id cause.Id) store (live_rows store) _ _ (simp (there, big) refl) (simp (there, big) refl) refl
      | inr small ↦
          let stored : Row = means.row stage.book id (base_row stage row) in
          let same : put_cause store stored ≡ put_refusal store id = put_cause_is store (timed widths store is) stored is.apart ∙ ap (put_refusal store) (number_of id row) in
          let done_line : List ℕ = put_done id (cell_of stage.book (base_row stage row)) (if has_id (live_rows store) id then codes "replaced" else codes "added") in
          elim (cases_Bool (has_id (live_rows store) id)) [
            | inl e ↦
                let free : put_cause store stored ≡ None = same ∙ put_there store plain.pins some few id e in
                let done : put_row 4194304 (live_rows store) stored ≡ Ok (without (live_rows store) id ++ stored ∷ []) = rw (number_of id row, e) refl in
                like done_line (edited store (Puts stored)) (without (live_rows store) id ++ stored ∷ []) _ _
                (simp (there, small, free) refl) (simp (there, small, done) refl) (left (Puts stored) (without (live_rows store) id ++ stored ∷ []) free done)
            | inr e ↦ elim (cases_Bool (nat_le store.most (length (live_rows store)))) [
              | inl f ↦
                  let full : put_cause store stored ≡ Some put.Full = same ∙ put_full store plain.pins some few id e f in
                  let refuses : put_row 4194304 (live_rows store) stored ≡ Err IsFull = rw (number_of id row, e, room_at true f) refl in
                  like (refused (codes "put") id cause.Full) store (live_rows store) _ _ (simp (there, small, full) refl) (simp (there, small, refuses) refl) refl
              | inr f ↦
                  let free : put_cause store stored ≡ None = same ∙ put_free store plain.pins some few id e f in
                  let done : put_row 4194304 (live_rows store) stored ≡ Ok (live_rows store ++ stored ∷ []) = rw (number_of id row, e, room_at false f) refl in
                  like done_line (edited store (Puts stored)) (live_rows store ++ stored ∷ []) _ _
                  (simp (there, small, free) refl) (simp (there, small, done) refl) (left (Puts stored) (live_rows store ++ stored ∷ []) free done)
            ]
          ]
    ]
  ]

  query_by : (row k wanted : ℕ) (ids : Option (ℕ × ℕ)) (why : Option Cause) → query_cause (length stage.queries) row k wanted ≡ why
      → IsPlainReply (store_reply means stage store (Query row k wanted ids)) (reply means stage (live_rows store) (Query row k wanted ids))
  query_by row k wanted ids (Some why) e =
      like (refused (codes "query") row why) store (live_rows store) _ _ (query_refused means stage store row k wanted ids why e) (rows_replies.query_refused means stage (live_rows store) row k wanted ids why e) refl
  query_by row k wanted ids None e =
      let over = query_found means stage store row k wanted ids e in
      let by = rows_replies.query_found means stage (live_rows store) row k wanted ids e in
      record {
        lines = ap (λ (o : StoreReply). o.lines) over ∙ sym (ap (λ (q : Reply). q.lines) by);
        rows = ap (λ (o : StoreReply). live_rows o.after) over ∙ sym (ap (λ (q : Reply). q.rows) by);
        queries = ap (λ (o : StoreReply). o.queries) over ∙ sym (ap (λ (q : Reply). q.queries) by);
      }

  pub plain_reply : (command : Command) → IsPlainReply (store_reply means stage store command) (reply means stage (live_rows store) command)
  plain_reply (Insert id row) = plain_insert id row
  plain_reply (Delete id) = plain_delete id
  plain_reply (Put id row) = plain_put id row
  plain_reply (Query row k wanted ids) = query_by row k wanted ids (query_cause (length stage.queries) row k wanted) refl

  by_cause : (why : Option Cause) (verb : List ℕ) (n : ℕ) (done : StoreReply) → (why ≡ None → IsTimed done.after) → IsTimed (unless why verb n store done).after
  by_cause None verb n done f = f refl
  by_cause (Some why) verb n done f = timed widths store is

  -- and what is left is timed, so a store that keeps as much has its rows
  after_timed : (command : Command) → IsTimed (store_reply means stage store command).after
  unfolding store_reply
  after_timed (Insert id row) = by_cause _ (codes "insert") id _ (λ none. timed_edited store plain.most (timed widths store is) time (Inserts (means.row stage.book id (base_row stage row))) (accepted id row (free_insert_cause _ _ _ (free_number stage id row _ none))))
  after_timed (Delete id) = by_cause _ (codes "delete") id _ (λ none. timed_deleted store (timed widths store is) id time)
  after_timed (Put id row) = by_cause _ (codes "put") id _ (λ none. timed_put store (timed widths store is) (means.row stage.book id (base_row stage row)) time)
  after_timed (Query row k wanted ids) = by_cause _ (codes "query") row _ (λ none. timed widths store is)

  pub plain_left : (command : Command) (new : Store) → IsStore widths new → KeepsAs new (store_reply means stage store command).after → live_rows new ≡ (reply means stage (live_rows store) command).rows
  plain_left command new now_is keeps = same_live new (store_reply means stage store command).after (timed widths new now_is) (after_timed command) keeps ∙ (plain_reply command).rows
