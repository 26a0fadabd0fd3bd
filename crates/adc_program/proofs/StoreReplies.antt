-- Lines over a store: what is printed of a change that is made or refused, and the same over stores that keep the same.
use Rattle.std.proofs.Common.{◌≡◌, ℕ, ◌≤◌, ◌<◌, true, false, List, [], ◌∷◌, length, Ok, Err, refl, sym, ap, ap₂, ◌∙◌, subst, arith}
use Rattle.std.specs.Prelude.{Option, Some, None, codes, nat_lt, if◌then◌else◌}
use Rattle.std.proofs.lemmas.Bool.{lt-ltb, le-ltb, le-leb, lt-leb}
use Rattle.book_model.specs.Book.{Book}
use Rattle.book_model.specs.Rows.{Row, cell_of, has_id}
use Rattle.cell_store.specs.State.{Store, live_rows, inserted, Changes, PinnedStay}
use Rattle.cell_store.specs.Held.{deleted, put_done as with_put, put_cause, KeepsAs, IsTimed}
use Rattle.cell_store.specs.Refusals.{RefusesAs, insert_refusal}
use Rattle.cell_store.specs.declared.InsertRefusal.{InsertRefusal}
use Rattle.cell_store.specs.declared.InsertRefusal.TheVariants as insert
use Rattle.cell_store.specs.declared.PutRefusal.{PutRefusal}
use Rattle.cell_store.specs.declared.PutRefusal.TheVariants as put
use Rattle.cell_store.proofs.StoreLemmas.{keeps_same, same_live, same_insert_refusal, same_put_cause, keeps_deleted, keeps_put, keeps_inserted}
use Rattle.play_script.specs.declared.Command.{Command}
use Rattle.play_script.specs.declared.Command.TheVariants.{Insert, Delete, Put, Query}
use Rattle.play_script.specs.declared.Cause.{Cause}
use Rattle.play_script.specs.declared.Cause.TheVariants as cause
use Rattle.play_script.specs.Texts.{insert_done, refused, delete_done, put_done}
use Rattle.play_script.specs.Play.{Means, Stage, Asking, base_row, asked, ranges_of, found_by}
use Rattle.play_script.specs.Sessions.{cause_of_insert, cause_of_put}
use Rattle.adc_program.specs.Queries.{query_cause}
use Rattle.adc_program.specs.StoreReplies.{StoreReply, says, unless, number_cause, with_insert, with_vector, insert_over, put_over, query_over, store_reply, IsReply, StaysPinned, SameReply}

-- ---- what a store's answer tells of its cause

refusal_none : {E T : Type 0} (o : Option E) (memory : E) (x : T) → RefusesAs {T = T} o memory (Ok x) → o ≡ None
refusal_none None memory x h = refl
refusal_none (Some c) memory x h = elim h [ ]

refusal_some : {E : Type 0} (T : Type 0) (o : Option E) (memory why : E) → RefusesAs {T = T} o memory (Err why) → (why ≡ memory → ⊥) → o ≡ Some why
refusal_some T None memory why h other = absurd (other h)
refusal_some T (Some c) memory why h other = ap Some (sym h)

-- a reply of one line
pub is_reply : (line text : List ℕ) (new store : Store) (reply : StoreReply) → reply ≡ says text store → line ≡ text → KeepsAs new store → IsReply line new reply
is_reply line text new store reply is same keeps = record {
  lines = ap (λ (r : StoreReply). r.lines) is ∙ ap (λ (t : List ℕ). t ∷ []) (sym same);
  keeps = subst (λ (s : Store). KeepsAs new s) (sym (ap (λ (r : StoreReply). r.after) is)) keeps;
  queries = ap (λ (r : StoreReply). r.queries) is;
}

pub keeps_stay : (new store : Store) → new ≡ store → KeepsAs new store
keeps_stay new store e = subst (λ (s : Store). KeepsAs s store) (sym e) (keeps_same store)

module _ (means : Means) (book : Book) (store new : Store) (id : ℕ) (v line : List ℕ) where
  pub insert_made : {T : Type 0} (x : T) → RefusesAs {T = T} (insert_refusal store id) insert.Memory (Ok x) → new ≡ inserted store (means.row book id v) → line ≡ insert_done id (cell_of book v) → IsReply line new (insert_over means book store id v)
  insert_made x accepted is text =
      is_reply line (insert_done id (cell_of book v)) new (inserted store (means.row book id v)) (insert_over means book store id v)
      (ap (λ (o : Option InsertRefusal). unless (cause_of_insert o) (codes "insert") id store (with_insert means book store id v)) (refusal_none (insert_refusal store id) insert.Memory x accepted))
      text (keeps_stay new (inserted store (means.row book id v)) is)

  pub insert_unmade : (T : Type 0) (refusal : InsertRefusal) (why : Cause) → RefusesAs {T = T} (insert_refusal store id) insert.Memory (Err refusal) → (refusal ≡ insert.Memory → ⊥) → cause_of_insert (Some refusal) ≡ Some why
      → line ≡ refused (codes "insert") id why → new ≡ store → IsReply line new (insert_over means book store id v)
  insert_unmade T refusal why refuses other is text stays =
      is_reply line (refused (codes "insert") id why) new store (insert_over means book store id v)
      (ap (λ (o : Option InsertRefusal). unless (cause_of_insert o) (codes "insert") id store (with_insert means book store id v)) (refusal_some T (insert_refusal store id) insert.Memory refusal refuses other)
      ∙ ap (λ (o : Option Cause). unless o (codes "insert") id store (with_insert means book store id v)) is)
      text (keeps_stay new store stays)

  pub put_made : {T : Type 0} (x : T) → RefusesAs {T = T} (put_cause store (means.row book id v)) put.Memory (Ok x) → KeepsAs new (with_put store (means.row book id v))
      → line ≡ put_done id (cell_of book v) (if has_id (live_rows store) id then codes "replaced" else codes "added") → IsReply line new (put_over means book store id v)
  put_made x accepted keeps text =
      is_reply line (put_done id (cell_of book v) (if has_id (live_rows store) id then codes "replaced" else codes "added")) new (with_put store (means.row book id v)) (put_over means book store id v)
      (ap (λ (o : Option PutRefusal). unless (cause_of_put o) (codes "put") id store (with_vector means book store id v)) (refusal_none (put_cause store (means.row book id v)) put.Memory x accepted)) text keeps

  pub put_unmade : (T : Type 0) (refusal : PutRefusal) (why : Cause) → RefusesAs {T = T} (put_cause store (means.row book id v)) put.Memory (Err refusal) → (refusal ≡ put.Memory → ⊥) → cause_of_put (Some refusal) ≡ Some why
      → line ≡ refused (codes "put") id why → new ≡ store → IsReply line new (put_over means book store id v)
  put_unmade T refusal why refuses other is text stays =
      is_reply line (refused (codes "put") id why) new store (put_over means book store id v)
      (ap (λ (o : Option PutRefusal). unless (cause_of_put o) (codes "put") id store (with_vector means book store id v)) (refusal_some T (put_cause store (means.row book id v)) put.Memory refusal refuses other)
      ∙ ap (λ (o : Option Cause). unless o (codes "put") id store (with_vector means book store id v)) is)
      text (keeps_stay new store stays)

-- ---- a line by its numbers

module _ (means : Means) (stage : Stage) (store : Store) (id number : ℕ) (count : ℕ) (are : count ≡ length stage.base) where
  pub insert_refused_row : (line : List ℕ) → count ≤ number → line ≡ refused (codes "insert") id cause.Row → IsReply line store (store_reply means stage store (Insert id number))
  unfolding store_reply
  insert_refused_row line past e =
      is_reply line (refused (codes "insert") id cause.Row) store store _ (let h : length stage.base ≤ number = omega arith in simp (le-leb (length stage.base) number h) refl) e (keeps_same store)

  pub insert_refused_id : (line : List ℕ) → number < count → 2147483647 < id → line ≡ refused (codes "insert") id cause.Id → IsReply line store (store_reply means stage store (Insert id number))
  unfolding store_reply
  insert_refused_id line there big e =
      is_reply line (refused (codes "insert") id cause.Id) store store _
      (let h : number < length stage.base = omega arith in simp (lt-leb (length stage.base) number h, lt-ltb 2147483647 id big) refl) e (keeps_same store)

  pub insert_on : (book : Book) (v line : List ℕ) (new : Store) → stage.book ≡ book → base_row stage number ≡ v → number < count → id ≤ 2147483647
      → IsReply line new (insert_over means book store id v) → IsReply line new (store_reply means stage store (Insert id number))
  unfolding store_reply
  insert_on book v line new same row there small h =
      let is : store_reply means stage store (Insert id number) ≡ insert_over means book store id v =
      (let h : number < length stage.base = omega arith in simp (lt-leb (length stage.base) number h, le-ltb 2147483647 id small) (ap₂ (λ (b : Book) (w : List ℕ). insert_over means b store id w) same row)) in
      subst (λ (r : StoreReply). IsReply line new r) (sym is) h

  pub put_refused_row : (line : List ℕ) → count ≤ number → line ≡ refused (codes "put") id cause.Row → IsReply line store (store_reply means stage store (Put id number))
  unfolding store_reply
  put_refused_row line past e =
      is_reply line (refused (codes "put") id cause.Row) store store _ (let h : length stage.base ≤ number = omega arith in simp (le-leb (length stage.base) number h) refl) e (keeps_same store)

  pub put_refused_id : (line : List ℕ) → number < count → 2147483647 < id → line ≡ refused (codes "put") id cause.Id → IsReply line store (store_reply means stage store (Put id number))
  unfolding store_reply
  put_refused_id line there big e =
      is_reply line (refused (codes "put") id cause.Id) store store _
      (let h : number < length stage.base = omega arith in simp (lt-leb (length stage.base) number h, lt-ltb 2147483647 id big) refl) e (keeps_same store)

  pub put_on : (book : Book) (v line : List ℕ) (new : Store) → stage.book ≡ book → base_row stage number ≡ v → number < count → id ≤ 2147483647
      → IsReply line new (put_over means book store id v) → IsReply line new (store_reply means stage store (Put id number))
  unfolding store_reply
  put_on book v line new same row there small h =
      let is : store_reply means stage store (Put id number) ≡ put_over means book store id v =
      (let h : number < length stage.base = omega arith in simp (lt-leb (length stage.base) number h, le-ltb 2147483647 id small) (ap₂ (λ (b : Book) (w : List ℕ). put_over means b store id w) same row)) in
      subst (λ (r : StoreReply). IsReply line new r) (sym is) h

module _ (means : Means) (stage : Stage) (store : Store) (id : ℕ) where
  pub delete_refused_id : (line : List ℕ) → 2147483647 < id → line ≡ refused (codes "delete") id cause.Id → IsReply line store (store_reply means stage store (Delete id))
  unfolding store_reply
  delete_refused_id line big e = is_reply line (refused (codes "delete") id cause.Id) store store _ (simp (lt-ltb 2147483647 id big) refl) e (keeps_same store)

  pub delete_absent : (line : List ℕ) (new : Store) → id ≤ 2147483647 → has_id (live_rows store) id ≡ false → line ≡ refused (codes "delete") id cause.Absent → new ≡ store → IsReply line new (store_reply means stage store (Delete id))
  unfolding store_reply
  delete_absent line new small absent e stays =
      is_reply line (refused (codes "delete") id cause.Absent) new store _ (simp (le-ltb 2147483647 id small, absent) refl) e (keeps_stay new store stays)

  pub delete_made : (line : List ℕ) (new : Store) → id ≤ 2147483647 → has_id (live_rows store) id ≡ true → line ≡ delete_done id → KeepsAs new (deleted store id) → IsReply line new (store_reply means stage store (Delete id))
  unfolding store_reply
  delete_made line new small there e keeps = is_reply line (delete_done id) new (deleted store id) _ (simp (le-ltb 2147483647 id small, there) refl) e keeps

-- a query line
module _ (means : Means) (stage : Stage) (store : Store) (number k wanted : ℕ) (ids : Option (ℕ × ℕ)) where
  pub query_refused : (why : Cause) → query_cause (length stage.queries) number k wanted ≡ Some why → store_reply means stage store (Query number k wanted ids) ≡ says (refused (codes "query") number why) store
  unfolding store_reply
  query_refused why e = ap (λ (o : Option Cause). unless o (codes "query") number store (query_over means stage store number k wanted ids)) e

  pub query_found : query_cause (length stage.queries) number k wanted ≡ None → store_reply means stage store (Query number k wanted ids) ≡ query_over means stage store number k wanted ids
  unfolding store_reply
  query_found e = ap (λ (o : Option Cause). unless o (codes "query") number store (query_over means stage store number k wanted ids)) e

  after_by : (why : Option Cause) → (unless why (codes "query") number store (query_over means stage store number k wanted ids)).after ≡ store
  after_by None = refl
  after_by (Some why) = refl

  -- leaves the store
  pub query_after : (store_reply means stage store (Query number k wanted ids)).after ≡ store
  unfolding store_reply
  query_after = after_by (query_cause (length stage.queries) number k wanted)

-- ---- what is pinned stays

pub stays_same : (old new : Store) → new ≡ old → StaysPinned old new
stays_same old new e = record { pins = ap (λ (s : Store). s.pins) e; rows = subst (PinnedStay old) (sym e) (λ s has. refl) }

pub stays_changed : (old new : Store) (rows : List Row) → Changes old new rows → StaysPinned old new
stays_changed old new rows changes = record { pins = changes.pins; rows = changes.pinned }

-- ---- the same line over a store that keeps the same

same_unless : (s t : Store) → KeepsAs s t → (why why1 : Option Cause) → why ≡ why1 → (verb : List ℕ) (n : ℕ) (done done1 : StoreReply) → SameReply done done1 → SameReply (unless why verb n s done) (unless why1 verb n t done1)
same_unless s t keeps why why1 e verb n done done1 same = subst (λ (o : Option Cause). SameReply (unless why verb n s done) (unless o verb n t done1)) e (by why)
  where
    by : (why : Option Cause) → SameReply (unless why verb n s done) (unless why verb n t done1)
    by None = same
    by (Some w) = record { lines = refl; keeps = keeps; queries = refl }

pub same_reply : (means : Means) (stage : Stage) (s t : Store) → IsTimed s → IsTimed t → KeepsAs s t → (command : Command) → SameReply (store_reply means stage s command) (store_reply means stage t command)
unfolding store_reply
same_reply means stage s t is it keeps (Insert id row) =
    same_unless s t keeps _ _ (ap (λ (o : Option InsertRefusal). number_cause stage id row (cause_of_insert o)) (same_insert_refusal s t is it keeps id)) (codes "insert") id _ _
    (record { lines = refl; keeps = keeps_inserted s t is it keeps (means.row stage.book id (base_row stage row)); queries = refl })
same_reply means stage s t is it keeps (Delete id) =
    same_unless s t keeps _ _ (ap (λ (rows : List Row). let o : Option Cause = if nat_lt 2147483647 id then Some cause.Id else (if has_id rows id then None else Some cause.Absent) in o) (same_live s t is it keeps)) (codes "delete") id _ _
    (record { lines = refl; keeps = keeps_deleted s t is it keeps id; queries = refl })
same_reply means stage s t is it keeps (Put id row) =
    let stored = means.row stage.book id (base_row stage row) in
    same_unless s t keeps _ _ (ap (λ (o : Option PutRefusal). number_cause stage id row (cause_of_put o)) (same_put_cause s t is it keeps stored)) (codes "put") id _ _
    (record {
      lines = ap (λ (rows : List Row). put_done id (cell_of stage.book (base_row stage row)) (if has_id rows id then codes "replaced" else codes "added") ∷ []) (same_live s t is it keeps);
      keeps = keeps_put s t is it keeps stored;
      queries = refl;
    })
same_reply means stage s t is it keeps (Query row k wanted ids) =
    same_unless s t keeps _ _ refl (codes "query") row _ _
    (record {
      lines = ap (λ (rows : List Row). found_by means stage.book row (asked stage row k wanted (ranges_of ids)) rows) (same_live s t is it keeps);
      keeps = keeps;
      queries = ap (λ (rows : List Row). let all : List Asking = record { query = asked stage row k wanted (ranges_of ids); rows = rows } ∷ [] in all) (same_live s t is it keeps);
    })

-- a line that is all of a reply over one is so over the other
pub keeps_trans : (a b c : Store) → KeepsAs a b → KeepsAs b c → KeepsAs a c
keeps_trans a b c h k = record { sizes = (h.sizes.0 ∙ k.sizes.0, h.sizes.1 ∙ k.sizes.1, h.sizes.2 ∙ k.sizes.2); stamp = h.stamp ∙ k.stamp; pins = h.pins ∙ k.pins; held = h.held ∙ k.held }
