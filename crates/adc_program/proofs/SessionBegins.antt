-- A line that begins a session: why it is refused, and what a session that was opened leaves.
use Rattle.std.proofs.Common.{◌≡◌, ℕ, ◌+◌, ◌*◌, ◌≤◌, ◌<◌, Bool, true, false, ◌==◌, if◌then◌else◌, List, [], ◌∷◌, ◌++◌, length, map, refl, sym, ap, ap₂, ◌∙◌, subst, arith, inl, inr}
use Rattle.std.specs.Prelude.{Option, Some, None, is_some, codes, nat_le, slice_index_or}
use Rattle.std.specs.List.{AllByRecursion, list_any, position}
use Rattle.std.proofs.lemmas.Bool.{cases_Bool}
use Rattle.std.proofs.lemmas.Grind.{common_steps}
use Rattle.std.proofs.lemmas.List.{map-append, length-map}
use Rattle.std.proofs.lemmas.List.Folds.{list_any_at}
use Rattle.std.proofs.lemmas.List.Quantifiers.{position-Some}
use Rattle.std.proofs.lemmas.List.Sums.{sum_by-append}
use Rattle.id_filter.proofs.Whole.{list_any_map}
use Rattle.cell_store.specs.State.{Store}
use Rattle.cell_store.specs.Held.{KeepsAs, IsTimed}
use Rattle.cell_store.proofs.StoreLemmas.{keeps_pin}
use Rattle.play_script.specs.declared.Cause.{Cause}
use Rattle.play_script.specs.declared.Cause.TheVariants.{Taken, Sessions}
use Rattle.play_script.specs.declared.SessionCommand.TheVariants.{Begin}
use Rattle.play_script.specs.Texts.{refused, begin_done}
use Rattle.play_script.specs.Play.{Stage, Counts, ranges_of, full_sum, sum_limit}
use Rattle.play_script.specs.Sessions.{Standing, OpenSession, SessionReply, store_of, session_reply, begins, refuses, unless, visited_by, query_cause as asked_cause, begin_cause}
use Rattle.query_engine.specs.State.{pinned_now}
use Rattle.prune_scan.specs.declared.meters.Meters.{Meters}
use Rattle.adc_program.specs.declared.opened.HeldSession.{HeldSession}
use Rattle.adc_program.specs.Queries.{query_cause, or_else, begin_line_cause}
use Rattle.adc_program.specs.SessionStates.{Known, known, known_of, StandsAs, IsNext, open_counts}
use Rattle.adc_program.proofs.Places.{all_from_none, any_none}
use Rattle.adc_program.proofs.SessionModels.{model_begun}

-- ---- why a line is refused, told from elements with these numbers

not_some : {X : Type 0} (o : Option X) → is_some o ≡ false → o ≡ None
not_some None h = refl
not_some (Some x) h = cc

module _ {X : Type 0} (key : X → ℕ) (xs : List X) (sid rows number k wanted : ℕ) (none : query_cause rows number k wanted ≡ None) where
  any_there : is_some (position (λ x. key x == sid) xs) ≡ true → list_any (λ x. key x == sid) xs ≡ true
  any_there = by (position (λ x. key x == sid) xs) refl
    where
      at : (xs : List X) (i : ℕ) → position (λ x. key x == sid) xs ≡ Some i → list_any (λ x. key x == sid) xs ≡ true
      at [] i h = cc
      at (x ∷ xs) i h = let there = position-Some (λ x. key x == sid) (x ∷ xs) i x h in list_any_at (λ x. key x == sid) (x ∷ xs) i x there.0 there.1

      by : (o : Option ℕ) → position (λ x. key x == sid) xs ≡ o → is_some o ≡ true → list_any (λ x. key x == sid) xs ≡ true
      by None e h = cc
      by (Some i) e h = at xs i e

  cause_is : begin_line_cause rows (map key xs) sid number k wanted ≡ (if list_any (λ x. key x == sid) xs then Some Taken else (if nat_le 64 (length xs) then Some Sessions else None))
  cause_is =
      ap (λ (o : Option Cause). or_else o (if list_any (λ n. n == sid) (map key xs) then Some Taken else (if nat_le 64 (length (map key xs)) then Some Sessions else None))) none
      ∙ ap₂ (λ (b : Bool) (n : ℕ). let o : Option Cause = if b then Some Taken else (if nat_le 64 n then Some Sessions else None) in o) (list_any_map (λ n. n == sid) key xs) (length-map xs key)

  pub taken_cause : is_some (position (λ x. key x == sid) xs) ≡ true → begin_line_cause rows (map key xs) sid number k wanted ≡ Some Taken
  taken_cause there = cause_is ∙ ap (λ (b : Bool). let o : Option Cause = if b then Some Taken else (if nat_le 64 (length xs) then Some Sessions else None) in o) (any_there there)

  pub room_cause : is_some (position (λ x. key x == sid) xs) ≡ false → (full : Bool) → nat_le 64 (length xs) ≡ full → begin_line_cause rows (map key xs) sid number k wanted ≡ (if full then Some Sessions else None)
  room_cause absent full room =
      cause_is ∙ ap₂ (λ (b f : Bool). let o : Option Cause = if b then Some Taken else (if f then Some Sessions else None) in o)
      (any_none key sid xs (all_from_none (λ x. key x == sid) xs (not_some (position (λ x. key x == sid) xs) absent))) room

pub full_room : (n : ℕ) → 64 ≤ n → nat_le 64 n ≡ true
full_room n h = grind (arith, common_steps)

pub free_room : (n : ℕ) → n < 64 → nat_le 64 n ≡ false
free_room n h = grind (arith, common_steps)

-- where no cause is told, no element has the number
free_number : (first : Option Cause) (taken full : Bool) → or_else first (if taken then Some Taken else (if full then Some Sessions else None)) ≡ None → taken ≡ false
free_number None true full h = cc
free_number None false full h = refl
free_number (Some why) taken full h = cc

none_of : (ns : List ℕ) (sid : ℕ) → list_any (λ n. n == sid) ns ≡ false → AllByRecursion (λ n. (n == sid) ≡ false) ns
none_of [] sid h = tt
none_of (n ∷ ns) sid h = elim (cases_Bool (n == sid)) [
  | inl same ↦ absurd (let e : list_any (λ m. m == sid) (n ∷ ns) ≡ true = simp same refl in cc)
  | inr other ↦ (other, none_of ns sid (let e : list_any (λ m. m == sid) (n ∷ ns) ≡ list_any (λ m. m == sid) ns = simp other refl in sym e ∙ h))
]

-- ---- the reply to the line

two_causes : (a b : Option Cause) (verb : List ℕ) (n : ℕ) (standing : Standing) (done : SessionReply) → unless a verb n standing (unless b verb n standing done) ≡ unless (or_else a b) verb n standing done
two_causes None b verb n standing done = refl
two_causes (Some why) b verb n standing done = refl

begin_reply : (stage : Stage) (standing : Standing) (sid row k wanted : ℕ)
    → session_reply stage standing (Begin sid row k wanted) ≡ unless (begin_line_cause (length stage.queries) (map (λ (s : OpenSession). s.sid) standing.opened) sid row k wanted) (codes "begin") sid standing (begins standing sid row k wanted)
unfolding session_reply
begin_reply stage standing sid row k wanted =
    let ids : List ℕ = map (λ (s : OpenSession). s.sid) standing.opened in
    let same : begin_cause standing sid ≡ (if list_any (λ n. n == sid) ids then Some Taken else (if nat_le 64 (length ids) then Some Sessions else None)) =
    sym (ap₂ (λ (b : Bool) (n : ℕ). let o : Option Cause = if b then Some Taken else (if nat_le 64 n then Some Sessions else None) in o)
    (list_any_map (λ n. n == sid) (λ (s : OpenSession). s.sid) standing.opened) (length-map standing.opened (λ (s : OpenSession). s.sid))) in
    two_causes (asked_cause stage row k wanted) (begin_cause standing sid) (codes "begin") sid standing (begins standing sid row k wanted)
    ∙ ap (λ (o : Option Cause). unless (or_else (asked_cause stage row k wanted) o) (codes "begin") sid standing (begins standing sid row k wanted)) same

module _ {S : Type 0} (stage : Stage) (standing : Standing) (store : Store) (held : List (HeldSession S)) (stands : StandsAs stage standing store held)
    (sid row k wanted rows : ℕ) (size : rows ≡ length stage.queries) where
  ids_same : map (λ (h : HeldSession S). h.sid) held ≡ map (λ (s : OpenSession). s.sid) standing.opened
  ids_same = sym (of_held held) ∙ ap (map (λ (n : Known). n.sid)) stands.sessions ∙ of_opened standing.opened
    where
      of_held : (hs : List (HeldSession S)) → map (λ (n : Known). n.sid) (map known hs) ≡ map (λ (h : HeldSession S). h.sid) hs
      of_held [] = refl
      of_held (h ∷ hs) = ap (λ (l : List ℕ). h.sid ∷ l) (of_held hs)

      of_opened : (os : List OpenSession) → map (λ (n : Known). n.sid) (map (known_of stage) os) ≡ map (λ (s : OpenSession). s.sid) os
      of_opened [] = refl
      of_opened (o ∷ os) = ap (λ (l : List ℕ). o.sid ∷ l) (of_opened os)

  abbrev cause : Option Cause
  cause = begin_line_cause rows (map (λ (h : HeldSession S). h.sid) held) sid row k wanted

  reply_is : session_reply stage standing (Begin sid row k wanted) ≡ unless cause (codes "begin") sid standing (begins standing sid row k wanted)
  reply_is = begin_reply stage standing sid row k wanted
      ∙ ap₂ (λ (n : ℕ) (ids : List ℕ). unless (begin_line_cause n ids sid row k wanted) (codes "begin") sid standing (begins standing sid row k wanted)) (sym size) (sym ids_same)

  pub refused_begin : (why : Cause) → cause ≡ Some why → (line : List ℕ) → line ≡ refused (codes "begin") sid why → (meters : Meters)
      → ((session_reply stage standing (Begin sid row k wanted)).lines ≡ line ∷ []) × IsNext stage standing (session_reply stage standing (Begin sid row k wanted)) store held meters meters
  refused_begin why told line is meters =
      let e : session_reply stage standing (Begin sid row k wanted) ≡ refuses why (codes "begin") sid standing =
      reply_is ∙ ap (λ (o : Option Cause). unless o (codes "begin") sid standing (begins standing sid row k wanted)) told in (
        ap (λ (r : SessionReply). r.lines) e ∙ ap (λ (l : List ℕ). l ∷ []) (sym is),
        subst (λ (r : SessionReply). IsNext stage standing r store held meters meters) (sym e) (record { stands = stands; spends = record { full = refl; pairs = (omega arith, omega arith) } }),
      )

  module _ (free : cause ≡ None) (time : IsTimed store) (store1 : Store) (held1 : List (HeldSession S)) (vector : List ℕ) (pinned : store1 ≡ pinned_now store) (is : vector ≡ slice_index_or stage.queries row [])
      (more : map known held1 ≡ map known held ++ record { sid = sid; stamp = store.stamp; vector = vector; k = k; wanted = wanted; ranges = ranges_of None; given = 0; over = false } ∷ []) where
    abbrev session : OpenSession
    session = record { sid = sid; stamp = length standing.edits; row = row; k = k; wanted = wanted; given = 0; over = false }

    abbrev after : Standing
    after = record standing { opened = standing.opened ++ session ∷ [] }

    stamp_is : store.stamp ≡ length standing.edits
    stamp_is = stands.keeps.stamp ∙ stands.model.stamp

    apart : AllByRecursion (λ n. (n == sid) ≡ false) (map (λ (s : OpenSession). s.sid) standing.opened)
    apart = subst (AllByRecursion (λ n. (n == sid) ≡ false)) ids_same
        (none_of (map (λ (h : HeldSession S). h.sid) held) sid (free_number (query_cause rows row k wanted) _ (nat_le 64 (length (map (λ (h : HeldSession S). h.sid) held))) free))

    keeps : KeepsAs store1 (store_of stage after)
    keeps =
        let old : Store = store_of stage standing in
        let pins : old.pins ++ old.stamp ∷ [] ≡ map (λ (s : OpenSession). s.stamp) after.opened =
        ap (λ (n : ℕ). old.pins ++ n ∷ []) stands.model.stamp ∙ sym (map-append (λ (s : OpenSession). s.stamp) standing.opened (session ∷ [])) in
        subst (λ (m : Store). KeepsAs store1 m) (ap (λ (ps : List ℕ). let s : Store = record old { pins = ps } in s) pins)
        (subst (λ (s : Store). KeepsAs s (record old { pins = old.pins ++ old.stamp ∷ [] })) (sym pinned) (keeps_pin store old time stands.model.timed stands.keeps))

    sessions : map known held1 ≡ map (known_of stage) after.opened
    sessions =
        more
        ∙ ap₂ (λ (ks : List Known) (n : Known). ks ++ n ∷ []) stands.sessions
        (ap₂ (λ (n : ℕ) (v : List ℕ). let one : Known = record { sid = sid; stamp = n; vector = v; k = k; wanted = wanted; ranges = ranges_of None; given = 0; over = false } in one) stamp_is is)
        ∙ sym (map-append (known_of stage) standing.opened (session ∷ []))

    counts_more : open_counts stage after ≡ open_counts stage standing ++ visited_by stage standing session ∷ []
    counts_more = map-append (visited_by stage standing) standing.opened (session ∷ [])

    pub opened_begin : (line : List ℕ) → line ≡ begin_done sid store.stamp → (old new : Meters) → new.full ≡ old.full → old.pairs ≤ new.pairs → new.pairs ≤ old.pairs + 1
        → ((session_reply stage standing (Begin sid row k wanted)).lines ≡ line ∷ []) × IsNext stage standing (session_reply stage standing (Begin sid row k wanted)) store1 held1 old new
    opened_begin line text old new full low high =
        let e : session_reply stage standing (Begin sid row k wanted) ≡ begins standing sid row k wanted =
        reply_is ∙ ap (λ (o : Option Cause). unless o (codes "begin") sid standing (begins standing sid row k wanted)) free in
        let seen : Counts = visited_by stage standing session in
        let none : seen.full ≡ 0 = refl in (
          ap (λ (r : SessionReply). r.lines) e ∙ ap (λ (l : List ℕ). l ∷ []) (sym (text ∙ ap (begin_done sid) stamp_is)),
          subst (λ (r : SessionReply). IsNext stage standing r store1 held1 old new) (sym e) (record {
            stands = record { model = model_begun stage standing stands.model session refl apart; keeps = keeps; sessions = sessions };
            spends = record {
              full = omega (arith, full, none, ap full_sum counts_more, sum_by-append (λ (q : Counts). q.full) (open_counts stage standing) (seen ∷ []));
              pairs = (low, omega (arith, high, ap sum_limit counts_more, sum_by-append (λ (q : Counts). 2 * q.cells + 1) (open_counts stage standing) (seen ∷ [])));
            };
          }),
        )
