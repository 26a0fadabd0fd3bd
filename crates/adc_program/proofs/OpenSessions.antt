-- The open sessions of an engine, after a change of its rows, and after one is opened, went a step or ended.
use Rattle.std.proofs.Common.{◌≡◌, ℕ, false, ◌≤◌, ◌<◌, List, [], ◌∷◌, ◌++◌, length, map, get_or, set, refl, sym, ap, ap₂, ◌∙◌, subst, arith}
use Rattle.std.specs.Prelude.{remove, slice_index}
use Rattle.std.specs.List.{AllByRecursion, Contains}
use Rattle.std.proofs.lemmas.List.{map-append, get_or-map, length-map}
use Rattle.std.proofs.lemmas.List.Elements.{Contains-append_left, Contains-get_or}
use Rattle.std.proofs.Math.Seq.{map-set_same}
use Rattle.book_model.specs.Book.{Book}
use Rattle.book_model.specs.Rows.{Row}
use Rattle.book_model.proofs.AllLemmas.{all_at, all_by_index, all_weaken, all_push, all_set, all_remove}
use Rattle.cell_store.specs.State.{rows_at, Unpins}
use Rattle.query_engine.specs.State.{State, pinned_now}
use Rattle.query_sessions.specs.Standing.{Opened, StandsOver, CanGoOn, IsQuestion, cells_given}
use Rattle.adc_program.specs.declared.opened.HeldSession.{HeldSession}
use Rattle.adc_program.specs.StoreReplies.{StaysPinned}
use Rattle.adc_program.specs.SessionStates.{known, stamp_of, IsOpen, AreOpen, Ascending}
use Rattle.adc_program.proofs.Places.{map_remove, ascending_push, ascending_remove, remove_either}

-- ---- one session

-- it can go on over an engine in which its stamp is pinned and has the same rows
pub goes_on : (ws : List ℕ) (old new : State) (session : Opened) → new.book ≡ old.book → Contains new.store.pins session.stamp
    → rows_at session.stamp new.store.kept ≡ rows_at session.stamp old.store.kept → CanGoOn ws old session → CanGoOn ws new session
goes_on ws old new session book pinned rows can = record {
  pinned = pinned;
  stands = subst (λ (b : Book). StandsOver ws b (rows_at session.stamp new.store.kept) session) (sym book) (subst (λ (rs : List Row). StandsOver ws old.book rs session) (sym rows) can.stands);
}

module _ {S : Type 0} (ws : List ℕ) (old new : State) (held : List (HeldSession S)) (are : AreOpen ws old held) where
  -- ---- the rows changed, and what is pinned stayed
  pub open_changed : new.book ≡ old.book → StaysPinned old.store new.store → AreOpen ws new held
  open_changed book stays = record {
    pins = stays.pins ∙ are.pins;
    rising = subst Ascending (sym stays.pins) are.rising;
    each = all_weaken (IsOpen ws new) (IsOpen ws old) held
        (λ h open_. goes_on ws old new h.session book (subst (λ (ps : List ℕ). Contains ps h.session.stamp) (sym stays.pins) open_.pinned) (stays.rows h.session.stamp open_.pinned) open_) are.each;
  }

  -- ---- one more session was opened at the present stamp
  pub open_pushed : (h : HeldSession S) → new ≡ record old { store = pinned_now old.store } → AllByRecursion (λ s. s ≤ old.store.stamp) old.store.pins → h.session.stamp ≡ old.store.stamp → IsOpen ws new h
      → AreOpen ws new (held ++ h ∷ [])
  open_pushed h is below stamp here =
      let pins : new.store.pins ≡ old.store.pins ++ old.store.stamp ∷ [] = ap (λ (e : State). e.store.pins) is in
      record {
        pins = pins ∙ ap₂ (λ (ps : List ℕ) (n : ℕ). ps ++ n ∷ []) are.pins (sym stamp) ∙ sym (map-append (stamp_of {S = S}) held (h ∷ []));
        rising = subst Ascending (sym pins) (ascending_push old.store.pins old.store.stamp are.rising below);
        each = all_push (IsOpen ws new) held h
            (all_weaken (IsOpen ws new) (IsOpen ws old) held
            (λ h open_. goes_on ws old new h.session (ap (λ (e : State). e.book) is)
            (subst (λ (ps : List ℕ). Contains ps h.session.stamp) (sym pins) (Contains-append_left old.store.pins (old.store.stamp ∷ []) h.session.stamp open_.pinned))
            (ap (λ (e : State). rows_at h.session.stamp e.store.kept) is) open_) are.each)
            here;
      }

  -- ---- one session ended: one pin of its stamp is gone
  pub open_removed : (i : ℕ) (h : HeldSession S) → i < length held → h ≡ get_or held i h → new.book ≡ old.book → Unpins h.session.stamp old.store.pins new.store.pins
      → ((s : ℕ) → Contains new.store.pins s → rows_at s new.store.kept ≡ rows_at s old.store.kept) → AreOpen ws new (remove held i)
  open_removed i h there place book unpins rows =
      let stamps : List ℕ = map (stamp_of {S = S}) held in
      let size : length stamps ≡ length held = length-map held (stamp_of {S = S}) in
      let at_i : get_or stamps i 0 ≡ h.session.stamp = get_or-map (stamp_of {S = S}) held i h 0 there ∙ sym (ap (stamp_of {S = S}) place) in
      let up : Ascending stamps = subst Ascending are.pins are.rising in
      let at_j : get_or stamps unpins.0 0 ≡ h.session.stamp = at_place stamps old.store.pins unpins.0 h.session.stamp are.pins unpins.1 unpins.2 in
      let j_in : unpins.0 < length stamps = subst (λ (ps : List ℕ). unpins.0 < length ps) are.pins unpins.1 in
      let pins : new.store.pins ≡ map (stamp_of {S = S}) (remove held i) =
      unpins.3 ∙ ap (λ (ps : List ℕ). remove ps unpins.0) are.pins ∙ remove_either stamps unpins.0 i up j_in (omega (arith, size, there)) (at_j ∙ sym at_i) ∙ sym (map_remove (stamp_of {S = S}) held i) in
      let left : List (HeldSession S) = remove held i in
      let was : AllByRecursion (IsOpen ws old) left = all_remove (IsOpen ws old) held i are.each in
      record {
        pins = pins;
        rising = subst Ascending (sym (unpins.3 ∙ ap (λ (ps : List ℕ). remove ps unpins.0) are.pins)) (ascending_remove stamps unpins.0 up);
        each = all_by_index (IsOpen ws new) left h (λ n lt.
            let one : HeldSession S = get_or left n h in
            let open_ : IsOpen ws old one = all_at (IsOpen ws old) left n h was lt in
            let pinned : Contains new.store.pins one.session.stamp =
            subst (λ (ps : List ℕ). Contains ps one.session.stamp) (sym pins)
            (subst (λ (m : ℕ). Contains (map (stamp_of {S = S}) left) m) (get_or-map (stamp_of {S = S}) left n h 0 lt) (Contains-get_or (map (stamp_of {S = S}) left) n 0 (let l = length-map left (stamp_of {S = S}) in omega (arith, l, lt)))) in
            goes_on ws old new one.session book pinned (rows one.session.stamp pinned) open_);
      }
    where
      at_place : (xs ys : List ℕ) (j n : ℕ) → ys ≡ xs → (lt : j < length ys) → slice_index ys j ≡ n → get_or xs j 0 ≡ n
      at_place xs ys j n e lt h = ap (λ l. get_or l j 0) (sym e) ∙ h

-- ---- a session in the place of one of its stamp
pub open_stepped : {S : Type 0} (ws : List ℕ) (engine : State) (held : List (HeldSession S)) (i : ℕ) (was now : HeldSession S) → AreOpen ws engine held → was ≡ get_or held i was
    → now.session.stamp ≡ was.session.stamp → IsOpen ws engine now → AreOpen ws engine (set held i now)
open_stepped {S} ws engine held i was now are place stamp here = record {
  pins = are.pins ∙ sym (map-set_same (stamp_of {S = S}) held i now was (stamp ∙ ap (stamp_of {S = S}) place));
  rising = are.rising;
  each = all_set (IsOpen ws engine) held i now are.each here;
}

-- what is known of a session that was just opened
pub known_opened : {S : Type 0} (h : HeldSession S) (sid stamp : ℕ) (query : List ℕ) (k wanted : ℕ) (ranges : List (ℕ × ℕ)) → h.sid ≡ sid → IsQuestion stamp query k wanted ranges h.session
    → cells_given h.session ≡ 0 → h.session.ended ≡ false → known h ≡ record { sid = sid; stamp = stamp; vector = query; k = k; wanted = wanted; ranges = ranges; given = 0; over = false }
known_opened h sid stamp query k wanted ranges at is none over = rw (at, is.stamp_is, is.query_is, is.k_is, is.wanted_is, is.ranges_is, none, over) refl
