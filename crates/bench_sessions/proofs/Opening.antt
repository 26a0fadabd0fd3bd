-- The open sessions of an engine, after its rows changed, and after one is opened, went a step or ended.
use Rattle.std.proofs.Common.{◌≡◌, ◌∙◌, ℕ, zero, suc, ◌+◌, ◌-◌, ◌<◌, List, [], ◌∷◌, ◌++◌, length, set, replicate, sym, ap, ap₂, subst, arith}
use Rattle.std.specs.Prelude.{remove, Result, Ok, Err, OnOk}
use Rattle.std.specs.List.{AllByRecursion, Contains}
use Rattle.std.proofs.lemmas.List.{length-append, length-set, length-replicate, replicate_more, replicate-append-replicate, take-replicate, drop-replicate}
use Rattle.std.proofs.lemmas.List.Elements.{Contains-append_left, Contains-get_or}
use Rattle.book_model.specs.Book.{Book}
use Rattle.book_model.specs.Rows.{Row}
use Rattle.book_model.proofs.AllLemmas.{all_front, all_middle, all_weaken, all_push, all_set}
use Rattle.cell_store.specs.State.{rows_at, Unpins}
use Rattle.query_engine.specs.State.{State, pinned_now}
use Rattle.query_sessions.specs.Standing.{Opened, StandsOver, CanGoOn}
use Rattle.bench_sessions.specs.declared.sessions.HeldSession.{HeldSession}
use Rattle.bench_sessions.specs.Staying.{Stays}
use Rattle.bench_sessions.specs.Standing.{IsOpen, AreOpen}

-- a session can go on over an engine in which its stamp is pinned and has the same rows
goes_on : (ws : List ℕ) (old new : State) (session : Opened) → new.book ≡ old.book → Contains new.store.pins session.stamp
    → rows_at session.stamp new.store.kept ≡ rows_at session.stamp old.store.kept → CanGoOn ws old session → CanGoOn ws new session
goes_on ws old new session book pinned rows can = record {
  pinned = pinned;
  stands = subst (λ (b : Book). StandsOver ws b (rows_at session.stamp new.store.kept) session) (sym book) (subst (λ (rs : List Row). StandsOver ws old.book rs session) (sym rows) can.stands);
}

-- what follows from a fact of a success
pub on_ok : {X E P Q : Type 0} (r : Result X E) → (P → Q) → OnOk r P → OnOk r Q
on_ok (Ok x) f h = f h
on_ok (Err e) f h = tt

-- one of equal numbers is gone
one_less : (m n i : ℕ) → i < m + 1 → remove (replicate (m + 1) n) i ≡ replicate m n
one_less m n i lt =
    ap₂ (λ (xs ys : List ℕ). xs ++ ys) (take-replicate i (m + 1) n (omega (arith, lt))) (drop-replicate (suc i) (m + 1) n)
    ∙ replicate-append-replicate i (m + 1 - suc i) n
    ∙ ap (λ (k : ℕ). replicate k n) (let e : i + (m + 1 - suc i) ≡ m = omega (arith, lt) in e)

-- a number is among some that equal it
is_among : (m n s : ℕ) → s ≡ n → 0 < m → Contains (replicate m n) s
is_among zero n s same some = absurd (omega (arith, some))
is_among (suc m) n s same some = subst (λ (x : ℕ). Contains (replicate (suc m) n) x) (sym same) (Contains-get_or (replicate (suc m) n) 0 0 (let l = length-replicate (suc m) n in omega (arith, l)))

module _ {S : Type 0} (ws : List ℕ) (n : ℕ) where
  pub open_none : (engine : State) → engine.store.pins ≡ [] → AreOpen {S = S} ws engine n []
  open_none engine none = record { pins = none; each = tt }

  pub none_open : (engine : State) → AreOpen {S = S} ws engine n [] → engine.store.pins ≡ []
  none_open engine are = are.pins

  pub open_stays : (old new : State) (held : List (HeldSession S)) → Stays old new → AreOpen ws old n held → AreOpen ws new n held
  open_stays old new held stays are = record {
    pins = stays.pins ∙ are.pins;
    each = all_weaken (IsOpen ws new n) (IsOpen ws old n) held (λ h one. record {
      stamp_is = one.stamp_is;
      can = goes_on ws old new h.session stays.book (subst (λ (ps : List ℕ). Contains ps h.session.stamp) (sym stays.pins) one.can.pinned) (stays.rows h.session.stamp one.can.pinned) one.can;
    }) are.each;
  }

  pub open_pushed : (old new : State) (held : List (HeldSession S)) (h : HeldSession S) → new ≡ record old { store = pinned_now old.store } → old.store.stamp ≡ n
      → IsOpen ws new n h → AreOpen ws old n held → AreOpen ws new n (held ++ h ∷ [])
  open_pushed old new held h is stamp here are =
      let pins : new.store.pins ≡ old.store.pins ++ old.store.stamp ∷ [] = ap (λ (e : State). e.store.pins) is in
      record {
        pins = pins ∙ ap₂ (λ (ps : List ℕ) (m : ℕ). ps ++ m ∷ []) are.pins stamp ∙ replicate_more (length held) n
            ∙ ap (λ (k : ℕ). replicate k n) (sym (length-append held (h ∷ [])));
        each = all_push (IsOpen ws new n) held h
            (all_weaken (IsOpen ws new n) (IsOpen ws old n) held (λ o one. record {
              stamp_is = one.stamp_is;
              can = goes_on ws old new o.session (ap (λ (e : State). e.book) is)
                  (subst (λ (ps : List ℕ). Contains ps o.session.stamp) (sym pins) (Contains-append_left old.store.pins (old.store.stamp ∷ []) o.session.stamp one.can.pinned))
                  (ap (λ (e : State). rows_at o.session.stamp e.store.kept) is) one.can;
            }) are.each)
            here;
      }

  pub open_stepped : (engine : State) (held : List (HeldSession S)) (i : ℕ) (now : HeldSession S) → IsOpen ws engine n now → AreOpen ws engine n held → AreOpen ws engine n (set held i now)
  open_stepped engine held i now here are = record {
    pins = are.pins ∙ ap (λ (k : ℕ). replicate k n) (sym (length-set held i now));
    each = all_set (IsOpen ws engine n) held i now are.each here;
  }

  pub last_of : (engine : State) (held : List (HeldSession S)) (h : HeldSession S) → AreOpen ws engine n (held ++ h ∷ []) → IsOpen ws engine n h
  last_of engine held h are = all_middle (IsOpen ws engine n) held h [] are.each

  -- those that are left can go on, if there are any
  left : (old new : State) (held : List (HeldSession S)) → new.book ≡ old.book → (0 < length held → new.store.pins ≡ replicate (length held) n)
      → ((s : ℕ) → Contains new.store.pins s → rows_at s new.store.kept ≡ rows_at s old.store.kept)
      → AllByRecursion (IsOpen ws old n) held → AllByRecursion (IsOpen ws new n) held
  left old new [] book pins rows each = tt
  left old new (first ∷ rest) book pins rows each = all_weaken (IsOpen ws new n) (IsOpen ws old n) (first ∷ rest) (λ h one.
      let pinned : Contains new.store.pins h.session.stamp =
      subst (λ (ps : List ℕ). Contains ps h.session.stamp) (sym (pins (omega arith))) (is_among (length (first ∷ rest)) n h.session.stamp one.stamp_is (omega arith)) in
      record { stamp_is = one.stamp_is; can = goes_on ws old new h.session book pinned (rows h.session.stamp pinned) one.can }) each

  pub open_popped : (old new : State) (held : List (HeldSession S)) (h : HeldSession S) → AreOpen ws old n (held ++ h ∷ []) → new.book ≡ old.book → Unpins h.session.stamp old.store.pins new.store.pins
      → ((s : ℕ) → Contains new.store.pins s → rows_at s new.store.kept ≡ rows_at s old.store.kept) → AreOpen ws new n held
  open_popped old new held h are book unpins rows =
      let were : old.store.pins ≡ replicate (length held + 1) n = are.pins ∙ ap (λ (k : ℕ). replicate k n) (length-append held (h ∷ [])) in
      let within : unpins.0 < length held + 1 = subst (λ (k : ℕ). unpins.0 < k) (ap length were ∙ length-replicate (length held + 1) n) unpins.1 in
      let pins : new.store.pins ≡ replicate (length held) n = unpins.3 ∙ ap (λ (ps : List ℕ). remove ps unpins.0) were ∙ one_less (length held) n unpins.0 within in
      record {
        pins = pins;
        each = left old new held book (λ some. pins) rows (all_front (IsOpen ws old n) held (h ∷ []) are.each);
      }
