-- The replies to the lines of open sessions, told from the sessions that are held.
use Rattle.std.proofs.Common.{◌≡◌, ℕ, ◌+◌, ◌*◌, ◌-◌, ◌≤◌, ◌<◌, Bool, true, false, ◌==◌, if◌then◌else◌, min, List, [], ◌∷◌, length, map, take, get_or, set, refl, sym, ap, ap₂, ◌∙◌, subst, arith}
use Rattle.std.specs.Prelude.{Some, None, not, remove, codes, nat_lt, ◌||◌}
use Rattle.std.specs.List.{AllByRecursion, position, Contains}
use Rattle.std.proofs.lemmas.Bool.{eq-eqb}
use Rattle.std.proofs.lemmas.Grind.{common_steps}
use Rattle.std.proofs.lemmas.List.{get_or-map, length-map, map-set, get_or_default}
use Rattle.std.proofs.lemmas.List.Elements.{Contains-get_or}
use Rattle.std.proofs.lemmas.List.Quantifiers.{position-Some}
use Rattle.book_model.specs.Order.{Pair}
use Rattle.book_model.specs.Book.{Book}
use Rattle.book_model.specs.Rows.{Row, passing}
use Rattle.book_model.specs.Visit.{Query, visit, cells, rows_of_cells}
use Rattle.book_model.specs.Answer.{answer, full_after}
use Rattle.book_model.proofs.AllLemmas.{all_at, all_map}
use Rattle.cell_store.specs.State.{Store, rows_at, Unpins}
use Rattle.cell_store.specs.Held.{IsStore, KeepsAs}
use Rattle.cell_store.proofs.StoreLemmas.{timed, same_pinned, keeps_unpin}
use Rattle.coarse_rank.specs.Ranked.{cells_of}
use Rattle.play_script.specs.declared.Cause.{Cause}
use Rattle.play_script.specs.declared.Cause.TheVariants as cause
use Rattle.play_script.specs.declared.SessionCommand.TheVariants.{Step, End}
use Rattle.play_script.specs.Texts.{step_done, session_done, session_dropped, refused}
use Rattle.play_script.specs.Play.{Stage, Counts, hits}
use Rattle.play_script.specs.Sessions.{Standing, OpenSession, SessionReply, store_of, session_reply, refuses, step_line, session_line, session_of, with_session, others_of, steps, ends, stepped, seen_by, visited_by, query_of, rows_then}
use Rattle.query_engine.specs.Progress.{first_rows}
use Rattle.query_engine.specs.State.{State}
use Rattle.prune_scan.specs.declared.meters.Meters.{Meters}
use Rattle.query_sessions.specs.Standing.{Opened, StandsOver, CanGoOn, SameQuestion, asked_by, cells_given, cells_in_all}
use Rattle.query_sessions.proofs.Stepping.{has_answered}
use Rattle.adc_program.specs.declared.opened.HeldSession.{HeldSession}
use Rattle.adc_program.specs.SessionStates.{Known, known, known_by, known_of, stamp_of, StandsAs, IsNext, Spends, SaysOver, open_counts}
use Rattle.std.proofs.lemmas.List.Sums.{sum_by-set, sum_by-remove, sum_by-cons}
use Rattle.adc_program.proofs.StoreReplies.{keeps_trans}
use Rattle.adc_program.proofs.SessionModels.{store_stepped, model_stepped, model_ended}
use Rattle.adc_program.proofs.Places.{all_from_none, place_within, find_none, find_at_place, replaced_at, without_at, map_remove}

-- what a session that stands over rows has visited
abbrev pub counted : Opened → Counts
counted s = record { cells = cells_given s; live = s.parts.state.rows; full = s.full }

-- ---- an open session of the definition, and the one that is held for it

-- the parts that are known of both
module _ (stage : Stage) (standing : Standing) (open_ : OpenSession) (session : Opened) (sid : ℕ) (ws : List ℕ)
    (is : known_by sid session ≡ known_of stage open_) (stands : StandsOver ws stage.book (rows_then standing open_.stamp) session) where
  question : asked_by session ≡ query_of stage open_
  question = ap (λ (k : Known). let q : Query = record { vector = k.vector; k = k.k; wanted = k.wanted; ranges = k.ranges } in q) is

  given : cells_given session ≡ open_.given
  given = ap (λ (k : Known). k.given) is

  pub all_cells : cells_in_all stage.book (rows_then standing open_.stamp) session ≡ length (visit stage.book (query_of stage open_) (rows_then standing open_.stamp))
  all_cells = ap (λ (q : Query). length (visit stage.book q (rows_then standing open_.stamp))) question

  seen_is : first_rows (passing session.ranges (rows_then standing open_.stamp)) (cells_of session.parts.ranks) (cells_given session) ≡ seen_by stage standing open_
  seen_is =
      ap₂ (λ (order : List Pair) (n : ℕ). rows_of_cells (passing session.ranges (rows_then standing open_.stamp)) (take n order)) stands.asked.order given
      ∙ ap (λ (q : Query). rows_of_cells (passing q.ranges (rows_then standing open_.stamp)) (take open_.given (cells stage.book q.vector))) question

  pub visited_is : counted session ≡ visited_by stage standing open_
  visited_is =
      let rows : session.parts.state.rows ≡ length (seen_by stage standing open_) = (stands.visited.stands stage.book session.query stands.asked.tables).rows ∙ ap length seen_is in
      let full : session.full ≡ full_after stage.book (query_of stage open_).vector open_.k [] (seen_by stage standing open_) =
      stands.full ∙ ap (λ (rows : List Row). full_after stage.book session.query session.k [] rows) seen_is
      ∙ ap (λ (q : Query). full_after stage.book q.vector q.k [] (seen_by stage standing open_)) question in
      rw (given, rows, full) refl

  pub answers_are : session.ended ≡ true → session.parts.best.pairs ≡ answer stage.book (query_of stage open_) (rows_then standing open_.stamp)
  answers_are over = (has_answered ws stage.book (rows_then standing open_.stamp) session stands over).answers ∙ ap (λ (q : Query). answer stage.book q (rows_then standing open_.stamp)) question

-- ---- held sessions by their places

abbrev no_session : OpenSession
no_session = record { sid = 0; stamp = 0; row = 0; k = 0; wanted = 0; given = 0; over = false }

module _ {S : Type 0} (ws : List ℕ) (stage : Stage) (standing : Standing) (engine : State) (held : List (HeldSession S)) (book : stage.book ≡ engine.book)
    (is : IsStore ws engine.store) (stands : StandsAs stage standing engine.store held) (sid : ℕ) where
  size : length held ≡ length standing.opened
  size = sym (length-map held known) ∙ ap length stands.sessions ∙ length-map standing.opened (known_of stage)

  -- a line that is refused
  pub refused_next : (reply : SessionReply) (why : Cause) (verb : List ℕ) (n : ℕ) → reply ≡ refuses why verb n standing → (meters : Meters) → IsNext stage standing reply engine.store held meters meters
  refused_next reply why verb n e meters = subst (λ (r : SessionReply). IsNext stage standing r engine.store held meters meters) (sym e) (record { stands = stands; spends = record { full = refl; pairs = (omega arith, omega arith) } })

  pub refused_line : (reply : SessionReply) (why : Cause) (verb : List ℕ) (n : ℕ) → reply ≡ refuses why verb n standing → (line : List ℕ) → line ≡ refused verb n why → reply.lines ≡ line ∷ []
  refused_line reply why verb n e line same = ap (λ (r : SessionReply). r.lines) e ∙ ap (λ (l : List ℕ). l ∷ []) (sym same)

  -- no session of the number is open
  sids : map (λ (k : Known). k.sid) (map known held) ≡ map (λ (k : Known). k.sid) (map (known_of stage) standing.opened)
  sids = ap (map (λ (k : Known). k.sid)) stands.sessions

  none_open : AllByRecursion (λ (h : HeldSession S). (h.sid == sid) ≡ false) held → AllByRecursion (λ (o : OpenSession). (o.sid == sid) ≡ false) standing.opened
  none_open all =
      of_known standing.opened (subst (λ (ks : List Known). AllByRecursion (λ k. (k.sid == sid) ≡ false) ks) stands.sessions (all_map (λ (k : Known). (k.sid == sid) ≡ false) known held all))
    where
      of_known : (os : List OpenSession) → AllByRecursion (λ (k : Known). (k.sid == sid) ≡ false) (map (known_of stage) os) → AllByRecursion (λ (o : OpenSession). (o.sid == sid) ≡ false) os
      of_known [] all = tt
      of_known (o ∷ os) all = (all.0, of_known os all.1)

  pub absent : position (λ (h : HeldSession S). h.sid == sid) held ≡ None → session_of standing sid ≡ None
  absent none = find_none (λ (o : OpenSession). o.sid) sid standing.opened (none_open (all_from_none (λ (h : HeldSession S). h.sid == sid) held none))

  pub step_absent : (cells : ℕ) → position (λ (h : HeldSession S). h.sid == sid) held ≡ None → session_reply stage standing (Step sid cells) ≡ refuses cause.Absent (codes "step") sid standing
  unfolding session_reply
  step_absent cells none = ap (steps stage standing sid cells) (absent none)

  pub end_absent : position (λ (h : HeldSession S). h.sid == sid) held ≡ None → session_reply stage standing (End sid) ≡ refuses cause.Absent (codes "end") sid standing
  unfolding session_reply
  end_absent none = ap (ends stage standing sid) (absent none)

  -- the session at a place
  module _ (i : ℕ) (h : HeldSession S) (there : i < length held) (place : h ≡ get_or held i h) (number : h.sid ≡ sid) where
    abbrev pub was : OpenSession
    was = get_or standing.opened i no_session

    in_opened : i < length standing.opened
    in_opened = omega (arith, size, there)

    -- both are known alike
    same_known : known h ≡ known_of stage was
    same_known =
        ap known place
        ∙ sym (get_or-map known held i h (known h) there)
        ∙ ap (λ (ks : List Known). get_or ks i (known h)) stands.sessions
        ∙ get_or-map (known_of stage) standing.opened i no_session (known h) in_opened

    number_is : was.sid ≡ sid
    number_is = sym (ap (λ (k : Known). k.sid) same_known) ∙ number

    stamp_is : h.session.stamp ≡ was.stamp
    stamp_is = ap (λ (k : Known). k.stamp) same_known

    found : session_of standing sid ≡ Some was
    found = find_at_place (λ (o : OpenSession). o.sid) standing.opened sid i no_session stands.model.apart in_opened number_is

    pub over_is : h.session.ended ≡ was.over
    over_is = ap (λ (k : Known). k.over) same_known

    -- its rows are those after as many changes
    pinned_at : Contains engine.store.pins was.stamp
    pinned_at =
        subst (λ (ps : List ℕ). Contains ps was.stamp) (sym stands.keeps.pins)
        (subst (λ (n : ℕ). Contains (map (λ (o : OpenSession). o.stamp) standing.opened) n) (get_or-map (λ (o : OpenSession). o.stamp) standing.opened i no_session 0 in_opened)
        (Contains-get_or (map (λ (o : OpenSession). o.stamp) standing.opened) i 0 (let l = length-map standing.opened (λ (o : OpenSession). o.stamp) in omega (arith, l, in_opened))))

    rows_are : rows_at h.session.stamp engine.store.kept ≡ rows_then standing was.stamp
    rows_are =
        ap (λ (s : ℕ). rows_at s engine.store.kept) stamp_is
        ∙ same_pinned engine.store (store_of stage standing) (timed ws engine.store is) stands.model.timed stands.keeps was.stamp pinned_at
        ∙ subst (λ (n : ℕ). rows_at n (store_of stage standing).kept ≡ rows_then standing n) (get_or-map (λ (o : OpenSession). o.stamp) standing.opened i no_session 0 in_opened)
        (all_at (λ s. rows_at s (store_of stage standing).kept ≡ rows_then standing s) (map (λ (o : OpenSession). o.stamp) standing.opened) i 0 stands.model.pinned
        (let l = length-map standing.opened (λ (o : OpenSession). o.stamp) in omega (arith, l, in_opened)))

    over_rows : (session : Opened) → StandsOver ws engine.book (rows_at h.session.stamp engine.store.kept) session → StandsOver ws stage.book (rows_then standing was.stamp) session
    over_rows session st = subst (λ (b : Book). StandsOver ws b (rows_then standing was.stamp) session) (sym book) (subst (λ (rs : List Row). StandsOver ws engine.book rs session) rows_are st)

    -- ---- a step out of its bounds
    pub step_refused : (cells : ℕ) → (nat_lt cells 1 || nat_lt 1048576 cells) ≡ true → session_reply stage standing (Step sid cells) ≡ refuses cause.Cells (codes "step") sid standing
    unfolding session_reply
    step_refused cells out = ap (steps stage standing sid cells) found ∙ (let b : (nat_lt cells 1 || nat_lt 1048576 cells) ≡ true = out in simp b refl)

    -- ---- a step
    module _ (cells_ : ℕ) (within : (nat_lt cells_ 1 || nat_lt 1048576 cells_) ≡ false) (now : HeldSession S) (sid_now : now.sid ≡ h.sid) (can : CanGoOn ws engine h.session) (can_now : CanGoOn ws engine now.session)
        (same : SameQuestion h.session now.session)
        (visits : cells_given now.session ≡ cells_given h.session + min cells_ (cells_in_all engine.book (rows_at h.session.stamp engine.store.kept) h.session - cells_given h.session))
        (over : SaysOver now.session.ended (cells_given now.session) (cells_in_all engine.book (rows_at h.session.stamp engine.store.kept) h.session)) where
      abbrev then_ : OpenSession
      then_ = stepped stage standing cells_ was

      all_is : cells_in_all engine.book (rows_at h.session.stamp engine.store.kept) h.session ≡ length (visit stage.book (query_of stage was) (rows_then standing was.stamp))
      all_is =
          ap₂ (λ (b : Book) (rs : List Row). cells_in_all b rs h.session) (sym book) rows_are
          ∙ all_cells stage standing was h.session h.sid ws same_known (over_rows h.session can.stands)

      given_is : cells_given h.session ≡ was.given
      given_is = ap (λ (k : Known). k.given) same_known

      given_now : cells_given now.session ≡ then_.given
      given_now = visits ∙ ap₂ (λ (g a : ℕ). g + min cells_ (a - g)) given_is all_is

      over_by : (b : Bool) (given all : ℕ) → SaysOver b given all → b ≡ (given == all)
      over_by true given all e = sym (eq-eqb given all e)
      over_by false given all lt = (let e : (given == all) ≡ false = grind (arith, common_steps) in sym e)

      over_now : now.session.ended ≡ then_.over
      over_now = over_by now.session.ended _ _ over ∙ ap₂ (λ (g a : ℕ). g == a) given_now all_is

      known_now : known now ≡ known_of stage then_
      known_now =
          let stamp : now.session.stamp ≡ was.stamp = same.stamp ∙ stamp_is in
          let query : now.session.query ≡ (query_of stage was).vector = same.query ∙ ap (λ (k : Known). k.vector) same_known in
          let k : now.session.k ≡ was.k = same.k ∙ ap (λ (k : Known). k.k) same_known in
          let wanted : now.session.wanted ≡ was.wanted = same.wanted ∙ ap (λ (k : Known). k.wanted) same_known in
          let ranges : now.session.ranges ≡ (query_of stage was).ranges = same.ranges ∙ ap (λ (k : Known). k.ranges) same_known in
          let number_now : now.sid ≡ was.sid = sid_now ∙ ap (λ (k : Known). k.sid) same_known in
          rw (number_now, stamp, query, k, wanted, ranges, given_now, over_now) refl

      reply_is : session_reply stage standing (Step sid cells_)
          ≡ record { lines = step_line sid (visited_by stage standing then_) then_.over ∷ []; after = record standing { opened = with_session standing then_ }; visits = [] }
      unfolding session_reply
      reply_is = ap (steps stage standing sid cells_) found ∙ (let b : (nat_lt cells_ 1 || nat_lt 1048576 cells_) ≡ false = within in simp b refl)

      placed : with_session standing then_ ≡ set standing.opened i then_
      placed = replaced_at (λ (o : OpenSession). o.sid) standing.opened was.sid i no_session then_ stands.model.apart in_opened refl

      counted_now : counted now.session ≡ visited_by stage standing then_
      counted_now =
          visited_is stage standing then_ now.session now.sid ws known_now
          (over_rows now.session (subst (λ (s : ℕ). StandsOver ws engine.book (rows_at s engine.store.kept) now.session) same.stamp can_now.stands))

      counted_was : counted h.session ≡ visited_by stage standing was
      counted_was = visited_is stage standing was h.session h.sid ws same_known (over_rows h.session can.stands)

      pub step_line_is : (line : List ℕ) → line ≡ step_done sid (cells_given now.session) now.session.parts.state.rows now.session.full now.session.ended → (session_reply stage standing (Step sid cells_)).lines ≡ line ∷ []
      step_line_is line e =
          ap (λ (r : SessionReply). r.lines) reply_is
          ∙ ap (λ (l : List ℕ). l ∷ []) (ap₂ (λ (c : Counts) (b : Bool). step_line sid c b) (sym counted_now) (sym over_now) ∙ sym e)

      place_is : was ≡ get_or standing.opened i was
      place_is = get_or_default standing.opened i no_session was in_opened

      pub step_next : (old new : Meters) → new.full + h.session.full ≡ old.full + now.session.full → old.pairs ≤ new.pairs → new.pairs + 2 * cells_given h.session ≤ old.pairs + 2 * cells_given now.session
          → IsNext stage standing (session_reply stage standing (Step sid cells_)) engine.store (set held i now) old new
      step_next old new full rose pairs =
          subst (λ (r : SessionReply). IsNext stage standing r engine.store (set held i now) old new) (sym reply_is)
          (subst (λ (os : List OpenSession). IsNext stage standing (record { lines = step_line sid (visited_by stage standing then_) then_.over ∷ []; after = record standing { opened = os }; visits = [] }) engine.store (set held i now) old new) (sym placed)
          (record {
            stands = record {
              model = model_stepped stage standing stands.model i was then_ place_is refl refl;
              keeps = subst (λ (m : Store). KeepsAs engine.store m) (sym (store_stepped stage standing stands.model i was then_ place_is refl refl)) stands.keeps;
              sessions = map-set known held i now ∙ ap₂ (λ (ks : List Known) (k : Known). set ks i k) stands.sessions known_now ∙ sym (map-set (known_of stage) standing.opened i then_);
            };
            spends = spends_set old new full rose pairs;
          }))
        where
          counts : List Counts
          counts = open_counts stage standing

          spends_set : (old new : Meters) → new.full + h.session.full ≡ old.full + now.session.full → old.pairs ≤ new.pairs → new.pairs + 2 * cells_given h.session ≤ old.pairs + 2 * cells_given now.session
              → Spends (open_counts stage standing) (map (visited_by stage standing) (set standing.opened i then_)) old new
          spends_set old new full rose pairs =
              let in_counts : i < length (open_counts stage standing) = (let l = length-map standing.opened (visited_by stage standing) in omega (arith, l, in_opened)) in
              let here : get_or (open_counts stage standing) i (visited_by stage standing no_session) ≡ counted h.session = get_or-map (visited_by stage standing) standing.opened i no_session (visited_by stage standing no_session) in_opened ∙ sym counted_was in
              let list : map (visited_by stage standing) (set standing.opened i then_) ≡ set (open_counts stage standing) i (counted now.session) =
              map-set (visited_by stage standing) standing.opened i then_ ∙ ap (λ (c : Counts). set (open_counts stage standing) i c) (sym counted_now) in
              subst (λ (cs : List Counts). Spends (open_counts stage standing) cs old new) (sym list)
              (record {
                full = omega (arith, full, sum_by-set (λ (q : Counts). q.full) (open_counts stage standing) i (counted now.session) (visited_by stage standing no_session) in_counts, ap (λ (q : Counts). q.full) here);
                pairs = (rose, omega (arith, pairs, sum_by-set (λ (q : Counts). 2 * q.cells + 1) (open_counts stage standing) i (counted now.session) (visited_by stage standing no_session) in_counts, ap (λ (q : Counts). q.cells) here));
              })

    -- ---- an end
    module _ (can : CanGoOn ws engine h.session) where
      abbrev counts_end : Counts
      counts_end = visited_by stage standing was

      end_is : session_reply stage standing (End sid)
          ≡ record {
            lines = if was.over then session_line sid counts_end ∷ hits (answer stage.book (query_of stage was) (rows_then standing was.stamp)) else session_dropped sid ∷ [];
            after = record standing { opened = others_of standing sid };
            visits = counts_end ∷ [];
          }
      unfolding session_reply
      end_is = ap (ends stage standing sid) found

      left_is : others_of standing sid ≡ remove standing.opened i
      left_is = without_at (λ (o : OpenSession). o.sid) standing.opened sid i no_session stands.model.apart in_opened number_is

      counted_end : counted h.session ≡ counts_end
      counted_end = visited_is stage standing was h.session h.sid ws same_known (over_rows h.session can.stands)

      end_text : (b : Bool) → h.session.ended ≡ b
          → (if b then session_done sid (cells_given h.session) h.session.parts.state.rows h.session.full ∷ hits h.session.parts.best.pairs else session_dropped sid ∷ [])
          ≡ (if b then session_line sid counts_end ∷ hits (answer stage.book (query_of stage was) (rows_then standing was.stamp)) else session_dropped sid ∷ [])
      end_text false e = refl
      end_text true e =
          ap₂ (λ (c : Counts) (ps : List Pair). session_line sid c ∷ hits ps) counted_end
          (answers_are stage standing was h.session h.sid ws same_known (over_rows h.session can.stands) e)

      pub end_lines : (if h.session.ended then session_done sid (cells_given h.session) h.session.parts.state.rows h.session.full ∷ hits h.session.parts.best.pairs else session_dropped sid ∷ []) ≡ (session_reply stage standing (End sid)).lines
      end_lines =
          end_text h.session.ended refl
          ∙ ap (λ (b : Bool). let l : List (List ℕ) = if b then session_line sid counts_end ∷ hits (answer stage.book (query_of stage was) (rows_then standing was.stamp)) else session_dropped sid ∷ [] in l) over_is
          ∙ sym (ap (λ (r : SessionReply). r.lines) end_is)

      pub end_next : (new : Store) (meters : Meters) → KeepsAs new (record engine.store { pins = new.pins }) → Unpins h.session.stamp engine.store.pins new.pins → new.pins ≡ map (stamp_of {S = S}) (remove held i)
          → IsNext stage standing (session_reply stage standing (End sid)) new (remove held i) meters meters
      end_next new meters keeps unpins pins =
          let m : Store = store_of stage standing in
          let less : Store = record m { pins = new.pins } in
          let pins_are : new.pins ≡ map (λ (o : OpenSession). o.stamp) (remove standing.opened i) =
          pins ∙ map_remove (stamp_of {S = S}) held i
          ∙ ap (λ (l : List ℕ). remove l i) (stamps_alike held standing.opened stands.sessions)
          ∙ sym (map_remove (λ (o : OpenSession). o.stamp) standing.opened i) in
          let kept : KeepsAs new less = keeps_trans new _ less keeps (keeps_unpin engine.store m (timed ws engine.store is) stands.model.timed stands.keeps new.pins h.session.stamp unpins) in
          subst (λ (r : SessionReply). IsNext stage standing r new (remove held i) meters meters) (sym end_is)
          (subst (λ (os : List OpenSession). IsNext stage standing (record {
            lines = if was.over then session_line sid counts_end ∷ hits (answer stage.book (query_of stage was) (rows_then standing was.stamp)) else session_dropped sid ∷ [];
            after = record standing { opened = os };
            visits = counts_end ∷ [];
          }) new (remove held i) meters meters) (sym left_is)
          (record {
            stands = record {
              model = model_ended stage standing stands.model i;
              keeps = subst (λ (ps : List ℕ). KeepsAs new (let t : Store = record m { pins = ps } in t)) pins_are kept;
              sessions = map_remove known held i ∙ ap (λ (ks : List Known). remove ks i) stands.sessions ∙ sym (map_remove (known_of stage) standing.opened i);
            };
            spends =
                let in_counts : i < length (open_counts stage standing) = (let l = length-map standing.opened (visited_by stage standing) in omega (arith, l, in_opened)) in
                let here : get_or (open_counts stage standing) i (visited_by stage standing no_session) ≡ counts_end = get_or-map (visited_by stage standing) standing.opened i no_session (visited_by stage standing no_session) in_opened in
                subst (λ (cs : List Counts). Spends (open_counts stage standing) (counts_end ∷ cs) meters meters) (sym (map_remove (visited_by stage standing) standing.opened i))
                (record {
                  full = omega (arith, sum_by-cons (λ (q : Counts). q.full) counts_end (remove (open_counts stage standing) i), sum_by-remove (λ (q : Counts). q.full) (open_counts stage standing) i (visited_by stage standing no_session) in_counts, ap (λ (q : Counts). q.full) here);
                  pairs = (omega arith, omega (arith, sum_by-cons (λ (q : Counts). 2 * q.cells + 1) counts_end (remove (open_counts stage standing) i), sum_by-remove (λ (q : Counts). 2 * q.cells + 1) (open_counts stage standing) i (visited_by stage standing no_session) in_counts, ap (λ (q : Counts). q.cells) here));
                });
          }))
        where
          stamps_alike : (hs : List (HeldSession S)) (os : List OpenSession) → map known hs ≡ map (known_of stage) os → map (stamp_of {S = S}) hs ≡ map (λ (o : OpenSession). o.stamp) os
          stamps_alike hs os e = held_stamps hs ∙ ap (map (λ (k : Known). k.stamp)) e ∙ sym (open_stamps os)
            where
              held_stamps : (hs : List (HeldSession S)) → map (stamp_of {S = S}) hs ≡ map (λ (k : Known). k.stamp) (map known hs)
              held_stamps [] = refl
              held_stamps (h ∷ hs) = ap (λ (l : List ℕ). h.session.stamp ∷ l) (held_stamps hs)

              open_stamps : (os : List OpenSession) → map (λ (o : OpenSession). o.stamp) os ≡ map (λ (k : Known). k.stamp) (map (known_of stage) os)
              open_stamps [] = refl
              open_stamps (o ∷ os) = ap (λ (l : List ℕ). o.stamp ∷ l) (open_stamps os)

pub not_not : (b : Bool) → not b ≡ false → b ≡ true
not_not true h = refl
not_not false h = cc

-- numbers of a line, by their tests
pub number_of : (a b : ℕ) → (a == b) ≡ true → a ≡ b
number_of a b h = grind (arith, common_steps)

pub in_bounds : (cells : ℕ) → 1 ≤ cells → cells ≤ 1048576 → (nat_lt cells 1 || nat_lt 1048576 cells) ≡ false
in_bounds cells low high =
    let a : nat_lt cells 1 ≡ false = grind (arith, common_steps) in
    let b : nat_lt 1048576 cells ≡ false = grind (arith, common_steps) in
    ap₂ (λ (x y : Bool). x || y) a b

pub too_low : (cells : ℕ) → cells < 1 → (nat_lt cells 1 || nat_lt 1048576 cells) ≡ true
too_low cells low = (let a : nat_lt cells 1 ≡ true = grind (arith, common_steps) in ap (λ (x : Bool). x || nat_lt 1048576 cells) a)

pub too_high : (cells : ℕ) → 1 ≤ cells → 1048576 < cells → (nat_lt cells 1 || nat_lt 1048576 cells) ≡ true
too_high cells low high =
    let a : nat_lt cells 1 ≡ false = grind (arith, common_steps) in
    let b : nat_lt 1048576 cells ≡ true = grind (arith, common_steps) in
    ap₂ (λ (x y : Bool). x || y) a b

-- an element of a list that has a place
pub some_element : {X : Type 0} (xs : List X) (i : ℕ) → i < length xs → X
some_element [] i h = absurd (omega arith)
some_element (x ∷ xs) i h = x

-- a step out of its bounds, where a session of the number is found
pub step_out : {S : Type 0} (ws : List ℕ) (stage : Stage) (standing : Standing) (engine : State) (held : List (HeldSession S)) (book : stage.book ≡ engine.book) (is : IsStore ws engine.store)
    (stands : StandsAs stage standing engine.store held) (sid i : ℕ) → position (λ (h : HeldSession S). h.sid == sid) held ≡ Some i → (cells : ℕ) → (nat_lt cells 1 || nat_lt 1048576 cells) ≡ true
    → session_reply stage standing (Step sid cells) ≡ refuses cause.Cells (codes "step") sid standing
step_out {S} ws stage standing engine held book is stands sid i at cells out =
    let there : i < length held = place_within (λ (h : HeldSession S). h.sid == sid) held i at in
    let d : HeldSession S = some_element held i there in
    let h : HeldSession S = get_or held i d in
    step_refused ws stage standing engine held book is stands sid i h there (get_or_default held i d h there) (number_of h.sid sid (position-Some (λ (h : HeldSession S). h.sid == sid) held i d at).1) cells out
