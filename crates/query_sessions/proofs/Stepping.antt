-- A session after a step.
use Rattle.std.proofs.Common.{◌≡◌, ℕ, ◌+◌, ◌-◌, ◌*◌, ◌≤◌, ◌<◌, ◌≢◌, Bool, true, false, if◌then◌else◌, List, [], ◌∷◌, ◌++◌, length, min, refl, sym, ap, subst, ◌∙◌, arith}
use Rattle.std.proofs.lemmas.List.FromFn.{length-map-range_with_len}
use Rattle.std.proofs.lemmas.List.Elements.{Contains-push}
use Rattle.std.specs.List.{Contains}
use Rattle.std.specs.Prelude.{Result, Ok, Err, OnOk, OnErr}
use Rattle.book_model.specs.Order.{Pair, pair_cmp}
use Rattle.book_model.specs.Book.{Book}
use Rattle.book_model.specs.Rows.{Row, passing}
use Rattle.book_model.specs.Visit.{cells, cell_sum, needed}
use Rattle.book_model.proofs.Best.{length-sorted}
use Rattle.cell_store.specs.State.{Store, rows_at, live_rows, Changes}
use Rattle.coarse_rank.specs.Ranked.{Ranked, IsFilled, cells_of}
use Rattle.adc_tables.specs.Full.{IsFilledFor}
use Rattle.query_engine.specs.Parts.{Scratched, StandsFor, SameQuery}
use Rattle.query_engine.specs.State.{State, pinned_now}
use Rattle.query_engine.specs.Report.{query_of}
use Rattle.query_engine.specs.Progress.{HasVisited, first_rows, first_full, visit_length}
use Rattle.query_engine.proofs.Lengths.{prefix_le, over_by_rows, goes_on, full_le}
use Rattle.book_model.specs.Visit.{shortest_prefix}
use Rattle.book_model.specs.Answer.{pairs_of}
use Rattle.best_k.specs.Least.{least}
use Rattle.query_engine.proofs.Answering.{visit_is, visited_is, answer_is, count_is}
use Rattle.query_sessions.specs.declared.Step.{Step}
use Rattle.query_sessions.specs.declared.Step.TheVariants.{More, Ended}
use Rattle.query_sessions.specs.Standing.{Opened, StandsOver, CanGoOn, HasAnswered, SaysWhether, cells_given, cells_in_all}

length-cells : (book : Book) (v : List ℕ) → length (cells book v) ≡ book.k0 * book.k1
unfolding cells
length-cells book v = length-sorted pair_cmp _ ∙ length-map-range_with_len (λ (cell : ℕ). let p : Pair = (cell_sum book v cell, cell) in p) 0 (book.k0 * book.k1)

module _ (ws : List ℕ) (book : Book) (rows : List Row) (old : Opened) (st : StandsOver ws book rows old) where
  pub all_is : visit_length (passing old.ranges rows) old.needed old.parts.ranks ≡ cells_in_all book rows old
  all_is = ap length (visit_is book old.query old.k old.wanted old.ranges rows old.parts.ranks st.asked.order old.needed st.needed_is)

  pub whole_order : length (cells_of old.parts.ranks) ≡ book.k0 * book.k1
  whole_order = ap length st.asked.order ∙ length-cells book old.query

  module _ (parts : Scratched) (gone budget : ℕ)
      (seen : HasVisited ws (passing old.ranges rows) parts)
      (given : parts.walk.given ≡ old.parts.walk.given + gone)
      (gone_is : gone ≡ min budget (visit_length (passing old.ranges rows) old.needed old.parts.ranks - old.parts.walk.given))
      (same : SameQuery old.parts parts) where
    pub visits : parts.walk.given ≡ cells_given old + min budget (cells_in_all book rows old - cells_given old)
    visits = omega (arith, given, gone_is, all_is)

    pub within : parts.walk.given ≤ cells_in_all book rows old
    within = omega (arith, given, gone_is, all_is, st.within)

    pub rows_are : parts.state.rows ≡ length (first_rows (passing old.ranges rows) (cells_of old.parts.ranks) parts.walk.given)
    rows_are =
        (seen.stands book old.query (subst (IsFilledFor ws book old.query) (sym same.full) st.asked.tables)).rows
        ∙ ap (λ (r : Ranked). length (first_rows (passing old.ranges rows) (cells_of r) parts.walk.given)) same.ranks

    -- it is over where enough rows were visited, or all cells
    pub over_rows : old.needed ≤ parts.state.rows → parts.walk.given ≡ cells_in_all book rows old
    over_rows enough = omega (arith, over_by_rows (passing old.ranges rows) old.needed (cells_of old.parts.ranks) parts.walk.given (omega (arith, enough, rows_are)), all_is, within)

    pub over_cells : parts.walk.given ≡ book.k0 * book.k1 → parts.walk.given ≡ cells_in_all book rows old
    over_cells all = omega (arith, all, prefix_le (passing old.ranges rows) old.needed (cells_of old.parts.ranks), whole_order, all_is, within)

    -- and goes on else
    pub remains : parts.state.rows < old.needed → parts.walk.given ≢ book.k0 * book.k1 → parts.walk.given < cells_in_all book rows old
    remains few not_all =
        let left : parts.walk.given < length (cells_of old.parts.ranks) =
        omega (arith, not_all, whole_order, within, all_is, prefix_le (passing old.ranges rows) old.needed (cells_of old.parts.ranks)) in
        omega (arith, all_is, goes_on (passing old.ranges rows) old.needed (cells_of old.parts.ranks) parts.walk.given (omega (arith, within, all_is)) (omega (arith, few, rows_are)) left)

    -- what is full of the visited rows
    pub full_few : first_full book old.query old.parts.best.k (passing old.ranges rows) (cells_of old.parts.ranks) parts.walk.given ≤ parts.state.rows
    full_few = omega (arith, rows_are, full_le book old.query old.parts.best.k (passing old.ranges rows) (cells_of old.parts.ranks) parts.walk.given)

    pub was_full : old.full ≡ first_full book old.query old.parts.best.k (passing old.ranges rows) (cells_of old.parts.ranks) old.parts.walk.given
    was_full = st.full ∙ ap (λ (k : ℕ). first_full book old.query k (passing old.ranges rows) (cells_of old.parts.ranks) old.parts.walk.given) (sym st.k)

    pub stands : (count : ℕ) (ended : Bool)
        → count ≡ first_full book old.query old.parts.best.k (passing old.ranges rows) (cells_of old.parts.ranks) parts.walk.given
        → (ended ≡ true → parts.walk.given ≡ cells_in_all book rows old)
        → StandsOver ws book rows (record old { parts = parts; full = count; ended = ended })
    stands count ended counted over = record {
      asked = record {
        ranks_are = same.ranks ∙ st.asked.ranks_are;
        ranked = subst IsFilled (sym same.ranks) st.asked.ranked;
        order = ap cells_of same.ranks ∙ st.asked.order;
        tables = subst (IsFilledFor ws book old.query) (sym same.full) st.asked.tables;
      };
      visited = seen;
      k = same.k ∙ st.k;
      needed_is = st.needed_is;
      within = within;
      full = counted ∙ ap (λ (k : ℕ). first_full book old.query k (passing old.ranges rows) (cells_of old.parts.ranks) parts.walk.given) st.k
          ∙ ap (λ (r : Ranked). first_full book old.query old.k (passing old.ranges rows) (cells_of r) parts.walk.given) (sym same.ranks);
      over = over;
    }

-- a session behind its fields, and a store behind a reference
module _ (ws : List ℕ) (book : Book) (session inside : Opened) (view : inside ≡ session) (store lent : Store) (same : lent ≡ store) where
  pub inner : StandsOver ws book (rows_at session.stamp store.kept) session → StandsOver ws book (rows_at inside.stamp lent.kept) inside
  inner st =
      subst (λ (s : Store). StandsOver ws book (rows_at inside.stamp s.kept) inside) (sym same)
      (subst (λ (s : Opened). StandsOver ws book (rows_at s.stamp store.kept) s) (sym view) st)

  pub outer_all : cells_in_all book (rows_at inside.stamp lent.kept) inside ≡ cells_in_all book (rows_at session.stamp store.kept) session
  outer_all =
      ap (λ (s : Store). cells_in_all book (rows_at inside.stamp s.kept) inside) same
      ∙ ap (λ (s : Opened). cells_in_all book (rows_at s.stamp store.kept) s) view

  pub outer_given : cells_given inside ≡ cells_given session
  outer_given = ap (λ (s : Opened). cells_given s) view

-- and it can go on over an engine
pub outer_can : (ws : List ℕ) (engine : State) (session inside : Opened) (view : inside ≡ session) (lent : Store) (same : lent ≡ engine.store) (new : Opened)
    → new.stamp ≡ inside.stamp → Contains engine.store.pins session.stamp → StandsOver ws engine.book (rows_at inside.stamp lent.kept) new → CanGoOn ws engine new
outer_can ws engine session inside view lent same new stamp pinned h =
    let to_new : session.stamp ≡ new.stamp = sym (ap (λ (s : Opened). s.stamp) view) ∙ sym stamp in
    record {
      pinned = subst (λ (s : ℕ). Contains engine.store.pins s) to_new pinned;
      stands = subst (λ (s : ℕ). StandsOver ws engine.book (rows_at s engine.store.kept) new) (sym stamp) (subst (λ (st : Store). StandsOver ws engine.book (rows_at inside.stamp st.kept) new) same h);
    }

pub says : (step : Step) (over : Bool) (given all : ℕ) → step ≡ (if over then Ended else More) → (over ≡ true → given ≡ all) → (over ≡ false → given < all) → SaysWhether step given all
says step true given all said ended goes_on_so = subst (λ (s : Step). SaysWhether s given all) (sym said) (ended refl)
says step false given all said ended goes_on_so = subst (λ (s : Step). SaysWhether s given all) (sym said) (goes_on_so refl)

-- a session that has ended has answered
pub has_answered : (ws : List ℕ) (book : Book) (rows : List Row) (s : Opened) → StandsOver ws book rows s → s.ended ≡ true → HasAnswered book rows s
has_answered ws book rows s st over =
    let given : ℕ = s.parts.walk.given in
    let given_is : given ≡ length (shortest_prefix (passing s.ranges rows) s.needed (cells_of s.parts.ranks)) =
    st.over over ∙ sym (ap length (visit_is book s.query s.k s.wanted s.ranges rows s.parts.ranks st.asked.order s.needed st.needed_is)) in
    let stands = st.visited.stands book s.query st.asked.tables in
    record {
      answers = stands.held ∙ ap (λ (k : ℕ). least k (pairs_of book s.query (first_rows (passing s.ranges rows) (cells_of s.parts.ranks) given))) st.k
          ∙ answer_is book s.query s.k s.wanted s.ranges rows s.parts.ranks st.asked.order s.needed st.needed_is given given_is;
      cells = st.over over;
      live = stands.rows ∙ ap length (visited_is book s.query s.k s.wanted s.ranges rows s.parts.ranks st.asked.order s.needed st.needed_is given given_is);
      full = st.full ∙ count_is book s.query s.k s.wanted s.ranges rows s.parts.ranks st.asked.order s.needed st.needed_is given given_is;
    }

-- before its first step a session stands for the rows of its opening
pub begun : (ws : List ℕ) (engine : State) (session : Opened) (query : List ℕ) → session.query ≡ query
    → StandsFor ws engine.book query session.parts.ranks session.parts.full
    → HasVisited ws (passing session.ranges (live_rows engine.store)) session.parts
    → session.parts.walk.given ≡ 0 → session.parts.best.k ≡ session.k → session.needed ≡ needed (query_of query session.k session.wanted session.ranges) (live_rows engine.store)
    → session.full ≡ 0 → session.ended ≡ false → StandsOver ws engine.book (live_rows engine.store) session
begun ws engine session query same asked visited none k needed_is no_full not_ended =
    let rows = passing session.ranges (live_rows engine.store) in
    record {
      asked = subst (λ (q : List ℕ). StandsFor ws engine.book q session.parts.ranks session.parts.full) (sym same) asked;
      visited = visited;
      k = k;
      needed_is = needed_is;
      within = omega (arith, none);
      full = no_full ∙ ap (λ (c : ℕ). first_full engine.book session.query session.k rows (cells_of session.parts.ranks) c) (sym none);
      over = λ over. cc (over, not_ended);
    }

-- so it can go on: its stamp was pinned then
pub opened_can : (ws : List ℕ) (old new : State) (session : Opened)
    → new ≡ record old { store = pinned_now old.store } → session.stamp ≡ old.store.stamp → StandsOver ws new.book (live_rows new.store) session → CanGoOn ws new session
opened_can ws old new session is stamp st =
    let last : Contains (old.store.pins ++ old.store.stamp ∷ []) session.stamp =
    subst (λ (s : ℕ). Contains (old.store.pins ++ old.store.stamp ∷ []) s) (sym stamp) (Contains-push old.store.pins old.store.stamp) in
    record {
      pinned = subst (λ (ps : List ℕ). Contains ps session.stamp) (sym (ap (λ (e : State). e.store.pins) is)) last;
      stands = subst (λ (s : ℕ). StandsOver ws new.book (rows_at s new.store.kept) session) (ap (λ (e : State). e.store.stamp) is ∙ sym stamp) st;
    }

-- a session can go on over an engine whose rows changed, or whose change was refused
pub go_on_over : {T E : Type 0} (ws : List ℕ) (old new : State) (session : Opened) (rows : List Row) (r : Result T E)
    → new.book ≡ old.book → OnOk r (Changes old.store new.store rows) → OnErr r (new ≡ old) → CanGoOn ws old session → CanGoOn ws new session
go_on_over ws old new session rows (Err e) book changes same can = subst (λ (s : State). CanGoOn ws s session) (sym same) can
go_on_over ws old new session rows (Ok x) book changes same can = record {
  pinned = subst (λ (pins : List ℕ). Contains pins session.stamp) (sym changes.pins) can.pinned;
  stands = subst (λ (b : Book). StandsOver ws b (rows_at session.stamp new.store.kept) session) (sym book)
      (subst (λ (rs : List Row). StandsOver ws old.book rs session) (sym (changes.pinned session.stamp can.pinned)) can.stands);
}
