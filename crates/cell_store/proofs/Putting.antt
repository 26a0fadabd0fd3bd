-- What a store's parts obey after a row was added to it, and after the row of an id ended.
use Rattle.cell_store.proofs.Words.{common_steps, ◌≡◌, ◌≢◌, ℕ, zero, suc, ◌+◌, ◌-◌, ◌*◌, ◌^◌, ◌<◌, ◌≤◌, Bool, true, false, List, [], ◌∷◌, ◌++◌, length, refl, sym, ap, ap₂, ◌∙◌, subst, arith, inl, inr, ◌⊎◌, filter, ◌==◌, not, ◌&&◌, Some, None, Option, is_some, nat_le, nat_lt, if◌then◌else◌, AllByRecursion, list_any, cases_lt, eqb_tells, length-append, Row, Place, Kept, never, is_live, is_held, is_needed, IsDated, Rising, row_at, no_row, ended, all_kept, rows_for, AreCells, IsIndex, Replaces, Ends, IsTidied, AreFew, IsKept, is_needed_dead, Table, all_at, all_weaken, all_middle, all_passing, held_rows, held_count, ended_id, is_row_of, born_at, put_done, put_cause, PutRefusal, inserted, deleted, KeepsAs, FewPinned, code_of_words, live_rows}
use Rattle.cell_store.specs.declared.PutRefusal.TheVariants as put
use Rattle.cell_store.proofs.Merge.{rising-all_kept}
use Rattle.cell_store.proofs.Steps.{IsNew, AreCells-added, all_kept-added, AreCells-ended, all_kept-ended, row_amid, replaced}
pub use Rattle.cell_store.proofs.Index.{LiveAt, some_place, live_added, IsIndex-added, IsIndex-ended, ended_that}
pub use Rattle.cell_store.proofs.Keeping.{any_same, eq-eqb, eq_false, is_row, row_id, has_live, has_id_is, first_cause, refusal_is, IsKept-same, all_kept_same}
use Rattle.cell_store.proofs.Ending.{live_holds, dead_holds, count_push, count_same}
use Rattle.cell_store.proofs.EndedLemmas.{IsOnly, only_row, count_ended, that_none, that_one, that_push, that_alone}
use Rattle.cell_store.proofs.Counts.{held_split}
use Rattle.cell_store.proofs.Unpinning.{AreCells-tidied, IsIndex-tidied, tidied_through}
use Rattle.std.specs.FinMap as fin
use Rattle.std.proofs.lemmas.List.{length-map}
use Rattle.id_table.specs.Table.{Places}
use Rattle.cell_store.specs.Groups.{listed_at, IsGrouped, IsIndexed, Regroups}
use Rattle.cell_store.proofs.Index.{end_that}
use Rattle.cell_store.proofs.Grouped.{with_place, with_own, with_others, grouped_with, grouped_without, grouped_ended}
pub use Rattle.cell_store.proofs.StoreFacts.{store_of, timed_kept, listed_all, ids_apart, put_cause_kept}
pub use Rattle.cell_store.proofs.StoreLemmas.{pinned_inserted, pinned_deleted, pinned_put, keeps_same, keeps_of, put_added}
pub use Rattle.cell_store.proofs.Pinned.{few_through, few_same}
pub use Rattle.cell_store.proofs.AllLemmas.{err_gives, ok_gives, ok_then}

-- ---- the cells after a row of one ended, and after others were let go

-- a row of the same birth is that row
same_birth : (xs : List Kept) (x : Kept) (ys : List Kept) (at : ℕ) → Rising (xs ++ x ∷ ys) → at < length (xs ++ x ∷ ys) → (row_at (xs ++ x ∷ ys) at).born ≡ x.born
    → row_at (xs ++ x ∷ ys) at ≡ x
same_birth [] x ys zero h here same = refl
same_birth [] x ys (suc at) h here same = absurd (let e : x.born < (row_at ys at).born = all_at (λ l. x.born < l.born) ys at no_row h.0 (omega arith) in omega arith)
same_birth (z ∷ xs) x ys zero h here same = absurd (let e : z.born < x.born = all_middle (λ l. z.born < l.born) xs x ys h.0 in omega arith)
same_birth (z ∷ xs) x ys (suc at) h here same = same_birth xs x ys at h.1 (omega arith) same

module _ (n stamp s cell id born : ℕ) (pins : List ℕ) (old new : ℕ → List Kept) (needed : Bool) (are : AreCells n stamp old) (later : stamp ≤ s)
    (ends : Ends born s pins (old cell) (new cell) needed) (others : (c : ℕ) → c ≢ cell → new c ≡ old c) (there : LiveAt (old cell) id born) where
  abbrev mid : ℕ → List Kept
  mid c = ended_that s id born (old c)

  rises : Rising (ends.front ++ ends.row ∷ ends.back)
  rises = subst Rising ends.was (are.rising cell)

  that_row : is_row_of id ends.row ≡ true
  that_row =
      let h : LiveAt (ends.front ++ ends.row ∷ ends.back) id born = subst (λ (l : List Kept). LiveAt l id born) ends.was there in
      subst (λ (k : Kept). is_row_of id k ≡ true) (same_birth ends.front ends.row ends.back h.0 rises h.1 (h.2 ∙ sym ends.at)) (is_row id (row_at (ends.front ++ ends.row ∷ ends.back) h.0) h.4 h.3)

  small : cell < n
  small = elim (cases_lt cell n) [
    | inl h ↦ h
    | inr past ↦ absurd (omega (arith, there.1, ap length (are.none_past cell past)))
  ]

  mid_replaces : Replaces cell old mid (ends.front ++ ended s ends.row ∷ ends.back)
  mid_replaces = record {
    own = ap (ended_that s id born) ends.was ∙ that_one s id born ends.front ends.row ends.back rises that_row ends.at;
    others = λ c off.
        let apart : AllByRecursion (λ l. ends.row.born ≢ l.born) (old c) =
        all_middle (λ k. AllByRecursion (λ l. k.born ≢ l.born) (old c)) ends.front ends.row ends.back (subst (AllByRecursion (λ k. AllByRecursion (λ l. k.born ≢ l.born) (old c))) ends.was (are.apart cell c (λ e. off (sym e)))) in
        that_none s id born (old c) (all_weaken (λ l. l.born ≢ born) (λ l. ends.row.born ≢ l.born) (old c) (λ l differ e. differ (ends.at ∙ sym e)) apart);
  }

  mid_are : AreCells n s mid
  mid_are = AreCells-ended n stamp s cell old mid ends.front ends.row ends.back are small ends.was mid_replaces later

  mid_all : all_kept mid n ≡ ended_that s id born (all_kept old n)
  mid_all =
      let amidst = row_amid n stamp s cell old mid ends.front ends.row ends.back are small ends.was mid_replaces later in
      all_kept-ended n stamp s cell old mid ends.front ends.row ends.back are small ends.was mid_replaces later amidst
      ∙ sym (ap (ended_that s id born) amidst.all_is ∙ that_one s id born amidst.before ends.row amidst.after (subst Rising amidst.all_is (rising-all_kept n stamp old are)) that_row ends.at)

  tidy : (c : ℕ) → IsTidied pins (mid c) (new c)
  tidy c = elim (eqb_tells c cell) [
    | inl at ↦ subst (λ (e : ℕ). IsTidied pins (mid e) (new e)) (sym at.1) (subst (λ (l : List Kept). IsTidied pins l (new cell)) (sym mid_replaces.own) ends.is)
    | inr off ↦ inl (others c off.1 ∙ sym (mid_replaces.others c off.1))
  ]

  AreCells-after : AreCells n s new
  AreCells-after = AreCells-tidied n s pins mid new mid_are tidy

  IsIndex-after : (places : ℕ → Option Place) → IsIndex mid places → IsIndex new places
  IsIndex-after = IsIndex-tidied pins mid new tidy

  -- the table of ids, when the cell's rows were listed anew
  grouped_after : (places : ℕ → Option Place) (ids ids' : Places) → IsIndex new places → IsGrouped mid places ids → Regroups new cell (length (old cell)) ids ids' → IsGrouped new places ids'
  grouped_after places ids ids' index grouped regroups =
      regroups mid pins places (λ c off. others c off ∙ sym (mid_replaces.others c off)) (tidy cell) (length-map (old cell) (end_that s id born)) index grouped

  -- what tests that only held rows pass let through
  through : (r : Kept → Bool) → ((k : Kept) → r k ≡ true → is_held pins k ≡ true) → filter r (all_kept new n) ≡ filter r (ended_that s id born (all_kept old n))
  through r held = tidied_through n s pins mid new mid_are tidy r held ∙ ap (filter r) mid_all

  few_after : ((c : ℕ) → AreFew pins (old c)) → (c : ℕ) → AreFew pins (new c)
  few_after few = replaced (λ c l. AreFew pins l) cell old new (new cell) (record { own = refl; others = others }) ends.few (λ c off. few c)

-- ---- a row that is added

few_more : (pins : List ℕ) (xs : List Kept) (k : Kept) → is_live k ≡ true → AreFew pins xs → AreFew pins (xs ++ k ∷ [])
few_more pins xs k live few = omega (arith, few, count_push (is_held pins) xs k (live_holds pins k live), length-append xs (k ∷ []))

-- from the codes of a call
abbrev pub row_from : List ℕ → ℕ → ℕ → List ℕ → Row
row_from widths id cell words = record { id = id; cell = cell; code = code_of_words widths words }

module _ {g cells most stamp live needed : ℕ} {pins : List ℕ} {lists : Table} {places : ℕ → Option Place} (is : IsKept g cells most stamp live needed pins lists places) where
  pins_then : AllByRecursion (λ s. s ≤ stamp + 1) pins
  pins_then = all_weaken (λ s. s ≤ stamp + 1) (λ s. s ≤ stamp) pins (λ s h. omega arith) is.pins_before

  module _ (row : Row) (id_small : row.id ≤ 2147483647) (small : row.cell < cells) (lists' : Table)
      (changes : Replaces row.cell (rows_for lists) (rows_for lists') (rows_for lists row.cell ++ born_at (stamp + 1) row ∷ [])) where
    abbrev k : Kept
    k = born_at (stamp + 1) row

    is_new : IsNew cells stamp row.cell k
    is_new = record { in_cell = refl; born = refl; live = refl; id = id_small }

    pub added_are : AreCells cells (stamp + 1) (rows_for lists')
    added_are = AreCells-added cells stamp row.cell (rows_for lists) (rows_for lists') k is.are_cells small is_new changes

    pub kept_added : all_kept (rows_for lists') cells ≡ all_kept (rows_for lists) cells ++ k ∷ []
    kept_added = all_kept-added cells stamp row.cell (rows_for lists) (rows_for lists') k is.are_cells small is_new changes

    few_added : (c : ℕ) → AreFew pins (rows_for lists' c)
    few_added = replaced (λ c l. AreFew pins l) row.cell (rows_for lists) (rows_for lists') (rows_for lists row.cell ++ k ∷ []) changes (few_more pins (rows_for lists row.cell) k refl (is.few row.cell)) (λ c off. is.few c)

    pub IsKept-added : (places' : ℕ → Option Place) → places row.id ≡ None → places' row.id ≡ Some (record { cell = row.cell; born = stamp + 1 })
        → ((q : ℕ) → q ≢ row.id → places' q ≡ places q) → lists'.g ≡ g → live < most → live + needed < 2 * most → stamp < 2 ^ 62
        → IsKept g cells most (stamp + 1) (live + 1) needed pins lists' places'
    IsKept-added places' free put others are room held_room time = record {
      g_small = is.g_small;
      cells_small = is.cells_small;
      most_small = is.most_small;
      stamp_small = omega arith;
      are_cells = added_are;
      g_is = are;
      index = IsIndex-added row.cell (rows_for lists) (rows_for lists') k changes refl places places' is.index free put others;
      live_count = ap (λ n. n + 1) is.live_count ∙ sym (count_push is_live (all_kept (rows_for lists) cells) k refl) ∙ ap (λ l. length (filter is_live l)) (sym kept_added);
      needed_count = is.needed_count ∙ ap length (sym (count_same (is_needed_dead pins) (all_kept (rows_for lists) cells) k refl)) ∙ ap (λ l. length (filter (is_needed_dead pins) l)) (sym kept_added);
      few_live = omega arith;
      few_needed = omega arith;
      few_pins = is.few_pins;
      pins_before = pins_then;
      few = few_added;
    }

    -- and the table of ids
    pub IsIndexed-added : (ids ids' : Places) → IsGrouped (rows_for lists) places ids → places row.id ≡ None → fin.get ids' row.id ≡ Some (listed_at row.cell (length (rows_for lists row.cell)))
        → ((q : ℕ) → q ≢ row.id → fin.get ids' q ≡ fin.get ids q) → lists'.g ≡ g → live < most → live + needed < 2 * most → stamp < 2 ^ 62
        → IsIndexed g cells most (stamp + 1) (live + 1) needed pins lists' ids'
    IsIndexed-added ids ids' grouped free put others are room held_room time =
        let o : Option Place = Some (record { cell = row.cell; born = stamp + 1 }) in
        record {
          places = with_place places row.id o;
          kept = IsKept-added (with_place places row.id o) free (with_own places row.id o) (with_others places row.id o) are room held_room time;
          grouped = grouped_with places (with_place places row.id o) ids ids' row.id (with_others places row.id o) others row.cell (rows_for lists) (rows_for lists') k changes refl refl (with_own places row.id o) put grouped;
        }

    pub added_few : FewPinned most pins (all_kept (rows_for lists) cells) → FewPinned most pins (all_kept (rows_for lists') cells)
    added_few = few_through most pins (all_kept (rows_for lists) cells) (all_kept (rows_for lists') cells) (inserted (store_of is) row).kept (ap (held_rows pins) kept_added) (pinned_inserted (store_of is) (timed_kept is) row)

  -- ---- the row of an id that ends

  module _ (id : ℕ) (place : Place) (found : places id ≡ Some place) (time : stamp < 2 ^ 62) where
    abbrev all : List Kept
    all = all_kept (rows_for lists) cells

    births : AllByRecursion (λ k. is_row_of id k ≡ true → k.born ≡ place.born) all
    births = all_weaken (λ k. is_row_of id k ≡ true → k.born ≡ place.born) (λ k. is_live k ≡ true → places k.row.id ≡ Some (record { cell = k.row.cell; born = k.born })) all
        (λ k listed row. (let r = row_id id k row in ap (λ (p : Place). p.born) (some_place (sym (listed r.0) ∙ ap places r.1 ∙ found)))) (listed_all is)

    one : IsOnly id all
    one = only_row id all (ids_apart is) (has_live cells stamp (rows_for lists) places is.are_cells is.index id (Some place) found)

    one_born : one.row.born ≡ place.born
    one_born = (subst (AllByRecursion (λ k. k.born ≡ place.born)) one.alone (all_passing (λ k. k.born ≡ place.born) (is_row_of id) all births)).0

    same_ended : ended_that (stamp + 1) id place.born all ≡ ended_id (stamp + 1) id all
    same_ended = that_alone (stamp + 1) id place.born all births

    dead_then : (stamp + 1 == never) ≡ false
    dead_then = eq_false (stamp + 1) never (omega (arith, time))

    live_then : length (filter is_live (ended_id (stamp + 1) id all)) + 1 ≡ live
    live_then = omega (arith, simp ((row_id id one.row one.found).0, dead_then) at (count_ended is_live (stamp + 1) id all one), is.live_count)

    pub some_live : 1 ≤ live
    some_live = omega (arith, live_then)

    needed_then : (needs : Bool) → list_any (λ s. nat_le place.born s && nat_lt s (stamp + 1)) pins ≡ needs → length (filter (is_needed_dead pins) (ended_id (stamp + 1) id all)) ≡ needed + (if needs then 1 else 0)
    needed_then needs need =
        let dead : is_needed_dead pins one.row ≡ false = ap (λ l. not l && is_needed pins one.row) (row_id id one.row one.found).0 in
        let after : is_needed_dead pins (ended (stamp + 1) one.row) ≡ needs = ap₂ (λ (d : Bool) (b : ℕ). not d && list_any (λ s. nat_le b s && nat_lt s (stamp + 1)) pins) dead_then one_born ∙ need in
        omega (arith, simp (dead, after) at (count_ended (is_needed_dead pins) (stamp + 1) id all one), is.needed_count)

    -- why a put of the id is refused
    pub put_cause_there : (row : Row) → row.id ≡ id → (needs : Bool) → list_any (λ s. nat_le place.born s && nat_lt s (stamp + 1)) pins ≡ needs
        → put_cause (store_of is) row ≡ (if nat_lt (2 * most) (live + (needed + (if needs then 1 else 0))) then Some put.Held else None)
    put_cause_there row same needs need =
        let count : held_count (put_done (store_of is) row) ≡ live + (needed + (if needs then 1 else 0)) =
        omega (
          arith,
          count_push (is_held pins) (ended_id (stamp + 1) row.id all) (born_at (stamp + 1) row) refl,
          ap (λ i. length (held_rows pins (ended_id (stamp + 1) i all))) same,
          held_split pins (ended_id (stamp + 1) id all),
          live_then,
          needed_then needs need,
        ) in
        ap₂ (λ (b : Bool) (n : ℕ). let o : Option PutRefusal = if not b && nat_le most (length (live_rows (store_of is))) then Some put.Full else (if nat_lt (2 * most) n then Some put.Held else None) in o)
        (has_id_is is row.id ∙ ap (λ i. is_some (places i)) same ∙ ap is_some found) count

    -- from the cells before the end on, and a list that has the same rows
    module _ (t : ℕ) (first : ℕ → List Kept) (are : AreCells cells t first) (soon : t ≤ stamp + 1) (there : LiveAt (first place.cell) id place.born) (few : (c : ℕ) → AreFew pins (first c))
        (lists' : Table) (needs : Bool) (ends : Ends place.born (stamp + 1) pins (first place.cell) (rows_for lists' place.cell) needs)
        (others : (c : ℕ) → c ≢ place.cell → rows_for lists' c ≡ first c) (model : List Kept) (same : ended_that (stamp + 1) id place.born (all_kept first cells) ≡ model) where
      held_then : (r : Kept → Bool) → ((k : Kept) → r k ≡ true → is_held pins k ≡ true) → filter r (all_kept (rows_for lists') cells) ≡ filter r model
      held_then r holds = through cells t (stamp + 1) place.cell id place.born pins first (rows_for lists') needs are soon ends others there r holds ∙ ap (filter r) same

      IsKept-then : (places' : ℕ → Option Place) (live' needed' : ℕ) → IsIndex (λ c. ended_that (stamp + 1) id place.born (first c)) places' → lists'.g ≡ g
          → live' ≡ length (filter is_live model) → needed' ≡ length (filter (is_needed_dead pins) model) → live' ≤ most → live' + needed' ≤ 2 * most
          → IsKept g cells most (stamp + 1) live' needed' pins lists' places'
      IsKept-then places' live' needed' index g_is lives needs' few_live few_needed = record {
        g_small = is.g_small;
        cells_small = is.cells_small;
        most_small = is.most_small;
        stamp_small = omega (arith, time);
        are_cells = AreCells-after cells t (stamp + 1) place.cell id place.born pins first (rows_for lists') needs are soon ends others there;
        g_is = g_is;
        index = IsIndex-after cells t (stamp + 1) place.cell id place.born pins first (rows_for lists') needs are soon ends others there places' index;
        live_count = lives ∙ ap length (sym (held_then is_live (live_holds pins)));
        needed_count = needs' ∙ ap length (sym (held_then (is_needed_dead pins) (dead_holds pins)));
        few_live = few_live;
        few_needed = few_needed;
        few_pins = is.few_pins;
        pins_before = pins_then;
        few = few_after cells t (stamp + 1) place.cell id place.born pins first (rows_for lists') needs are soon ends others there few;
      }

    need_is : (xs ys : List Kept) (needs : Bool) (ends : Ends place.born (stamp + 1) pins xs ys needs) → list_any (λ s. nat_le place.born s && nat_lt s (stamp + 1)) pins ≡ needs
    need_is xs ys needs ends = sym (ends.needed_is ∙ ap (λ b. list_any (λ s. nat_le b s && nat_lt s (stamp + 1)) pins) ends.at)

    one_more : (b : Bool) → (if b then 1 else 0) ≤ 1
    one_more b = grind (arith, common_steps)

    -- where it is deleted
    module _ (lists' : Table) (needs : Bool) (ends : Ends place.born (stamp + 1) pins (rows_for lists place.cell) (rows_for lists' place.cell) needs)
        (others : (c : ℕ) → c ≢ place.cell → rows_for lists' c ≡ rows_for lists c) where
      pub ended_keeps : KeepsAs (record (store_of is) { kept = all_kept (rows_for lists') cells; stamp = stamp + 1 }) (deleted (store_of is) id)
      ended_keeps =
          let held = held_then stamp (rows_for lists) is.are_cells (omega arith) (is.index.live id place found) is.few lists' needs ends others (ended_id (stamp + 1) id all) same_ended (is_held pins) (λ k h. h) in
          record { sizes = (refl, refl, refl); stamp = refl; pins = refl; held = held }

      pub ended_few : FewPinned most pins all → FewPinned most pins (all_kept (rows_for lists') cells)
      ended_few = few_through most pins all (all_kept (rows_for lists') cells) (ended_id (stamp + 1) id all) ended_keeps.held (pinned_deleted (store_of is) (timed_kept is) id)

      pub IsKept-ended : (places' : ℕ → Option Place) → places' id ≡ None → ((q : ℕ) → q ≢ id → places' q ≡ places q) → lists'.g ≡ g
          → IsKept g cells most (stamp + 1) (live - 1) (needed + (if needs then 1 else 0)) pins lists' places'
      IsKept-ended places' gone rest g_is =
          let need = needed_then needs (need_is (rows_for lists place.cell) (rows_for lists' place.cell) needs ends) in
          IsKept-then stamp (rows_for lists) is.are_cells (omega arith) (is.index.live id place found) is.few lists' needs ends others (ended_id (stamp + 1) id all) same_ended
          places' (live - 1) (needed + (if needs then 1 else 0))
          (IsIndex-ended (rows_for lists) places places' is.index id (stamp + 1) place found gone rest dead_then) g_is
          (omega (arith, live_then)) (sym need) (omega (arith, is.few_live)) (omega (arith, is.few_needed, one_more needs, live_then))

      -- and the table of ids
      pub IsIndexed-ended : (ids ids1 ids' : Places) → IsGrouped (rows_for lists) places ids → fin.get ids1 id ≡ None → ((q : ℕ) → q ≢ id → fin.get ids1 q ≡ fin.get ids q)
          → Regroups (rows_for lists') place.cell (length (rows_for lists place.cell)) ids1 ids' → lists'.g ≡ g → IsIndexed g cells most (stamp + 1) (live - 1) (needed + (if needs then 1 else 0)) pins lists' ids'
      IsIndexed-ended ids ids1 ids' grouped gone rest regroups g_is =
          let kept = IsKept-ended (with_place places id None) (with_own places id None) (with_others places id None) g_is in
          let without = grouped_without places (with_place places id None) ids ids1 id (with_others places id None) rest (rows_for lists) (with_own places id None) gone grouped in
          let off : (q : ℕ) (p : Place) → with_place places id None q ≡ Some p → (q ≢ id) ⊎ (p.born ≢ place.born) =
          λ q p is. inl (λ same. let e : None ≡ Some p = sym (with_own places id None) ∙ ap (with_place places id None) (sym same) ∙ is in cc) in
          record {
            places = with_place places id None;
            kept = kept;
            grouped = grouped_after cells stamp (stamp + 1) place.cell id place.born pins (rows_for lists) (rows_for lists') needs is.are_cells (omega arith) ends others (is.index.live id place found)
                (with_place places id None) ids1 ids' kept.index (grouped_ended (stamp + 1) id place.born (rows_for lists) (with_place places id None) ids1 off without) regroups;
          }

    -- where another row takes its place
    module _ (row : Row) (same_id : row.id ≡ id) (id_small : row.id ≤ 2147483647) (small : row.cell < cells) (lists1 : Table)
        (changes : Replaces row.cell (rows_for lists) (rows_for lists1) (rows_for lists row.cell ++ born_at (stamp + 1) row ∷ [])) (lists' : Table) (needs : Bool)
        (ends : Ends place.born (stamp + 1) pins (rows_for lists1 place.cell) (rows_for lists' place.cell) needs)
        (others : (c : ℕ) → c ≢ place.cell → rows_for lists' c ≡ rows_for lists1 c) where
      abbrev last : Kept
      last = born_at (stamp + 1) row

      later_born : stamp + 1 ≢ place.born
      later_born =
          let at = is.index.live id place found in
          let dated : IsDated stamp (row_at (rows_for lists place.cell) at.0) = all_at (IsDated stamp) (rows_for lists place.cell) at.0 no_row (is.are_cells.dated place.cell) at.1 in
          omega (arith, at.2, dated.born)

      put_ended : ended_that (stamp + 1) id place.born (all_kept (rows_for lists1) cells) ≡ ended_id (stamp + 1) id all ++ last ∷ []
      put_ended =
          ap (ended_that (stamp + 1) id place.born) (kept_added row id_small small lists1 changes)
          ∙ that_push (stamp + 1) id place.born all last later_born ∙ ap (λ l. l ++ last ∷ []) same_ended

      was_there : LiveAt (rows_for lists1 place.cell) id place.born
      was_there = live_added row.cell (rows_for lists) (rows_for lists1) last changes place.cell id place.born (is.index.live id place found)

      pub put_keeps : KeepsAs (record (store_of is) { kept = all_kept (rows_for lists') cells; stamp = stamp + 1 }) (put_done (store_of is) row)
      put_keeps =
          let held = held_then (stamp + 1) (rows_for lists1) (added_are row id_small small lists1 changes) (omega arith) was_there (few_added row id_small small lists1 changes) lists' needs ends others (ended_id (stamp + 1) id all ++ last ∷ []) put_ended (is_held pins) (λ k h. h) in
          record { sizes = (refl, refl, refl); stamp = refl; pins = refl; held = held ∙ ap (λ i. held_rows pins (ended_id (stamp + 1) i all ++ last ∷ [])) (sym same_id) }

      pub put_few : FewPinned most pins all → FewPinned most pins (all_kept (rows_for lists') cells)
      put_few = few_through most pins all (all_kept (rows_for lists') cells) (put_done (store_of is) row).kept put_keeps.held (pinned_put (store_of is) (timed_kept is) row)

      -- the index, but for the id
      abbrev but_id : ℕ → Option Place
      but_id q = if q == id then None else places q

      but_others : (q : ℕ) → q ≢ id → but_id q ≡ places q
      but_others q off = ap (λ (b : Bool). if b then None else places q) (eq_false q id off)

      but_none : (q : ℕ) → q ≡ id → but_id q ≡ None
      but_none q same = ap (λ (b : Bool). if b then None else places q) (eq-eqb q id same)

      IsIndex-put : (places' : ℕ → Option Place) → places' id ≡ Some (record { cell = row.cell; born = stamp + 1 }) → ((q : ℕ) → q ≢ id → places' q ≡ places q)
          → IsIndex (λ c. ended_that (stamp + 1) id place.born (rows_for lists1 c)) places'
      IsIndex-put places' put rest =
          IsIndex-added row.cell (λ c. ended_that (stamp + 1) id place.born (rows_for lists c)) (λ c. ended_that (stamp + 1) id place.born (rows_for lists1 c)) last
          (record {
            own = ap (ended_that (stamp + 1) id place.born) changes.own ∙ that_push (stamp + 1) id place.born (rows_for lists row.cell) last later_born;
            others = λ c off. ap (ended_that (stamp + 1) id place.born) (changes.others c off);
          })
          refl but_id places'
          (IsIndex-ended (rows_for lists) places but_id is.index id (stamp + 1) place found (but_none id refl) but_others dead_then)
          (but_none row.id same_id) (ap places' same_id ∙ put)
          (λ q off. (let other : q ≢ id = λ e. off (e ∙ sym same_id) in rest q other ∙ sym (but_others q other)))

      pub IsKept-put : (places' : ℕ → Option Place) → places' id ≡ Some (record { cell = row.cell; born = stamp + 1 }) → ((q : ℕ) → q ≢ id → places' q ≡ places q)
          → lists'.g ≡ g → live + (needed + (if needs then 1 else 0)) ≤ 2 * most → IsKept g cells most (stamp + 1) live (needed + (if needs then 1 else 0)) pins lists' places'
      IsKept-put places' put rest g_is room =
          let need = needed_then needs (need_is (rows_for lists1 place.cell) (rows_for lists' place.cell) needs ends) in
          IsKept-then (stamp + 1) (rows_for lists1) (added_are row id_small small lists1 changes) (omega arith) was_there (few_added row id_small small lists1 changes) lists' needs ends others
          (ended_id (stamp + 1) id all ++ last ∷ []) put_ended places' live (needed + (if needs then 1 else 0)) (IsIndex-put places' put rest) g_is
          (omega (arith, count_push is_live (ended_id (stamp + 1) id all) last refl, live_then))
          (sym need ∙ ap length (sym (count_same (is_needed_dead pins) (ended_id (stamp + 1) id all) last refl))) is.few_live room

      -- and the table of ids
      pub IsIndexed-put : (ids ids1 ids' : Places) → IsGrouped (rows_for lists) places ids → fin.get ids1 id ≡ Some (listed_at row.cell (length (rows_for lists row.cell)))
          → ((q : ℕ) → q ≢ id → fin.get ids1 q ≡ fin.get ids q) → Regroups (rows_for lists') place.cell (length (rows_for lists1 place.cell)) ids1 ids' → lists'.g ≡ g
          → live + (needed + (if needs then 1 else 0)) ≤ 2 * most → IsIndexed g cells most (stamp + 1) live (needed + (if needs then 1 else 0)) pins lists' ids'
      IsIndexed-put ids ids1 ids' grouped put rest regroups g_is room =
          let now : Place = record { cell = row.cell; born = stamp + 1 } in
          let places' : ℕ → Option Place = with_place places id (Some now) in
          let kept = IsKept-put places' (with_own places id (Some now)) (with_others places id (Some now)) g_is room in
          let with = grouped_with places places' ids ids1 id (with_others places id (Some now)) rest row.cell (rows_for lists) (rows_for lists1) last changes refl same_id (with_own places id (Some now)) put grouped in
          let off : (q : ℕ) (p : Place) → places' q ≡ Some p → (q ≢ id) ⊎ (p.born ≢ place.born) =
          λ q p is. elim (eqb_tells q id) [
            | inl same ↦ inr (λ e. later_born (ap (λ (v : Place). v.born) (some_place (sym (with_own places id (Some now)) ∙ ap places' (sym same.1) ∙ is)) ∙ e))
            | inr other ↦ inl other.1
          ] in
          record {
            places = places';
            kept = kept;
            grouped = grouped_after cells (stamp + 1) (stamp + 1) place.cell id place.born pins (rows_for lists1) (rows_for lists') needs (added_are row id_small small lists1 changes) (omega arith) ends others was_there
                places' ids1 ids' kept.index (grouped_ended (stamp + 1) id place.born (rows_for lists1) places' ids1 off with) regroups;
          }
