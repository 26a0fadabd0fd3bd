-- What follows for callers from the rows that are held.
use Rattle.cell_store.proofs.Words.{◌≡◌, ◌≢◌, ℕ, ◌+◌, ◌*◌, ◌^◌, ◌<◌, ◌≤◌, Bool, true, false, List, [], ◌∷◌, ◌++◌, length, map, refl, sym, ap, ap₂, ◌∙◌, subst, arith, inl, inr, filter, ◌==◌, ◌&&◌, ◌||◌, not, nat_lt, nat_le, Some, None, Option, if◌then◌else◌, AllByRecursion, Contains, list_any, cases_Bool, common_steps, length-map, filter-append, Row, has_id, without, Kept, Store, never, is_live, is_held, is_needed, lives_at, rows_at, live_rows, needed_count, live_is_needed, put_rows, inserted, PinnedStay, Changes, IsDated, ended, held_rows, held_count, ended_id, is_row_of, born_at, put_done, put_cause, deleted, KeepsAs, IsStore, IsTimed, put_refusal, PutRefusal, all_at, all_weaken, all_push, insert_refusal, filter_same, Unpins, list_any-append, all_map}
use Rattle.std.specs.List.{IsDistinct}
use Rattle.std.proofs.lemmas.List.{map-append}
use Rattle.cell_store.specs.declared.PutRefusal.TheVariants as put
use Rattle.cell_store.proofs.Keeping.{eq_false, lives_now, live_now, needed_now, any_row, any_same, first_cause, row_id}
use Rattle.cell_store.proofs.Unpinning.{still_held}
use Rattle.cell_store.proofs.Ending.{live_holds, pin_holds, life_before, count_push, count_same, same_through, or_false}
use Rattle.cell_store.proofs.Counts.{held_split}
use Rattle.cell_store.proofs.EndedLemmas.{ended_absent, IsOnly, only_row, count_ended}

-- ---- rows after the end of one

-- the rest of the live rows
ended_live : (stamp id : ℕ) (kept : List Kept) → stamp ≢ never → map (λ k. k.row) (filter is_live (ended_id stamp id kept)) ≡ without (map (λ k. k.row) (filter is_live kept)) id
ended_live stamp id [] h = refl
ended_live stamp id (x ∷ xs) h = grind (arith, common_steps, ended_live stamp id xs h)

-- the rows at an earlier stamp stay
ended_before : (stamp s id : ℕ) (kept : List Kept) → s < stamp → s < never → rows_at s (ended_id stamp id kept) ≡ rows_at s kept
ended_before stamp s id [] h small = refl
ended_before stamp s id (x ∷ xs) h small = grind (arith, common_steps, ended_before stamp s id xs h small)

-- the end of a row looks only at held rows
ended_held_rows : (pins : List ℕ) (stamp id : ℕ) (kept : List Kept) → held_rows pins (ended_id stamp id (held_rows pins kept)) ≡ held_rows pins (ended_id stamp id kept)
ended_held_rows pins stamp id [] = refl
ended_held_rows pins stamp id (x ∷ xs) = grind (arith, common_steps, ended_held_rows pins stamp id xs)

dated_if : (stamp now : ℕ) (b : Bool) (k : Kept) → stamp ≤ now → IsDated stamp k → IsDated now (if b then ended now k else k)
dated_if stamp now true k h d = record { born = (let b : k.born ≤ stamp = d.born in omega arith); died = inr (omega arith) }
dated_if stamp now false k h d = record { born = (let b : k.born ≤ stamp = d.born in omega arith); died = elim d.died [ inl live ↦ inl live | inr died ↦ inr (omega arith) ] }

dated_ended : (stamp now id : ℕ) (kept : List Kept) → stamp ≤ now → AllByRecursion (IsDated stamp) kept → AllByRecursion (IsDated now) (ended_id now id kept)
dated_ended stamp now id kept h all = all_map (IsDated now) (λ k. if is_row_of id k then ended now k else k) kept
    (all_weaken (λ k. IsDated now (if is_row_of id k then ended now k else k)) (IsDated stamp) kept (λ k d. dated_if stamp now (is_row_of id k) k h d) all)

-- ---- what the held rows of a store tell

pub timed : (widths : List ℕ) (s : Store) → IsStore widths s → IsTimed s
timed widths s is = record { stamp = is.stamp; pins = is.pins; dated = is.dated }

module _ (s : Store) (is : IsTimed s) where
  pub held_count_is : held_count s ≡ length (live_rows s) + needed_count s
  held_count_is =
      held_split s.pins s.kept
      ∙ ap₂ (λ (a b : ℕ). a + b)
      (ap length (sym (live_now s.stamp s.kept is.stamp is.dated)) ∙ sym (length-map (filter (lives_at s.stamp) s.kept) (λ k. k.row)))
      (ap length (sym (needed_now s.stamp s.pins s.kept is.stamp is.dated)))

  pub pin_small : (p : ℕ) → Contains s.pins p → p ≤ s.stamp
  pin_small p has = subst (λ (n : ℕ). n ≤ s.stamp) has.2 (all_at (λ n. n ≤ s.stamp) s.pins has.0 p is.pins has.1)

  pins_then : AllByRecursion (λ p. p ≤ s.stamp + 1) s.pins
  pins_then = all_weaken (λ p. p ≤ s.stamp + 1) (λ p. p ≤ s.stamp) s.pins (λ p h. omega arith) is.pins

  pub timed_deleted : (id : ℕ) → s.stamp < 2 ^ 62 → IsTimed (deleted s id)
  timed_deleted id time = record { stamp = omega (arith, time); pins = pins_then; dated = dated_ended s.stamp (s.stamp + 1) id s.kept (omega arith) is.dated }

  pub timed_put : (row : Row) → s.stamp < 2 ^ 62 → IsTimed (put_done s row)
  timed_put row time = record {
    stamp = omega (arith, time);
    pins = pins_then;
    dated = all_push (IsDated (s.stamp + 1)) (ended_id (s.stamp + 1) row.id s.kept) (born_at (s.stamp + 1) row) (timed_deleted row.id time).dated
        (record { born = omega arith; died = inl refl });
  }

  -- the model's live rows, and its rows at each pinned stamp
  pub live_deleted : (id : ℕ) → s.stamp < 2 ^ 62 → live_rows (deleted s id) ≡ without (live_rows s) id
  live_deleted id time =
      ap (map (λ (k : Kept). k.row)) (live_now (s.stamp + 1) (ended_id (s.stamp + 1) id s.kept) (omega arith) (timed_deleted id time).dated)
      ∙ ended_live (s.stamp + 1) id s.kept (λ e. omega (arith, e, time))
      ∙ ap (λ l. without (map (λ (k : Kept). k.row) l) id) (sym (live_now s.stamp s.kept is.stamp is.dated))

  pub pinned_deleted : (id : ℕ) → PinnedStay s (deleted s id)
  pinned_deleted id = λ p has. ended_before (s.stamp + 1) p id s.kept (let h = pin_small p has in omega (arith, h)) (let h = pin_small p has in let t = is.stamp in omega (arith, h, t))

-- ---- two stores that keep the same

pub keeps_same : (s : Store) → KeepsAs s s
keeps_same s = record { sizes = (refl, refl, refl); stamp = refl; pins = refl; held = refl }

-- told of another name of the store before
pub keeps_of : (f : Store → Store) {x s t : Store} → s ≡ t → KeepsAs x (f s) → KeepsAs x (f t)
keeps_of f {x} same keeps = subst (λ v. KeepsAs x (f v)) same keeps

module _ (s t : Store) (is : IsTimed s) (it : IsTimed t) (keeps : KeepsAs s t) where
  pub same_live : live_rows s ≡ live_rows t
  same_live = ap (map (λ (k : Kept). k.row))
      (live_now s.stamp s.kept is.stamp is.dated ∙ same_through s.pins t.pins is_live s.kept t.kept (live_holds s.pins) (live_holds t.pins) keeps.held ∙ sym (live_now t.stamp t.kept it.stamp it.dated))

  pub same_needed : needed_count s ≡ needed_count t
  same_needed = omega (arith, held_count_is s is, held_count_is t it, ap length keeps.held, ap length same_live)

  pub same_pinned : (p : ℕ) → Contains s.pins p → rows_at p s.kept ≡ rows_at p t.kept
  same_pinned p has = ap (map (λ (k : Kept). k.row))
      (same_through s.pins t.pins (lives_at p) s.kept t.kept (pin_holds s.pins p has) (pin_holds t.pins p (subst (λ (ps : List ℕ). Contains ps p) keeps.pins has)) keeps.held)

  -- and so they refuse alike
  pub same_insert_refusal : (id : ℕ) → insert_refusal s id ≡ insert_refusal t id
  same_insert_refusal id =
      ap (λ l. first_cause s.most (has_id l id) (length l) (needed_count s)) same_live
      ∙ ap₂ (λ (m n : ℕ). first_cause m (has_id (live_rows t) id) (length (live_rows t)) n) keeps.sizes.2 same_needed

  same_ended : (id : ℕ) → held_rows s.pins (ended_id (s.stamp + 1) id s.kept) ≡ held_rows t.pins (ended_id (t.stamp + 1) id t.kept)
  same_ended id =
      sym (ended_held_rows s.pins (s.stamp + 1) id s.kept)
      ∙ ap (λ l. held_rows s.pins (ended_id (s.stamp + 1) id l)) keeps.held
      ∙ ap₂ (λ (ps : List ℕ) (n : ℕ). held_rows ps (ended_id (n + 1) id (held_rows t.pins t.kept))) keeps.pins keeps.stamp
      ∙ ended_held_rows t.pins (t.stamp + 1) id t.kept

  -- and keep the same after the same change
  keeps_then : (xs ys : List Kept) → held_rows s.pins xs ≡ held_rows t.pins ys → KeepsAs (record s { kept = xs; stamp = s.stamp + 1 }) (record t { kept = ys; stamp = t.stamp + 1 })
  keeps_then xs ys held = record { sizes = keeps.sizes; stamp = ap (λ n. n + 1) keeps.stamp; pins = keeps.pins; held = held }

  pub keeps_deleted : (id : ℕ) → KeepsAs (deleted s id) (deleted t id)
  keeps_deleted id = keeps_then (ended_id (s.stamp + 1) id s.kept) (ended_id (t.stamp + 1) id t.kept) (same_ended id)

  keeps_pushed : (row : Row) (xs ys : List Kept) → held_rows s.pins xs ≡ held_rows t.pins ys
      → KeepsAs (record s { kept = xs ++ born_at (s.stamp + 1) row ∷ []; stamp = s.stamp + 1 }) (record t { kept = ys ++ born_at (t.stamp + 1) row ∷ []; stamp = t.stamp + 1 })
  keeps_pushed row xs ys same = keeps_then (xs ++ born_at (s.stamp + 1) row ∷ []) (ys ++ born_at (t.stamp + 1) row ∷ [])
      (filter-append (is_held s.pins) xs (born_at (s.stamp + 1) row ∷ [])
      ∙ ap₂ (λ (l : List Kept) (n : ℕ). l ++ born_at (n + 1) row ∷ []) same keeps.stamp
      ∙ sym (filter-append (is_held t.pins) ys (born_at (t.stamp + 1) row ∷ [])))

  pub keeps_put : (row : Row) → KeepsAs (put_done s row) (put_done t row)
  keeps_put row = keeps_pushed row (ended_id (s.stamp + 1) row.id s.kept) (ended_id (t.stamp + 1) row.id t.kept) (same_ended row.id)

  pub keeps_inserted : (row : Row) → KeepsAs (inserted s row) (inserted t row)
  keeps_inserted row = keeps_pushed row s.kept t.kept keeps.held

  pub same_put_cause : (row : Row) → put_cause s row ≡ put_cause t row
  same_put_cause row =
      ap (λ l. if not (has_id l row.id) && nat_le s.most (length l) then Some put.Full else (if nat_lt (2 * s.most) (held_count (put_done s row)) then Some put.Held else None)) same_live
      ∙ ap₂ (λ (m n : ℕ). let o : Option PutRefusal = if not (has_id (live_rows t) row.id) && nat_le m (length (live_rows t)) then Some put.Full else (if nat_lt (2 * m) n then Some put.Held else None) in o)
      keeps.sizes.2 (ap length (keeps_put row).held)

any_filter : {X : Type 0} (p q : X → Bool) (xs : List X) → list_any q (filter p xs) ≡ list_any (λ x. p x && q x) xs
any_filter p q [] = refl
any_filter p q (x ∷ xs) = grind (arith, common_steps, any_filter p q xs)

-- ---- when a put is refused

module _ (s : Store) (is : IsTimed s) where
  has_row : (id : ℕ) → has_id (live_rows s) id ≡ list_any (is_row_of id) s.kept
  has_row id = ap (λ l. has_id (map (λ (k : Kept). k.row) l) id) (live_now s.stamp s.kept is.stamp is.dated) ∙ any_row id s.kept

  needed_only : (id : ℕ) → (one : IsOnly id s.kept) → live_is_needed s id ≡ is_needed s.pins one.row
  needed_only id one =
      any_same (λ k. (lives_at s.stamp k && (k.row.id == id)) && is_needed s.pins k) (λ k. is_row_of id k && is_needed s.pins k) s.kept
      (all_weaken (λ k. ((lives_at s.stamp k && (k.row.id == id)) && is_needed s.pins k) ≡ (is_row_of id k && is_needed s.pins k)) (IsDated s.stamp) s.kept
      (λ k d. ap (λ b. (b && (k.row.id == id)) && is_needed s.pins k) (lives_now s.stamp k is.stamp d)) is.dated)
      ∙ sym (any_filter (is_row_of id) (is_needed s.pins) s.kept) ∙ ap (list_any (is_needed s.pins)) one.alone ∙ or_false (is_needed s.pins one.row)

  needed_ended : (id : ℕ) (k : Kept) → is_row_of id k ≡ true → is_needed s.pins (ended (s.stamp + 1) k) ≡ is_needed s.pins k
  needed_ended id k found =
      any_same (λ p. lives_at p (ended (s.stamp + 1) k)) (λ p. lives_at p k) s.pins
      (all_weaken (λ p. lives_at p (ended (s.stamp + 1) k) ≡ lives_at p k) (λ p. p ≤ s.stamp) s.pins
      (λ p h. life_before (s.stamp + 1) p k (omega arith) (let t = is.stamp in omega (arith, t, h)) (row_id id k found).0) is.pins)

  count_only : (id : ℕ) (one : IsOnly id s.kept) (b : Bool) → is_needed s.pins one.row ≡ b → length (held_rows s.pins (ended_id (s.stamp + 1) id s.kept)) + 1 ≡ held_count s + (if b then 1 else 0)
  count_only id one b need =
      let held : is_held s.pins (ended (s.stamp + 1) one.row) ≡ b = ap (λ l. l || is_needed s.pins (ended (s.stamp + 1) one.row)) (eq_false (s.stamp + 1) never (let t = is.stamp in omega (arith, t))) ∙ needed_ended id one.row one.found ∙ need in
      omega (arith, simp (live_holds s.pins one.row (row_id id one.row one.found).0, held) at (count_ended (is_held s.pins) (s.stamp + 1) id s.kept one))

  count_put : (row : Row) → held_count (put_done s row) ≡ length (held_rows s.pins (ended_id (s.stamp + 1) row.id s.kept)) + 1
  count_put row = count_push (is_held s.pins) (ended_id (s.stamp + 1) row.id s.kept) (born_at (s.stamp + 1) row) refl

  -- how many rows are live or needed after a put
  count_replaced : (row : Row) → IsDistinct (λ a b. a == b) (map (λ (r : Row). r.id) (live_rows s)) → has_id (live_rows s) row.id ≡ true
      → held_count (put_done s row) ≡ length (live_rows s) + (needed_count s + (if live_is_needed s row.id then 1 else 0))
  count_replaced row apart there =
      let one : IsOnly row.id s.kept =
      only_row row.id s.kept (subst (λ (l : List Kept). IsDistinct (λ a b. a == b) (map (λ (r : Row). r.id) (map (λ (k : Kept). k.row) l))) (live_now s.stamp s.kept is.stamp is.dated) apart)
      (sym (has_row row.id) ∙ there) in
      omega (arith, count_put row, count_only row.id one (live_is_needed s row.id) (sym (needed_only row.id one)), held_count_is s is)

  none_ends : (id : ℕ) → has_id (live_rows s) id ≡ false → ended_id (s.stamp + 1) id s.kept ≡ s.kept
  none_ends id absent = ended_absent (s.stamp + 1) id s.kept (sym (has_row id) ∙ absent)

  count_added : (row : Row) → has_id (live_rows s) row.id ≡ false → held_count (put_done s row) ≡ length (live_rows s) + 1 + needed_count s
  count_added row absent = omega (arith, count_put row, ap (λ l. length (held_rows s.pins l)) (none_ends row.id absent), held_count_is s is)

  -- a put of another id is an insert
  pub put_added : (row : Row) → has_id (live_rows s) row.id ≡ false → inserted s row ≡ put_done s row
  put_added row absent =
      ap (λ (kept : List Kept). let t : Store = record s { kept = kept ++ born_at (s.stamp + 1) row ∷ []; stamp = s.stamp + 1 } in t) (sym (none_ends row.id absent))

  -- the cause told from the store as it were is the cause
  pub put_cause_is : (row : Row) → IsDistinct (λ a b. a == b) (map (λ (r : Row). r.id) (live_rows s)) → put_cause s row ≡ put_refusal s row.id
  put_cause_is row apart = elim (cases_Bool (has_id (live_rows s) row.id)) [
    | inl there ↦ simp (there, count_replaced row apart there)
    | inr absent ↦ simp (absent, count_added row absent)
  ]

  -- ---- the model after a put

  without_absent : (id : ℕ) (rows : List Row) → has_id rows id ≡ false → without rows id ≡ rows
  without_absent id [] h = refl
  without_absent id (r ∷ rows) h = grind (arith, common_steps, without_absent id rows)

  put_either : (row : Row) → without (live_rows s) row.id ++ row ∷ [] ≡ put_rows (live_rows s) row
  put_either row = grind (arith, common_steps, without_absent row.id (live_rows s))

  pub live_put : (row : Row) → s.stamp < 2 ^ 62 → live_rows (put_done s row) ≡ put_rows (live_rows s) row
  live_put row time =
      ap (map (λ (k : Kept). k.row)) (live_now (s.stamp + 1) (ended_id (s.stamp + 1) row.id s.kept ++ born_at (s.stamp + 1) row ∷ []) (omega arith) (timed_put s is row time).dated)
      ∙ ap (map (λ (k : Kept). k.row)) (filter-append is_live (ended_id (s.stamp + 1) row.id s.kept) (born_at (s.stamp + 1) row ∷ []))
      ∙ map-append (λ (k : Kept). k.row) (filter is_live (ended_id (s.stamp + 1) row.id s.kept)) (born_at (s.stamp + 1) row ∷ [])
      ∙ ap (λ l. l ++ row ∷ []) (ended_live (s.stamp + 1) row.id s.kept (λ e. omega (arith, e, time)) ∙ ap (λ l. without (map (λ (k : Kept). k.row) l) row.id) (sym (live_now s.stamp s.kept is.stamp is.dated)))
      ∙ put_either row

  -- a row that is born now changes no earlier stamp
  rows_pushed : (row : Row) (p : ℕ) → Contains s.pins p → (xs : List Kept) → rows_at p (xs ++ born_at (s.stamp + 1) row ∷ []) ≡ rows_at p xs
  rows_pushed row p has xs =
      let early : nat_le (s.stamp + 1) p ≡ false = (let e : p ≤ s.stamp = pin_small s is p has in grind (arith, common_steps)) in
      ap (map (λ (k : Kept). k.row)) (count_same (lives_at p) xs (born_at (s.stamp + 1) row) (ap (λ b. b && nat_lt p never) early))

  pub pinned_inserted : (row : Row) → PinnedStay s (inserted s row)
  pinned_inserted row = λ p has. rows_pushed row p has s.kept

  pub pinned_put : (row : Row) → PinnedStay s (put_done s row)
  pinned_put row = λ p has. rows_pushed row p has (ended_id (s.stamp + 1) row.id s.kept) ∙ pinned_deleted s is row.id p has

-- ---- after a pin and an unpin

module _ (s : Store) (is : IsTimed s) where
  pinned_held : (k : Kept) → IsDated s.stamp k → is_held (s.pins ++ s.stamp ∷ []) k ≡ is_held s.pins k
  pinned_held k d = (let e = list_any-append (λ p. lives_at p k) s.pins (s.stamp ∷ []) in let f = lives_now s.stamp k is.stamp d in grind (arith, common_steps))

  -- a pin of the present stamp holds no more rows
  pub held_with_pin : held_rows (s.pins ++ s.stamp ∷ []) s.kept ≡ held_rows s.pins s.kept
  held_with_pin =
      filter_same (is_held (s.pins ++ s.stamp ∷ [])) (is_held s.pins) s.kept (all_weaken (λ k. is_held (s.pins ++ s.stamp ∷ []) k ≡ is_held s.pins k) (IsDated s.stamp) s.kept pinned_held is.dated)

module _ (s t : Store) (is : IsTimed s) (it : IsTimed t) (keeps : KeepsAs s t) where
  pub keeps_pin : KeepsAs (record s { pins = s.pins ++ s.stamp ∷ [] }) (record t { pins = t.pins ++ t.stamp ∷ [] })
  keeps_pin = record {
    sizes = keeps.sizes;
    stamp = keeps.stamp;
    pins = ap₂ (λ (ps : List ℕ) (n : ℕ). ps ++ n ∷ []) keeps.pins keeps.stamp;
    held = held_with_pin s is ∙ keeps.held ∙ sym (held_with_pin t it);
  }

  pub keeps_unpin : (ps : List ℕ) (stamp : ℕ) → Unpins stamp s.pins ps → KeepsAs (record s { pins = ps }) (record t { pins = ps })
  keeps_unpin ps stamp un =
      let held = still_held stamp s.pins ps un in
      record {
        sizes = keeps.sizes;
        stamp = keeps.stamp;
        pins = refl;
        held = same_through s.pins t.pins (is_held ps) s.kept t.kept held (λ k h. subst (λ (l : List ℕ). is_held l k ≡ true) keeps.pins (held k h)) keeps.held;
      }

-- ---- the old clauses, from the new

module _ (widths : List ℕ) (old new : Store) (is : IsStore widths old) (now_is : IsStore widths new) (time : old.stamp < 2 ^ 62) where
  changes_as : (kept : List Kept) (rows : List Row) → IsTimed (record old { kept = kept; stamp = old.stamp + 1 }) → live_rows (record old { kept = kept; stamp = old.stamp + 1 }) ≡ rows
      → PinnedStay old (record old { kept = kept; stamp = old.stamp + 1 }) → KeepsAs new (record old { kept = kept; stamp = old.stamp + 1 }) → Changes old new rows
  changes_as kept rows it live stay keeps = record {
    live = same_live new (record old { kept = kept; stamp = old.stamp + 1 }) (timed widths new now_is) it keeps ∙ live;
    stamp = keeps.stamp;
    pins = keeps.pins;
    sizes = keeps.sizes;
    pinned = λ p has. same_pinned new (record old { kept = kept; stamp = old.stamp + 1 }) (timed widths new now_is) it keeps p (subst (λ (ps : List ℕ). Contains ps p) (sym keeps.pins) has) ∙ stay p has;
  }

  abbrev was : IsTimed old
  was = timed widths old is

  pub changes_deleted : (id : ℕ) → KeepsAs new (deleted old id) → Changes old new (without (live_rows old) id)
  changes_deleted id keeps = changes_as (deleted old id).kept (without (live_rows old) id) (timed_deleted old was id time) (live_deleted old was id time) (pinned_deleted old was id) keeps

  pub changes_put : (row : Row) → KeepsAs new (put_done old row) → Changes old new (put_rows (live_rows old) row)
  changes_put row keeps = changes_as (put_done old row).kept (put_rows (live_rows old) row) (timed_put old was row time) (live_put old was row time) (pinned_put old was row) keeps

-- and of an unpin
module _ (widths : List ℕ) (old new : Store) (is : IsStore widths old) (now_is : IsStore widths new) (keeps : KeepsAs new (record old { pins = new.pins })) where
  timed_fewer : IsTimed (record old { pins = new.pins })
  timed_fewer = record { stamp = is.stamp; pins = subst (λ (n : ℕ). AllByRecursion (λ s. s ≤ n) new.pins) keeps.stamp now_is.pins; dated = is.dated }

  pub unpinned_live : live_rows new ≡ live_rows old
  unpinned_live = same_live new (record old { pins = new.pins }) (timed widths new now_is) timed_fewer keeps

  pub unpinned_stay : (s : ℕ) → Contains new.pins s → rows_at s new.kept ≡ rows_at s old.kept
  unpinned_stay = same_pinned new (record old { pins = new.pins }) (timed widths new now_is) timed_fewer keeps
