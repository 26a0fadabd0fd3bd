-- What a walk has given is a front of the order of cells.
use Rattle.std.proofs.Common.{◌≡◌, ◌≢◌, ℕ, zero, suc, ◌+◌, ◌-◌, ◌*◌, ◌≤◌, ◌<◌, true, false, List, [], ◌∷◌, ◌++◌, length, drop, get_or, Some, slice_get, refl, sym, ap, subst, ◌∙◌, arith, inl, inr, append_assoc, nat_lt, length-append}
use Rattle.std.proofs.Math.ListN.{get_or-map}
use Rattle.std.proofs.Math.Seq.{drop-cons}
use Rattle.std.specs.List.{AllByRecursion, All, Contains, flat_map}
use Rattle.std.specs.List.Sorted.{IsPermutation}
use Rattle.std.proofs.lemmas.Bool.{cases_lt, lt-ltb, le-ltb}
use Rattle.std.proofs.lemmas.List.{length-map, append-nil}
use Rattle.std.proofs.lemmas.List.Elements.{All-cons, All-append}
use Rattle.std.proofs.lemmas.List.Sorted.{IsPermutation-trans, IsPermutation-append_left, All-permutation, Contains-permutation, length_permutation}
use Rattle.book_model.specs.Order.{Pair, sorted, pair_cmp}
use Rattle.book_model.proofs.Sorting.{sorted-permutation, pair_total, pair_exact}
use Rattle.book_model.proofs.Best.{length-sorted}
use Rattle.book_model.proofs.AllLemmas.{all_at, all_append, all_from_places}
use Rattle.coarse_rank.specs.Ranked.{Ranked, IsFilled, cell_key, cells_of_word, cells_of_words, cells_of}
use Rattle.pair_walk.specs.declared.queue.Entry.{Entry}
use Rattle.pair_walk.specs.Queue.{key_of, NotAfter, IsHeapUpTo}
use Rattle.pair_walk.specs.Walking.{Walking, word0, word1, entry_of, next_in_row, rest_of_row, cells_left, IsEntry, AreWaiting, IsWalkOver}
use Rattle.pair_walk.proofs.Keys.{Le, rising_from, rest_after, rows_after}
use Rattle.coarse_rank.proofs.RankLemmas.{front_moves}
use Rattle.pair_walk.proofs.Moves.{flat_map-permutation, least_first, at_place, after_place, place_within, none_after}
use Rattle.pair_walk.proofs.QueueLemmas.{first_is_least, not_after_trans, not_after_itself}

drop_all : {X : Type 0} (xs : List X) (n : ℕ) → length xs ≤ n → drop n xs ≡ []
drop_all [] zero h = refl
drop_all [] (suc n) h = refl
drop_all (x ∷ xs) zero h = absurd (omega arith)
drop_all (x ∷ xs) (suc n) h = drop_all xs n (omega arith)

drop_next : {X : Type 0} (xs : List X) (n : ℕ) (d : X) → n < length xs → drop n xs ≡ get_or xs n d ∷ drop (n + 1) xs
drop_next xs n d lt =
    let e : n + 1 ≡ suc n = omega arith in
    rw e (drop-cons xs n d lt)

flat_map-append : {X Y : Type 0} (f : X → List Y) (xs ys : List X) → flat_map f (xs ++ ys) ≡ flat_map f xs ++ flat_map f ys
flat_map-append f [] ys = refl
flat_map-append f (x ∷ xs) ys = ap (λ w. f x ++ w) (flat_map-append f xs ys) ∙ sym (append_assoc (f x) (flat_map f xs) (flat_map f ys))

length-rows : (k1 : ℕ) (qs ps : List Pair) → length (cells_of_words k1 qs ps) ≡ length ps * length qs
length-rows k1 qs [] = omega arith
length-rows k1 qs (p ∷ ps) = length-append (cells_of_word k1 qs p) (cells_of_words k1 qs ps) ∙ omega (arith, length-map qs (cell_key k1 p), length-rows k1 qs ps)

pub length-cells_of : (ranks : Ranked) → IsFilled ranks → length (cells_of ranks) ≡ ranks.k0 * ranks.k1
unfolding cells_of
length-cells_of ranks filled = length-sorted pair_cmp (cells_of_words ranks.k1 ranks.words1 ranks.words0) ∙ length-rows ranks.k1 ranks.words1 ranks.words0
    ∙ (λ t. filled.size0 t * filled.size1 t)

module _ (ranks : Ranked) (filled : IsFilled ranks) where
  row : ℕ → List Pair
  row a = cells_of_word ranks.k1 ranks.words1 (word0 ranks a)

  length-row : (a : ℕ) → length (cells_of_word ranks.k1 ranks.words1 (word0 ranks a)) ≡ ranks.k1
  length-row a = length-map ranks.words1 (cell_key ranks.k1 (word0 ranks a)) ∙ filled.size1

  key_is : (o : ℕ) (e : Entry) → IsEntry ranks o e → key_of e ≡ cell_key ranks.k1 (word0 ranks e.a) (word1 ranks e.b)
  key_is o e entry = ap key_of entry.is

  -- the rest of a row begins with the cell of its entry
  rest_is : (o : ℕ) (e : Entry) → IsEntry ranks o e → rest_of_row ranks e ≡ key_of e ∷ drop (e.b + 1) (cells_of_word ranks.k1 ranks.words1 (word0 ranks e.a))
  rest_is o e entry =
      drop_next (cells_of_word ranks.k1 ranks.words1 (word0 ranks e.a)) e.b (cell_key ranks.k1 (word0 ranks e.a) (0, 0)) (omega (arith, entry.column, length-row e.a))
      ∙ ap (λ k. k ∷ drop (e.b + 1) (cells_of_word ranks.k1 ranks.words1 (word0 ranks e.a))) (get_or-map (cell_key ranks.k1 (word0 ranks e.a)) ranks.words1 e.b (0, 0) ∙ sym (key_is o e entry))

  entries_after : (x : Pair) (o : ℕ) (es : List Entry) → AllByRecursion (IsEntry ranks o) es → AllByRecursion (λ e. Le x (key_of e)) es → AllByRecursion (λ y. Le x y) (flat_map (rest_of_row ranks) es)
  entries_after x o [] each after = tt
  entries_after x o (e ∷ es) each after = all_append (λ y. Le x y) (rest_of_row ranks e) (flat_map (rest_of_row ranks) es)
      (rest_after ranks.k1 x (word0 ranks e.a) (word1 ranks e.b) ranks.words1 e.b (0, 0) refl (omega (arith, each.0.column, filled.size1)) filled.rising1
      (subst (λ (y : Pair). Le x y) (key_is o e each.0) after.0))
      (entries_after x o es each.1 after.1)

  rows_not_opened : (x : Pair) (o : ℕ) → 1 ≤ o → (o < ranks.k0 → Le x (cell_key ranks.k1 (word0 ranks (o - 1)) (word1 ranks 0))) → AllByRecursion (λ y. Le x y) (cells_of_words ranks.k1 ranks.words1 (drop o ranks.words0))
  rows_not_opened x o some h = elim (cases_lt o ranks.k0) [
    | inl lt ↦
        (let next : (o - 1) + 1 ≡ o = omega arith in
        let from : AllByRecursion (λ y. Le (word0 ranks (o - 1)) y) (drop (o - 1) ranks.words0) = rising_from ranks.words0 (o - 1) (0, 0) filled.rising0 (omega (arith, filled.size0)) in
        let parts : drop (o - 1) ranks.words0 ≡ word0 ranks (o - 1) ∷ drop o ranks.words0 = drop_next ranks.words0 (o - 1) (0, 0) (omega (arith, filled.size0)) ∙ ap (λ n. word0 ranks (o - 1) ∷ drop n ranks.words0) next in
        rows_after ranks.k1 x (word0 ranks (o - 1)) (word1 ranks 0) ranks.words1 (drop o ranks.words0) (h lt)
        (rising_from ranks.words1 0 (0, 0) filled.rising1 (omega (arith, filled.size1, filled.some.1)))
        (subst (λ (ps : List Pair). AllByRecursion (λ y. Le (word0 ranks (o - 1)) y) ps) parts from).1)
    | inr le ↦ rw (drop_all ranks.words0 o (omega (arith, filled.size0))) tt
  ]

  -- what comes before each waiting cell comes before all cells that are left
  all_left : (x : Pair) (es : List Entry) (o : ℕ) → AreWaiting ranks es o → AllByRecursion (λ e. Le x (key_of e)) es → (o < ranks.k0 → Contains es (entry_of ranks (o - 1) 0)) → AllByRecursion (λ y. Le x y) (cells_left ranks es o)
  all_left x es o waiting after last = all_append (λ y. Le x y) (flat_map (rest_of_row ranks) es) (cells_of_words ranks.k1 ranks.words1 (drop o ranks.words0))
      (entries_after x o es (all_from_places (IsEntry ranks o) es waiting.each) after)
      (rows_not_opened x o waiting.some (λ lt.
      let found : Contains es (entry_of ranks (o - 1) 0) = last lt in
      subst (λ (e : Entry). Le x (key_of e)) found.2 (all_at (λ e. Le x (key_of e)) es found.0 (entry_of ranks (o - 1) 0) after found.1)))

  -- the cells left after the first of the waiting ones
  cells_after : Entry → List Entry → ℕ → List Pair
  cells_after e es o = drop (e.b + 1) (cells_of_word ranks.k1 ranks.words1 (word0 ranks e.a)) ++ (flat_map (rest_of_row ranks) es ++ cells_of_words ranks.k1 ranks.words1 (drop o ranks.words0))

  left_is : (e : Entry) (es : List Entry) (o : ℕ) → IsEntry ranks o e → cells_left ranks (e ∷ es) o ≡ key_of e ∷ cells_after e es o
  unfolding cells_after
  left_is e es o entry = append_assoc (rest_of_row ranks e) (flat_map (rest_of_row ranks) es) (cells_of_words ranks.k1 ranks.words1 (drop o ranks.words0))
      ∙ ap (λ w. w ++ (flat_map (rest_of_row ranks) es ++ cells_of_words ranks.k1 ranks.words1 (drop o ranks.words0))) (rest_is o e entry)

  -- the first of the heap is the least of the cells that are left
  least_is_first : (e : Entry) (es : List Entry) (o : ℕ) → AreWaiting ranks (e ∷ es) o → (o < ranks.k0 → Contains (e ∷ es) (entry_of ranks (o - 1) 0)) → sorted pair_cmp (cells_left ranks (e ∷ es) o) ≡ key_of e ∷ sorted pair_cmp (cells_after e es o)
  least_is_first e es o waiting last =
      let entry : IsEntry ranks o e = waiting.each 0 e (omega arith) in
      let first : AllByRecursion (NotAfter e) (e ∷ es) = first_is_least NotAfter not_after_trans (e ∷ es) not_after_itself e refl waiting.heap in
      let all : AllByRecursion (λ y. Le (key_of e) y) (key_of e ∷ cells_after e es o) = subst (λ (w : List Pair). AllByRecursion (λ y. Le (key_of e) y) w) (left_is e es o entry) (all_left (key_of e) (e ∷ es) o waiting first last) in
      ap (sorted pair_cmp) (left_is e es o entry) ∙ least_first (key_of e) (cells_after e es o) all.1

  -- what the next entry of a row stands for is the rest of the row
  next_is : (e : Entry) → flat_map (rest_of_row ranks) (next_in_row ranks e) ≡ drop (e.b + 1) (cells_of_word ranks.k1 ranks.words1 (word0 ranks e.a))
  next_is e = elim (cases_lt (e.b + 1) ranks.k1) [
    | inl lt ↦
        (let more : nat_lt (e.b + 1) ranks.k1 ≡ true = lt-ltb (e.b + 1) ranks.k1 lt in
        rw more (append-nil (drop (e.b + 1) (cells_of_word ranks.k1 ranks.words1 (word0 ranks e.a)))))
    | inr le ↦
        (let more : nat_lt (e.b + 1) ranks.k1 ≡ false = le-ltb (e.b + 1) ranks.k1 le in
        rw more (sym (drop_all (cells_of_word ranks.k1 ranks.words1 (word0 ranks e.a)) (e.b + 1) (omega (arith, length-row e.a, le)))))
  ]

  -- after the next of the row took the place of the first
  left_advanced : (e : Entry) (es fs : List Entry) (o : ℕ) → IsPermutation (next_in_row ranks e ++ es) fs → IsPermutation (cells_after e es o) (cells_left ranks fs o)
  unfolding cells_after
  left_advanced e es fs o moved =
      let rows : List Pair = cells_of_words ranks.k1 ranks.words1 (drop o ranks.words0) in
      let parts : flat_map (rest_of_row ranks) (next_in_row ranks e ++ es) ≡ drop (e.b + 1) (cells_of_word ranks.k1 ranks.words1 (word0 ranks e.a)) ++ flat_map (rest_of_row ranks) es
      = flat_map-append (rest_of_row ranks) (next_in_row ranks e) es ∙ ap (λ w. w ++ flat_map (rest_of_row ranks) es) (next_is e) in
      let whole : IsPermutation (drop (e.b + 1) (cells_of_word ranks.k1 ranks.words1 (word0 ranks e.a)) ++ flat_map (rest_of_row ranks) es) (flat_map (rest_of_row ranks) fs)
      = subst (λ (w : List Pair). IsPermutation w (flat_map (rest_of_row ranks) fs)) parts (flat_map-permutation (rest_of_row ranks) (next_in_row ranks e ++ es) fs moved) in
      rw append_assoc at (IsPermutation-append_left rows _ _ whole)

  -- after one more row was opened
  left_opened : (es fs : List Entry) (o : ℕ) → o < ranks.k0 → IsPermutation (entry_of ranks o 0 ∷ es) fs → IsPermutation (cells_left ranks es o) (cells_left ranks fs (o + 1))
  left_opened es fs o lt moved =
      let rows : List Pair = cells_of_words ranks.k1 ranks.words1 (drop (o + 1) ranks.words0) in
      let opened : cells_of_words ranks.k1 ranks.words1 (drop o ranks.words0) ≡ cells_of_word ranks.k1 ranks.words1 (word0 ranks o) ++ rows
      = ap (cells_of_words ranks.k1 ranks.words1) (drop_next ranks.words0 o (0, 0) (omega (arith, filled.size0))) in
      let whole : IsPermutation ((cells_of_word ranks.k1 ranks.words1 (word0 ranks o) ++ flat_map (rest_of_row ranks) es) ++ rows) (flat_map (rest_of_row ranks) fs ++ rows)
      = IsPermutation-append_left rows _ _ (flat_map-permutation (rest_of_row ranks) (entry_of ranks o 0 ∷ es) fs moved) in
      let turned : IsPermutation (flat_map (rest_of_row ranks) es ++ (cells_of_word ranks.k1 ranks.words1 (word0 ranks o) ++ rows)) (flat_map (rest_of_row ranks) fs ++ rows)
      = IsPermutation-trans _ _ _ (front_moves (flat_map (rest_of_row ranks) es) (cells_of_word ranks.k1 ranks.words1 (word0 ranks o)) rows) (rw append_assoc at whole) in
      rw opened turned

contains-right : (es fs : List Entry) (x : Entry) → Contains fs x → Contains (es ++ fs) x
contains-right [] fs x h = h
contains-right (e ∷ es) fs x h =
    let rest : Contains (es ++ fs) x = contains-right es fs x h in
    (suc rest.0, omega (arith, rest.1), rest.2)

-- another entry than the first is among the others
contains-others : (e : Entry) (es : List Entry) (x : Entry) → x.b ≢ e.b → Contains (e ∷ es) x → Contains es x
contains-others e es x ne h = others h.0 h.1 h.2
  where
    others : (k : ℕ) → k < length (e ∷ es) → get_or (e ∷ es) k x ≡ x → Contains es x
    others zero lt is = absurd (ne (sym (ap (λ (y : Entry). y.b) is)))
    others (suc k) lt is = (k, omega arith, is)

module _ (ranks : Ranked) where
  next_entries : (e : Entry) (o : ℕ) → IsEntry ranks o e → All (IsEntry ranks o) (next_in_row ranks e) × (length (next_in_row ranks e) ≤ 1)
  next_entries e o entry = elim (cases_lt (e.b + 1) ranks.k1) [
    | inl lt ↦
        (let more : nat_lt (e.b + 1) ranks.k1 ≡ true = lt-ltb (e.b + 1) ranks.k1 lt in
        rw more (All-cons (IsEntry ranks o) (entry_of ranks e.a (e.b + 1)) [] (record { row = entry.row; column = lt; is = refl }) (λ k d h. absurd (omega arith)), omega arith))
    | inr le ↦
        (let more : nat_lt (e.b + 1) ranks.k1 ≡ false = le-ltb (e.b + 1) ranks.k1 le in
        rw more ((λ k d h. absurd (omega arith)), omega arith))
  ]

  -- the next of its row in the place of the first
  pub waiting_advanced : (e : Entry) (es fs : List Entry) (o : ℕ) → AreWaiting ranks (e ∷ es) o → IsPermutation (next_in_row ranks e ++ es) fs → IsHeapUpTo NotAfter fs (length fs) → AreWaiting ranks fs o
  waiting_advanced e es fs o waiting moved heap =
      let next : All (IsEntry ranks o) (next_in_row ranks e) × (length (next_in_row ranks e) ≤ 1) = next_entries e o (waiting.each 0 e (omega arith)) in
      record {
        filled = waiting.filled;
        some = waiting.some;
        rows = waiting.rows;
        count = omega (arith, waiting.count, next.1, length_permutation _ _ moved, length-append (next_in_row ranks e) es);
        each = All-permutation (IsEntry ranks o) (next_in_row ranks e ++ es) fs moved (All-append (IsEntry ranks o) (next_in_row ranks e) es next.0 (λ k d lt. waiting.each (suc k) d (omega arith)));
        heap = heap;
      }

  -- one more row
  pub waiting_opened : (es fs : List Entry) (o : ℕ) → AreWaiting ranks es o → o < ranks.k0 → IsPermutation (entry_of ranks o 0 ∷ es) fs → IsHeapUpTo NotAfter fs (length fs) → AreWaiting ranks fs (o + 1)
  waiting_opened es fs o waiting lt moved heap = record {
    filled = waiting.filled;
    some = omega arith;
    rows = omega (arith, lt);
    count = omega (arith, waiting.count, length_permutation _ _ moved);
    each = All-permutation (IsEntry ranks (o + 1)) (entry_of ranks o 0 ∷ es) fs moved
        (All-cons (IsEntry ranks (o + 1)) (entry_of ranks o 0) es (record { row = omega arith; column = omega (arith, waiting.filled.some.1); is = refl })
        (λ k d h. record { row = omega (arith, (waiting.each k d h).row); column = (waiting.each k d h).column; is = (waiting.each k d h).is }));
    heap = heap;
  }

module _ (ranks : Ranked) (walk : Walking) (over : IsWalkOver ranks walk) where
  module _ (e : Entry) (es : List Entry) (is : walk.waiting ≡ e ∷ es) where
    first_is_place : drop walk.given (cells_of ranks) ≡ key_of e ∷ sorted pair_cmp (cells_after ranks over.entries.filled e es walk.opened)
    first_is_place = sym over.left ∙ ap (λ w. sorted pair_cmp (cells_left ranks w walk.opened)) is
        ∙ least_is_first ranks over.entries.filled e es walk.opened (subst (λ (w : List Entry). AreWaiting ranks w walk.opened) is over.entries)
        (λ lt. subst (λ (w : List Entry). Contains w (entry_of ranks (walk.opened - 1) 0)) is (over.last_row lt))

    -- the first waiting cell is the next of the order
    pub place_is : slice_get (cells_of ranks) walk.given ≡ Some (key_of e)
    place_is = at_place (cells_of ranks) _ walk.given (key_of e) first_is_place

    pub rest_from : drop walk.given (cells_of ranks) ≡ key_of e ∷ drop (walk.given + 1) (cells_of ranks)
    rest_from = first_is_place ∙ ap (λ w. key_of e ∷ w) (sym (after_place (cells_of ranks) _ walk.given (key_of e) first_is_place))

    pub given_below : walk.given < ranks.k0 * ranks.k1
    given_below = omega (arith, place_within (cells_of ranks) _ walk.given (key_of e) first_is_place, length-cells_of ranks over.entries.filled)

    left_after : (fs : List Entry) → IsPermutation (next_in_row ranks e ++ es) fs → sorted pair_cmp (cells_left ranks fs walk.opened) ≡ drop (walk.given + 1) (cells_of ranks)
    left_after fs moved = sorted-permutation pair_cmp pair_total pair_exact _ _ (left_advanced ranks over.entries.filled e es fs walk.opened moved)
        ∙ sym (after_place (cells_of ranks) _ walk.given (key_of e) first_is_place)

    pub over_advanced : (fs : List Entry) → IsPermutation (next_in_row ranks e ++ es) fs → AreWaiting ranks fs walk.opened → (walk.opened < ranks.k0 → e.b ≢ 0) → IsWalkOver ranks (record { waiting = fs; opened = walk.opened; given = walk.given + 1 })
    over_advanced fs moved waiting not_first = record {
      entries = waiting;
      last_row = λ lt. Contains-permutation (next_in_row ranks e ++ es) fs (entry_of ranks (walk.opened - 1) 0) moved
          (contains-right (next_in_row ranks e) es (entry_of ranks (walk.opened - 1) 0)
          (contains-others e es (entry_of ranks (walk.opened - 1) 0) (λ h. not_first lt (sym h)) (subst (λ (w : List Entry). Contains w (entry_of ranks (walk.opened - 1) 0)) is (over.last_row lt))));
      left = left_after fs moved;
      count = omega (arith, given_below);
    }

    pub over_opened : (fs gs : List Entry) → IsPermutation (next_in_row ranks e ++ es) fs → walk.opened < ranks.k0 → IsPermutation (entry_of ranks walk.opened 0 ∷ fs) gs → AreWaiting ranks gs (walk.opened + 1) → IsWalkOver ranks (record { waiting = gs; opened = walk.opened + 1; given = walk.given + 1 })
    over_opened fs gs moved lt opened waiting = record {
      entries = waiting;
      last_row = λ more.
          let same : (walk.opened + 1) - 1 ≡ walk.opened = omega arith in
          rw same (Contains-permutation (entry_of ranks walk.opened 0 ∷ fs) gs (entry_of ranks walk.opened 0) opened (0, omega arith, refl));
      left = sorted-permutation pair_cmp pair_total pair_exact _ _ (left_opened ranks over.entries.filled fs gs walk.opened lt opened) ∙ left_after fs moved;
      count = omega (arith, given_below);
    }

    -- the same for what the steps leave
    pub over_advanced_by : (after : Walking) → IsPermutation (next_in_row ranks e ++ es) after.waiting → AreWaiting ranks after.waiting after.opened → after.opened ≡ walk.opened → after.given ≡ walk.given → (after.opened < ranks.k0 → e.b ≢ 0) → IsWalkOver ranks (record after { given = after.given + 1 })
    over_advanced_by after moved waiting same_rows same_given not_first =
        subst (λ (o : ℕ). IsWalkOver ranks (record { waiting = after.waiting; opened = o; given = after.given + 1 })) (sym same_rows)
        (subst (λ (c : ℕ). IsWalkOver ranks (record { waiting = after.waiting; opened = walk.opened; given = c + 1 })) (sym same_given)
        (over_advanced after.waiting moved (subst (λ (o : ℕ). AreWaiting ranks after.waiting o) same_rows waiting) (λ lt. not_first (omega (arith, same_rows)))))

    pub over_opened_by : (between after : Walking) → IsPermutation (next_in_row ranks e ++ es) between.waiting → between.opened ≡ walk.opened → between.given ≡ walk.given → between.opened < ranks.k0
        → IsPermutation (entry_of ranks between.opened 0 ∷ between.waiting) after.waiting → AreWaiting ranks after.waiting after.opened → after.opened ≡ between.opened + 1 → after.given ≡ between.given → IsWalkOver ranks (record after { given = after.given + 1 })
    over_opened_by between after moved same_rows same_given lt opened waiting one_more same_after =
        let rows : after.opened ≡ walk.opened + 1 = omega arith in
        let given : after.given ≡ walk.given = omega arith in
        subst (λ (o : ℕ). IsWalkOver ranks (record { waiting = after.waiting; opened = o; given = after.given + 1 })) (sym rows)
        (subst (λ (c : ℕ). IsWalkOver ranks (record { waiting = after.waiting; opened = walk.opened + 1; given = c + 1 })) (sym given)
        (over_opened between.waiting after.waiting moved (omega (arith, same_rows)) (subst (λ (o : ℕ). IsPermutation (entry_of ranks o 0 ∷ between.waiting) after.waiting) same_rows opened) (subst (λ (o : ℕ). AreWaiting ranks after.waiting o) rows waiting)))

  -- where no cell waits, all were given
  pub no_rest : walk.waiting ≡ [] → drop walk.given (cells_of ranks) ≡ []
  unfolding sorted
  no_rest none =
      let all_rows : ranks.k0 ≤ walk.opened = elim (cases_lt walk.opened ranks.k0) [
        | inl lt ↦ (let found : Contains [] (entry_of ranks (walk.opened - 1) 0) = subst (λ (w : List Entry). Contains w (entry_of ranks (walk.opened - 1) 0)) none (over.last_row lt) in absurd (omega (arith, found.1)))
        | inr le ↦ le
      ] in
      let nothing : cells_left ranks walk.waiting walk.opened ≡ [] = (λ t. cells_left ranks (none t) walk.opened) ∙ ap (cells_of_words ranks.k1 ranks.words1) (drop_all ranks.words0 walk.opened (omega (arith, all_rows, over.entries.filled.size0))) in
      sym over.left ∙ ap (sorted pair_cmp) nothing ∙ refl

  pub none_is_left : walk.waiting ≡ [] → walk.given ≡ ranks.k0 * ranks.k1
  none_is_left none = omega (arith, none_after (cells_of ranks) walk.given (no_rest none), length-cells_of ranks over.entries.filled, over.count)

-- a walk begins at the first row
pub over_started : (ranks : Ranked) → IsFilled ranks → IsWalkOver ranks (record { waiting = entry_of ranks 0 0 ∷ []; opened = 1; given = 0 })
unfolding cells_of
over_started ranks filled = record {
  entries = record {
    filled = filled;
    some = omega arith;
    rows = omega (arith, filled.some.0);
    count = omega arith;
    each = All-cons (IsEntry ranks 1) (entry_of ranks 0 0) [] (record { row = omega arith; column = omega (arith, filled.some.1); is = refl }) (λ k d h. absurd (omega arith));
    heap = λ p c d low high lt. absurd (omega arith);
  };
  last_row = λ lt. (0, omega arith, refl);
  left = ap (sorted pair_cmp)
      (ap (λ w. w ++ cells_of_words ranks.k1 ranks.words1 (drop 1 ranks.words0)) (append-nil (cells_of_word ranks.k1 ranks.words1 (word0 ranks 0)))
      ∙ sym (ap (cells_of_words ranks.k1 ranks.words1) (drop_next ranks.words0 0 (0, 0) (omega (arith, filled.size0, filled.some.0)))));
  count = omega arith;
}
