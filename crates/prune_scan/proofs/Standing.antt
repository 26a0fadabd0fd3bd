-- How the parts of a scan go on with one row.
use Rattle.std.proofs.Common.{◌≡◌, ℕ, ◌+◌, ◌-◌, ◌*◌, ◌/◌, ◌<◌, ◌≤◌, true, false, List, [], ◌∷◌, ◌++◌, length, take, drop, min, refl, sym, ap, ap₂, subst, ◌∙◌, arith, length-append, nat_le, inl, inr, eq-zero-or-pos}
use Rattle.std.specs.List.{AllByRecursion}
use Rattle.std.proofs.lemmas.Bool.{le-leb, lt-leb, leb-true, leb-false}
use Rattle.std.proofs.lemmas.List.{length-map, map_push, take-append-le, take-append-drop, length-take, length-take-le, take_all}
use Rattle.book_model.specs.Book.{Book}
use Rattle.book_model.specs.Rows.{Row}
use Rattle.book_model.specs.Order.{Pair, sorted, pair_cmp, kth_least}
use Rattle.book_model.specs.Bound.{Tables, base_sum, bound, threshold, tables as tables_for}
use Rattle.book_model.specs.Answer.{table_distance, pairs_of, is_full}
use Rattle.book_model.proofs.Best.{length-sorted, kth_falls}
use Rattle.shape_core.specs.Word.{IsCode, code_of_words}
use Rattle.lane_kernels.specs.Sums.{code_sum}
use Rattle.best_k.specs.Least.{Kept, least}
use Rattle.adc_tables.specs.Full.{Full, IsFilledFor}
use Rattle.adc_tables.specs.Small.{Small, small_of}
use Rattle.adc_tables.proofs.Codes.{tables_of, base_le, count_of, far_code}
use Rattle.adc_tables.proofs.Smalls.{bound_is}
use Rattle.prune_scan.specs.declared.state.ScanState.{ScanState}
use Rattle.prune_scan.specs.Standing.{Stands}
use Rattle.prune_scan.proofs.Pairs.{least_stays, kth_above}
use Rattle.prune_scan.proofs.Fullness.{full_kept, full_far}

module _ (book : Book) (v : List ℕ) where
  pairs_push : (rows : List Row) (row : Row) → pairs_of book v (rows ++ row ∷ []) ≡ pairs_of book v rows ++ (table_distance book v row.code, row.id) ∷ []
  pairs_push rows row = map_push (λ (r : Row). (table_distance book v r.code, r.id)) rows row

  length-pairs : (rows : List Row) → length (pairs_of book v rows) ≡ length rows
  length-pairs rows = length-map rows (λ (r : Row). (table_distance book v r.code, r.id))

  pairs_append : (rows more : List Row) → pairs_of book v (rows ++ more) ≡ pairs_of book v rows ++ pairs_of book v more
  pairs_append [] more = refl
  pairs_append (row ∷ rows) more = ap (λ ps. (table_distance book v row.code, row.id) ∷ ps) (pairs_append rows more)

length-push : (rows : List Row) (row : Row) → length (rows ++ row ∷ []) ≡ length rows + 1
length-push rows row = length-append rows (row ∷ [])

length-least : (k : ℕ) (pairs : List Pair) → length (least k pairs) ≤ length pairs
unfolding least
length-least k pairs = omega (arith, length-take k (sorted pair_cmp pairs), length-sorted pair_cmp pairs)

all_push : {X : Type 0} (P : X → Type 0) (xs : List X) (x : X) → AllByRecursion P xs → P x → AllByRecursion P (xs ++ x ∷ [])
all_push P [] x all is = (is, tt)
all_push P (y ∷ xs) x all is = (all.0, all_push P xs x all.1 is)

all_above : (widths : List ℕ) (tables : Full) (book : Book) (query : List ℕ) → IsFilledFor widths book query tables → (rows : List Row) → AllByRecursion (λ (row : Row). IsCode widths tables.g row.code) rows
    → AllByRecursion (λ (p : Pair). base_sum tables.tables ≤ p.0) (pairs_of book query rows)
all_above widths tables book query is [] codes = tt
all_above widths tables book query is (row ∷ rows) codes = (base_le widths book query tables is row.code codes.0, all_above widths tables book query is rows codes.1)

module _ (widths : List ℕ) (tables : Full) (book : Book) (query : List ℕ) (seen : List Row) (state : ScanState) (small : Small) (best : Kept) (s : Stands widths tables book query seen state small best) where
  -- where k pairs are held, k rows were seen
  pub k_seen : best.k ≤ length best.pairs → best.k ≤ length seen
  k_seen le = omega (arith, le, ap length s.held, length-least best.k (pairs_of book query seen), length-pairs book query seen)

  pub when_pruning : state.pruning ≡ true → best.k ≤ length seen
  when_pruning is = leb-true best.k (length seen) (sym s.pruning ∙ is)

  pub when_open : state.pruning ≡ false → length seen < best.k
  when_open is = leb-false best.k (length seen) (sym s.pruning ∙ is)

  -- the k-th least distance lies between the base and that of the first k
  pub theta_above : best.k ≤ length seen → small.base ≤ kth_least best.k (pairs_of book query seen)
  unfolding small_of
  theta_above le =
      let base : small.base ≡ base_sum tables.tables = ap (λ (m : Small). m.base) (s.made le) in
      omega (arith, base, kth_above (base_sum tables.tables) best.k (pairs_of book query seen) s.some (omega (arith, le, length-pairs book query seen)) (all_above widths tables book query s.filled seen s.codes))

  pub theta_below : best.k ≤ length seen → kth_least best.k (pairs_of book query seen) ≤ small.theta0
  unfolding small_of
  theta_below le =
      let made : small.theta0 ≡ state.theta0 = ap (λ (m : Small). m.theta0) (s.made le) in
      let parts : pairs_of book query seen ≡ pairs_of book query (take best.k seen) ++ pairs_of book query (drop best.k seen) =
      ap (pairs_of book query) (sym (take-append-drop best.k seen)) ∙ pairs_append book query (take best.k seen) (drop best.k seen) in
      let falls = kth_falls best.k (pairs_of book query (take best.k seen)) (pairs_of book query (drop best.k seen)) s.some (omega (arith, length-pairs book query (take best.k seen), length-take-le best.k seen le)) in
      omega (arith, made, s.theta0 le, falls, ap (kth_least best.k) parts)

  -- one more row, which is offered or above the k least
  pub one_more : (row : Row) (state' : ScanState) (small' : Small) (best' : Kept) → IsCode widths tables.g row.code → best'.k ≡ best.k
      → best'.pairs ≡ least best.k (pairs_of book query seen ++ (table_distance book query row.code, row.id) ∷ [])
      → state'.rows ≡ state.rows + 1 → state'.pruning ≡ nat_le best.k (length seen + 1)
      → (best.k ≤ length seen + 1 → state'.theta0 ≡ kth_least best.k (pairs_of book query (take best.k (seen ++ row ∷ []))))
      → (best.k ≤ length seen + 1 → small' ≡ small_of widths tables state'.theta0)
      → Stands widths tables book query (seen ++ row ∷ []) state' small' best'
  one_more row state' small' best' code k held rows pruning theta0 made =
      let many = length-push seen row in
      record {
        filled = s.filled;
        codes = all_push (λ (r : Row). IsCode widths tables.g r.code) seen row s.codes code;
        some = omega (arith, s.some, k);
        rows = omega (arith, rows, s.rows, many);
        pruning = pruning ∙ ap₂ nat_le (sym k) (sym many);
        theta0 = λ le. theta0 (omega (arith, le, k, many)) ∙ ap (λ n. kth_least n (pairs_of book query (take n (seen ++ row ∷ [])))) (sym k);
        made = λ le. made (omega (arith, le, k, many));
        held = held ∙ ap₂ least (sym k) (sym (pairs_push book query seen row));
      }

  -- the first k stay once they are seen
  pub first_stay : (row : Row) → best.k ≤ length seen → take best.k (seen ++ row ∷ []) ≡ take best.k seen
  first_stay row le = take-append-le best.k seen (row ∷ []) le

  module _ (row : Row) (code : IsCode widths tables.g row.code) (le : best.k ≤ length seen) where
    -- what the guard's numbers are
    most_is : (theta most : ℕ) → theta ≡ kth_least best.k (pairs_of book query seen) → most ≡ (theta - small.base) / small.size
        → most ≡ threshold (tables_for book query) (kth_least best.k (pairs_of book query (take best.k seen))) (kth_least best.k (pairs_of book query seen))
    unfolding threshold small_of
    most_is theta most theta_is is =
        is ∙ (λ t. (theta_is t - (s.made le t).base) / (s.made le t).size)
        ∙ (λ t. threshold (tables_of widths book query tables s.filled t) (s.theta0 le t) (kth_least best.k (pairs_of book query seen)))

    bound_of : (words : List ℕ) (b : ℕ) → length words ≡ tables.g → row.code ≡ code_of_words widths words → b ≡ min 255 (code_sum widths small.parts words)
        → b ≡ bound (tables_for book query) (kth_least best.k (pairs_of book query (take best.k seen))) row.code
    bound_of words b size is_code is =
        is ∙ (λ t. min 255 (code_sum widths (s.made le t).parts words))
        ∙ bound_is widths tables state.theta0 words (count_of widths book query tables s.filled ∙ ap (λ n. n * length widths) (sym size))
        ∙ (λ t. bound (tables_of widths book query tables s.filled t) (s.theta0 le t) (sym is_code t))

    -- a row whose bound is not above the threshold is full, and another is not
    pub kept_is_full : (words : List ℕ) (theta most b : ℕ) → length words ≡ tables.g → row.code ≡ code_of_words widths words → theta ≡ kth_least best.k (pairs_of book query seen)
        → most ≡ (theta - small.base) / small.size → b ≡ min 255 (code_sum widths small.parts words) → b ≤ most → is_full book query best.k seen row ≡ true
    kept_is_full words theta most b size is_code theta_is most_is' bound_is' below =
        full_kept book query best.k seen row (omega (arith, below, most_is theta most theta_is most_is', bound_of words b size is_code bound_is'))

    pub far_is_not_full : (words : List ℕ) (theta most b : ℕ) → length words ≡ tables.g → row.code ≡ code_of_words widths words → theta ≡ kth_least best.k (pairs_of book query seen)
        → most ≡ (theta - small.base) / small.size → b ≡ min 255 (code_sum widths small.parts words) → most < b → is_full book query best.k seen row ≡ false
    far_is_not_full words theta most b size is_code theta_is most_is' bound_is' above =
        full_far book query best.k seen row le (omega (arith, above, most_is theta most theta_is most_is', bound_of words b size is_code bound_is'))

    -- and then the k least stay
    pub far_stands : (state' : ScanState) (words : List ℕ) (theta most b : ℕ) → state'.rows ≡ state.rows + 1 → state'.pruning ≡ state.pruning → state'.theta0 ≡ state.theta0
        → length words ≡ tables.g → row.code ≡ code_of_words widths words → theta ≡ kth_least best.k (pairs_of book query seen)
        → most ≡ (theta - small.base) / small.size → b ≡ min 255 (code_sum widths small.parts words) → most < b → Stands widths tables book query (seen ++ row ∷ []) state' small best
    far_stands state' words theta most b rows pruning theta0 size is_code theta_is most_is' bound_is' above =
        let kth0 = kth_least best.k (pairs_of book query (take best.k seen)) in
        let kth = kth_least best.k (pairs_of book query seen) in
        let over : threshold (tables_for book query) kth0 kth < bound (tables_for book query) kth0 row.code = omega (arith, above, most_is theta most theta_is most_is', bound_of words b size is_code bound_is') in
        let far = far_code widths book query tables s.filled row.code code kth0 kth (subst (λ (ts : Tables). threshold ts kth0 kth < bound ts kth0 row.code) (sym (tables_of widths book query tables s.filled)) over) in
        one_more row state' small best code refl
        (s.held ∙ sym (least_stays best.k (pairs_of book query seen) (table_distance book query row.code, row.id) s.some (omega (arith, le, length-pairs book query seen)) far))
        rows (pruning ∙ s.pruning ∙ le-leb best.k (length seen) le ∙ sym (le-leb best.k (length seen + 1) (omega (arith, le))))
        (λ _. theta0 ∙ s.theta0 le ∙ ap (λ rows. kth_least best.k (pairs_of book query rows)) (sym (first_stay row le)))
        (λ _. s.made le ∙ ap (small_of widths tables) (sym theta0))

  -- as many pairs are held as rows were seen, up to k
  pub k_held : best.k ≤ length seen → best.k ≤ length best.pairs
  unfolding least
  k_held le = omega (arith, le, ap length s.held, length-take best.k (sorted pair_cmp (pairs_of book query seen)), length-sorted pair_cmp (pairs_of book query seen), length-pairs book query seen)

  -- a row that was offered
  module _ (row : Row) (code : IsCode widths tables.g row.code) (best' : Kept) (k : best'.k ≡ best.k) (held : best'.pairs ≡ least best.k (pairs_of book query seen ++ (table_distance book query row.code, row.id) ∷ [])) where
    pub held_now : best'.pairs ≡ least best.k (pairs_of book query (seen ++ row ∷ []))
    held_now = held ∙ ap (least best.k) (sym (pairs_push book query seen row))

    pub k_reached : best'.k ≤ length best'.pairs → best.k ≤ length seen + 1
    k_reached le = omega (arith, le, k, ap length held_now, length-least best.k (pairs_of book query (seen ++ row ∷ [])), length-pairs book query (seen ++ row ∷ []), length-push seen row)

    pub k_not_reached : length best'.pairs < best'.k → length seen + 1 < best.k
    unfolding least
    k_not_reached lt = omega (arith, lt, k, ap length held_now, length-take best.k (sorted pair_cmp (pairs_of book query (seen ++ row ∷ []))), length-sorted pair_cmp (pairs_of book query (seen ++ row ∷ [])), length-pairs book query (seen ++ row ∷ []), length-push seen row)

    -- the k-th least distance with it is not below the base
    pub reached_above : best.k ≤ length seen + 1 → base_sum tables.tables ≤ kth_least best.k (pairs_of book query (seen ++ row ∷ []))
    reached_above le =
        kth_above (base_sum tables.tables) best.k (pairs_of book query (seen ++ row ∷ [])) s.some (omega (arith, le, length-pairs book query (seen ++ row ∷ []), length-push seen row))
        (all_above widths tables book query s.filled (seen ++ row ∷ []) (all_push (λ (r : Row). IsCode widths tables.g r.code) seen row s.codes code))

    -- before k rows
    pub still_open : (state' : ScanState) (small' : Small) → state'.rows ≡ state.rows + 1 → state'.pruning ≡ false → length seen + 1 < best.k → Stands widths tables book query (seen ++ row ∷ []) state' small' best'
    still_open state' small' rows pruning lt =
        one_more row state' small' best' code k held rows (pruning ∙ sym (lt-leb best.k (length seen + 1) lt)) (λ le. absurd (omega (arith, le, lt))) (λ le. absurd (omega (arith, le, lt)))

    -- with the k-th row
    pub begins : (state' : ScanState) (small' : Small) → state'.rows ≡ state.rows + 1 → state'.pruning ≡ true → length seen < best.k → best.k ≤ length seen + 1
        → state'.theta0 ≡ kth_least best.k (pairs_of book query (seen ++ row ∷ [])) → small' ≡ small_of widths tables state'.theta0 → Stands widths tables book query (seen ++ row ∷ []) state' small' best'
    begins state' small' rows pruning lt le theta0 made =
        one_more row state' small' best' code k held rows (pruning ∙ sym (le-leb best.k (length seen + 1) le))
        (λ _. theta0 ∙ ap (λ rs. kth_least best.k (pairs_of book query rs)) (sym (take_all best.k (seen ++ row ∷ []) (omega (arith, lt, length-push seen row)))))
        (λ _. made)

    -- after k rows
    pub goes_on : (state' : ScanState) → state'.rows ≡ state.rows + 1 → state'.pruning ≡ true → state'.theta0 ≡ state.theta0 → best.k ≤ length seen → Stands widths tables book query (seen ++ row ∷ []) state' small best'
    goes_on state' rows pruning theta0 le =
        one_more row state' small best' code k held rows (pruning ∙ sym (le-leb best.k (length seen + 1) (omega (arith, le))))
        (λ _. theta0 ∙ s.theta0 le ∙ ap (λ rs. kth_least best.k (pairs_of book query rs)) (sym (first_stay row le)))
        (λ _. s.made le ∙ ap (small_of widths tables) (sym theta0))

-- where a list is not too short, it is long enough
pub held_enough : (n k : ℕ) → (n < k → true ≡ false) → k ≤ n
held_enough n k never = elim (eq-zero-or-pos (k - n)) [
  | inl le ↦ omega (arith, le)
  | inr lt ↦ let broken : true ≡ false = never (omega (arith, lt)) in cc
]

-- before the first row of a query
pub stands_fresh : (widths : List ℕ) (tables : Full) (book : Book) (query : List ℕ) (state : ScanState) (small : Small) (best : Kept) → IsFilledFor widths book query tables → 1 ≤ best.k → best.pairs ≡ [] → state.rows ≡ 0 → state.pruning ≡ false → Stands widths tables book query [] state small best
unfolding least sorted
stands_fresh widths tables book query state small best filled some held rows pruning =
    let empty : List Pair = [] in
    let none : take best.k empty ≡ empty = take_all best.k empty (omega arith) in
    record {
      filled = filled;
      codes = tt;
      some = some;
      rows = rows;
      pruning = pruning ∙ sym (lt-leb best.k 0 some);
      theta0 = λ le. absurd (omega (arith, le, some));
      made = λ le. absurd (omega (arith, le, some));
      held = held ∙ sym none;
    }
