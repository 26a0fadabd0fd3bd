-- The groups of rows by rising cell, and how many there are.
use Rattle.std.proofs.Common.{◌≡◌, ℕ, zero, suc, ◌+◌, ◌≤◌, ◌<◌, Bool, true, false, cond, List, [], ◌∷◌, ◌++◌, length, map, filter, ◌==◌, refl, sym, ap, subst, ◌∙◌, arith, inl, inr, append_assoc}
use Rattle.std.specs.List.{flat_map, range_with_len, list_any, AllByRecursion}
use Rattle.std.specs.Prelude.{⊤, nat_lt, ◌||◌}
use Rattle.std.proofs.lemmas.Bool.{cases_Bool, cases_eq, ne_eqb, eqb-true, eq-eqb, cases_lt, lt-ltb, le-ltb}
use Rattle.std.proofs.lemmas.List.{append-nil, length-append}
use Rattle.std.proofs.lemmas.List.Concat.{flat_map-cons}
use Rattle.std.proofs.lemmas.Grind.{flat_map-append}
use Rattle.book_model.specs.Sums.{sum_below, numbers_below}
use Rattle.book_model.specs.Book.{Book}
use Rattle.book_model.specs.Rows.{Row, rows_in}
use Rattle.codebook_core.specs.Spelling.{book_bytes}
use Rattle.cell_store.specs.State.{Kept, Store, lives_at, live_rows, kept_in, used_count}
use Rattle.index_file.specs.Spelling.{by_cell, Group, joined, groups_of, group_bytes, index_bytes}
use Rattle.index_file.specs.Grouped.{living, group_at, cells_text, index_text}

pub yes : {X : Type 0} (p : X → Bool) (x : X) (xs : List X) → p x ≡ true → filter p (x ∷ xs) ≡ x ∷ filter p xs
yes p x xs h = ap (λ b. cond b (x ∷ filter p xs) (filter p xs)) h

pub no : {X : Type 0} (p : X → Bool) (x : X) (xs : List X) → p x ≡ false → filter p (x ∷ xs) ≡ filter p xs
no p x xs h = ap (λ b. cond b (x ∷ filter p xs) (filter p xs)) h

-- the living rows of a cell are the rows of the cell among those that live
pub living_in : (stamp cell : ℕ) (kept : List Kept) → living stamp (kept_in cell kept) ≡ rows_in cell (living stamp kept)
living_in stamp cell [] = refl
living_in stamp cell (k ∷ ks) =
    let here = λ (x : Kept). x.row.cell == cell in
    let live = lives_at stamp in
    let rows = λ (xs : List Kept). map (λ (x : Kept). x.row) (filter live xs) in
    elim (cases_Bool (k.row.cell == cell)) [
      | inl in_cell ↦
          ap rows (yes here k ks in_cell) ∙ elim (cases_Bool (lives_at stamp k)) [
            | inl lives ↦
                ap (map (λ (x : Kept). x.row)) (yes live k (kept_in cell ks) lives) ∙ ap (λ (w : List Row). k.row ∷ w) (living_in stamp cell ks)
                ∙ sym (ap (rows_in cell) (ap (map (λ (x : Kept). x.row)) (yes live k ks lives)) ∙ yes (λ (r : Row). r.cell == cell) k.row (living stamp ks) in_cell)
            | inr dead ↦
                ap (map (λ (x : Kept). x.row)) (no live k (kept_in cell ks) dead) ∙ living_in stamp cell ks
                ∙ sym (ap (rows_in cell) (ap (map (λ (x : Kept). x.row)) (no live k ks dead)))
          ]
      | inr other ↦
          ap rows (no here k ks other) ∙ living_in stamp cell ks ∙ elim (cases_Bool (lives_at stamp k)) [
            | inl lives ↦ sym (ap (rows_in cell) (ap (map (λ (x : Kept). x.row)) (yes live k ks lives)) ∙ no (λ (r : Row). r.cell == cell) k.row (living stamp ks) other)
            | inr dead ↦ sym (ap (rows_in cell) (ap (map (λ (x : Kept). x.row)) (no live k ks dead)))
          ]
    ]

-- all of one cell
abbrev pub AllIn : ℕ → List Row → Type 0
AllIn cell rows = AllByRecursion (λ r. r.cell ≡ cell) rows

pub all_in : (cell : ℕ) (rows : List Row) → AllIn cell (rows_in cell rows)
all_in cell [] = tt
all_in cell (r ∷ rs) = elim (cases_Bool (r.cell == cell)) [
  | inl is ↦ subst (λ (l : List Row). AllIn cell l) (sym (yes (λ (x : Row). x.cell == cell) r rs is)) (eqb-true r.cell cell is, all_in cell rs)
  | inr other ↦ subst (λ (l : List Row). AllIn cell l) (sym (no (λ (x : Row). x.cell == cell) r rs other)) (all_in cell rs)
]

-- the first group is of no lower cell
abbrev pub FirstFrom : ℕ → List Group → Type 0
FirstFrom cell [] = ⊤
FirstFrom cell (group ∷ groups) = cell ≤ group.0

abbrev groups_from : (ℕ → List Row) → ℕ → ℕ → List Group
groups_from rows a n = flat_map (λ cell. group_at cell (rows cell)) (range_with_len a n)

first_of_cell : (low cell : ℕ) (rows : List Row) (groups : List Group) → low ≤ cell → FirstFrom low groups → FirstFrom low (group_at cell rows ++ groups)
first_of_cell low cell [] groups le first = first
first_of_cell low cell (r ∷ rs) groups le first = le

first_from : (rows : ℕ → List Row) (n low a : ℕ) → low ≤ a → FirstFrom low (groups_from rows a n)
first_from rows zero low a le = tt
first_from rows (suc n) low a le =
    subst (λ (l : List Group). FirstFrom low l) (sym (flat_map-cons (λ cell. group_at cell (rows cell)) a (range_with_len (a + 1) n)))
    (first_of_cell low a (rows a) (groups_from rows (a + 1) n) le (first_from rows n low (a + 1) (omega arith)))

-- a row before the group of its cell joins it
joins : (cell : ℕ) (row : Row) (rows : List Row) (groups : List Group) → row.cell ≡ cell → joined row ((cell, rows) ∷ groups) ≡ (cell, row ∷ rows) ∷ groups
joins cell row rows groups is = ap (λ (b : Bool). cond b ((cell, row ∷ rows) ∷ groups) ((row.cell, row ∷ []) ∷ (cell, rows) ∷ groups)) (eq-eqb row.cell cell is)

-- one before those of higher cells begins a group
begins : (cell : ℕ) (row : Row) (groups : List Group) → row.cell ≡ cell → FirstFrom (cell + 1) groups → joined row groups ≡ (cell, row ∷ []) ∷ groups
begins cell row [] is first = ap (λ (c : ℕ). one c) is
  where
    one : ℕ → List Group
    one c = (c, row ∷ []) ∷ []
begins cell row (group ∷ groups) is first =
    ap (λ (b : Bool). cond b ((group.0, row ∷ group.1) ∷ groups) ((row.cell, row ∷ []) ∷ group ∷ groups)) (ne_eqb row.cell group.0 (λ e. omega (arith, is, first, e)))
    ∙ ap (λ (c : ℕ). one c) is
  where
    one : ℕ → List Group
    one c = (c, row ∷ []) ∷ group ∷ groups

pub run_joins : (cell : ℕ) (rows : List Row) (others : List Row) (groups : List Group) → groups_of others ≡ groups → FirstFrom (cell + 1) groups → AllIn cell rows → groups_of (rows ++ others) ≡ group_at cell rows ++ groups
run_joins cell [] others groups is first all = is
run_joins cell (r ∷ []) others groups is first all = ap (joined r) is ∙ begins cell r groups all.0 first
run_joins cell (r ∷ s ∷ rs) others groups is first all = ap (joined r) (run_joins cell (s ∷ rs) others groups is first all.1) ∙ joins cell r (s ∷ rs) groups all.0

module _ (rows : List Row) where
  groups_are : (n a : ℕ) → groups_of (flat_map (λ cell. rows_in cell rows) (range_with_len a n)) ≡ groups_from (λ cell. rows_in cell rows) a n
  groups_are zero a = refl
  groups_are (suc n) a =
      ap groups_of (flat_map-cons (λ cell. rows_in cell rows) a (range_with_len (a + 1) n))
      ∙ run_joins a (rows_in a rows) (flat_map (λ cell. rows_in cell rows) (range_with_len (a + 1) n)) (groups_from (λ cell. rows_in cell rows) (a + 1) n)
      (groups_are n (a + 1)) (first_from (λ cell. rows_in cell rows) n (a + 1) (a + 1) (omega arith)) (all_in a rows)
      ∙ sym (flat_map-cons (λ cell. group_at cell (rows_in cell rows)) a (range_with_len (a + 1) n))

  pub groups_by_cell : (n : ℕ) → groups_of (by_cell n rows) ≡ groups_from (λ cell. rows_in cell rows) 0 n
  groups_by_cell n = groups_are n 0

flat_map-flat_map : {X Y Z : Type 0} (f : Y → List Z) (g : X → List Y) (xs : List X) → flat_map f (flat_map g xs) ≡ flat_map (λ x. flat_map f (g x)) xs
flat_map-flat_map f g [] = refl
flat_map-flat_map f g (x ∷ xs) =
    ap (flat_map f) (flat_map-cons g x xs) ∙ flat_map-append f (g x) (flat_map g xs) ∙ ap (λ w. flat_map f (g x) ++ w) (flat_map-flat_map f g xs) ∙ sym (flat_map-cons (λ x. flat_map f (g x)) x xs)

flat_map-same : {X Y : Type 0} (f g : X → List Y) (xs : List X) → ((x : X) → f x ≡ g x) → flat_map f xs ≡ flat_map g xs
flat_map-same f g [] same = refl
flat_map-same f g (x ∷ xs) same = flat_map-cons f x xs ∙ ap (λ w. w ++ flat_map f xs) (same x) ∙ ap (λ w. g x ++ w) (flat_map-same f g xs same) ∙ sym (flat_map-cons g x xs)

-- ---- how many

range_more : (n a : ℕ) → range_with_len a (suc n) ≡ range_with_len a n ++ (a + n) ∷ []
range_more zero a = ap (λ (k : ℕ). k ∷ []) (omega arith)
range_more (suc n) a = ap (λ (w : List ℕ). a ∷ w) (range_more n (a + 1) ∙ ap (λ (k : ℕ). range_with_len (a + 1) n ++ k ∷ []) (omega arith))

pub numbers_more : (n : ℕ) → numbers_below (suc n) ≡ numbers_below n ++ n ∷ []
numbers_more n = range_more n 0 ∙ ap (λ (k : ℕ). range_with_len 0 n ++ k ∷ []) (omega arith)

pub flat_map_below : {X : Type 0} (f : ℕ → List X) (n : ℕ) → flat_map f (numbers_below (suc n)) ≡ flat_map f (numbers_below n) ++ f n
flat_map_below f n = ap (flat_map f) (numbers_more n) ∙ flat_map-append f (numbers_below n) (n ∷ []) ∙ ap (λ w. flat_map f (numbers_below n) ++ w) (flat_map-cons f n [] ∙ append-nil (f n))

-- a group for a cell that has a living row
one_group : (stamp cell : ℕ) (kept : List Kept) → length (group_at cell (living stamp kept)) ≡ cond (list_any (lives_at stamp) kept) 1 0
one_group stamp cell [] = refl
one_group stamp cell (k ∷ ks) = elim (cases_Bool (lives_at stamp k)) [
  | inl lives ↦
      ap (λ (w : List Kept). length (group_at cell (map (λ (x : Kept). x.row) w))) (yes (lives_at stamp) k ks lives)
      ∙ sym (ap (λ (b : Bool). cond (b || list_any (lives_at stamp) ks) 1 0) lives)
  | inr dead ↦
      ap (λ (w : List Kept). length (group_at cell (map (λ (x : Kept). x.row) w))) (no (lives_at stamp) k ks dead) ∙ one_group stamp cell ks
      ∙ sym (ap (λ (b : Bool). cond (b || list_any (lives_at stamp) ks) 1 0) dead)
]

groups_count : (stamp : ℕ) (kept : List Kept) (n : ℕ) → length (groups_from (λ cell. living stamp (kept_in cell kept)) 0 n) ≡ sum_below n (λ cell. cond (list_any (lives_at stamp) (kept_in cell kept)) 1 0)
groups_count stamp kept zero = refl
groups_count stamp kept (suc n) =
    ap length (flat_map_below (λ cell. group_at cell (living stamp (kept_in cell kept))) n)
    ∙ omega (arith, length-append (groups_from (λ cell. living stamp (kept_in cell kept)) 0 n) (group_at n (living stamp (kept_in n kept))), groups_count stamp kept n, one_group stamp n (kept_in n kept))

abbrev bit : Bool → ℕ
bit true = 1
bit false = 0

-- one row more is one more in the cells up to its own
one_more : (row : Row) (rows : List Row) (n : ℕ) → length (by_cell n (row ∷ rows)) ≡ length (by_cell n rows) + bit (nat_lt row.cell n)
one_more row rows zero =
    let none : bit (nat_lt row.cell zero) ≡ 0 = ap bit (le-ltb row.cell zero (omega arith)) in
    omega (arith, none)
one_more row rows (suc n) =
    let before = one_more row rows n in
    let long = ap length (flat_map_below (λ cell. rows_in cell (row ∷ rows)) n) ∙ length-append (by_cell n (row ∷ rows)) (rows_in n (row ∷ rows)) in
    let was = ap length (flat_map_below (λ cell. rows_in cell rows) n) ∙ length-append (by_cell n rows) (rows_in n rows) in
    elim (cases_eq row.cell n) [
      | inl is ↦
          let here : length (rows_in n (row ∷ rows)) ≡ suc (length (rows_in n rows)) = ap length (yes (λ (r : Row). r.cell == n) row rows (eq-eqb row.cell n is)) in
          let none : bit (nat_lt row.cell n) ≡ 0 = ap bit (le-ltb row.cell n (omega arith)) in
          let some : bit (nat_lt row.cell (suc n)) ≡ 1 = ap bit (lt-ltb row.cell (suc n) (omega arith)) in
          omega (arith, before, long, was, here, none, some)
      | inr other ↦
          let here : length (rows_in n (row ∷ rows)) ≡ length (rows_in n rows) = ap length (no (λ (r : Row). r.cell == n) row rows (ne_eqb row.cell n other)) in
          let same : nat_lt row.cell (suc n) ≡ nat_lt row.cell n = elim (cases_lt row.cell n) [
            | inl lt ↦ lt-ltb row.cell (suc n) (omega arith) ∙ sym (lt-ltb row.cell n lt)
            | inr le ↦ le-ltb row.cell (suc n) (omega (arith, ne_lt other le)) ∙ sym (le-ltb row.cell n le)
          ] in
          let bits : bit (nat_lt row.cell (suc n)) ≡ bit (nat_lt row.cell n) = ap bit same in
          omega (arith, before, long, was, here, bits)
    ]
  where
    ne_lt : {a b : ℕ} → (a ≡ b → ⊥) → b ≤ a → b < a
    ne_lt {a} {b} ne le = elim (cases_lt b a) [ inl lt ↦ lt | inr ge ↦ absurd (ne (omega (arith, le, ge))) ]

nothing_by_cell : (n : ℕ) → length (by_cell n []) ≡ 0
nothing_by_cell zero = refl
nothing_by_cell (suc n) = omega (arith, ap length (flat_map_below (λ cell. rows_in cell []) n), length-append (by_cell n []) [], nothing_by_cell n)

-- each row is in one cell
pub by_cell_count : (n : ℕ) (rows : List Row) → AllByRecursion (λ row. row.cell < n) rows → length (by_cell n rows) ≡ length rows
by_cell_count n [] all = nothing_by_cell n
by_cell_count n (row ∷ rows) all =
    let one : bit (nat_lt row.cell n) ≡ 1 = ap bit (lt-ltb row.cell n all.0) in
    omega (arith, one_more row rows n, by_cell_count n rows all.1, one)

-- ---- the whole text

pub text_is : (book : Book) (store : Store) (text : List ℕ) → text ≡ book_bytes book → store.g ≡ book.g → AllByRecursion (λ row. row.cell < store.cells) (live_rows store)
    → index_text book.widths text store ≡ index_bytes book (by_cell store.cells (live_rows store))
unfolding index_bytes
text_is book store text is g all =
    let rows = live_rows store in
    let cells = store.cells in
    let count : length rows ≡ length (by_cell cells rows) = sym (by_cell_count cells rows all) in
    let same : (cell : ℕ) → group_at cell (living store.stamp (kept_in cell store.kept)) ≡ group_at cell (rows_in cell rows) = λ cell. ap (group_at cell) (living_in store.stamp cell store.kept) in
    let grouped : groups_from (λ cell. living store.stamp (kept_in cell store.kept)) 0 cells ≡ groups_of (by_cell cells rows) = flat_map-same _ _ (numbers_below cells) same ∙ sym (groups_by_cell rows cells) in
    let groups : used_count store ≡ length (groups_of (by_cell cells rows)) = sym (groups_count store.stamp store.kept cells) ∙ ap length grouped in
    let texts : cells_text book.widths book.g store.stamp store.kept cells ≡ flat_map (group_bytes book.widths book.g) (groups_of (by_cell cells rows)) =
    sym (flat_map-flat_map (group_bytes book.widths book.g) (λ cell. group_at cell (living store.stamp (kept_in cell store.kept))) (numbers_below cells)) ∙ ap (flat_map (group_bytes book.widths book.g)) grouped in
    rw (is, g, texts, groups, count) (simp append_assoc)
