-- The passing rows of a group of slots are the marked rows of its block.
use Rattle.std.proofs.Common.{◌≡◌, ℕ, zero, suc, ◌+◌, ◌-◌, ◌*◌, ◌<◌, ◌≤◌, true, false, List, [], ◌∷◌, ◌++◌, length, map, filter, take, drop, get_or, refl, sym, ap, subst, ◌∙◌, inl, inr, arith, eq-zero-or-pos, add-one, length-append, length-drop}
use Rattle.std.specs.List.{AllByRecursion, list_all}
use Rattle.std.specs.Prelude.{◌==◌, ◌&&◌, nat_le, nat_lt}
use Rattle.std.proofs.Math.Seq.{take-add}
use Rattle.std.proofs.lemmas.Bool.{cases_Bool, eqb-true, le-leb, lt-ltb, and_parts, and_from}
use Rattle.std.proofs.lemmas.List.{append-nil, get_or-map, length-map, take_all, take_more, map-append, get_or-take, get_or-drop, length-take, take-append-drop}
use Rattle.std.proofs.lemmas.List.Elements.{filter-append}
use Rattle.book_model.specs.Rows.{Row, in_ranges, passing}
use Rattle.book_model.proofs.Good.{all_at}
use Rattle.shape_core.specs.Word.{code_of_words}
use Rattle.cell_store.specs.State.{Kept, never, is_live, lives_at, rows_at, passing_at, kept_in}
use Rattle.cell_store.specs.Blocks.{no_row, row_at, slot_of}
use Rattle.cell_store.specs.Slots.{slot_at, slot_passes}
use Rattle.cell_store.specs.declared.Slot.{Slot}
use Rattle.cell_store.proofs.ShownLemmas.{all_take, all_drop}
use Rattle.prune_scan.specs.LaneMasks.{is_set}
use Rattle.prune_scan.specs.Marks.{AreMarks}
use Rattle.prune_scan.specs.Blocks.{lane_row, marked_rows}
use Rattle.prune_scan.proofs.Adding.{marked_none, marked_set, marked_clear}

module _ (ranges : List (ℕ × ℕ)) (stamp : ℕ) where
  pub passing-append : (xs ys : List Kept) → passing_at ranges stamp (xs ++ ys) ≡ passing_at ranges stamp xs ++ passing_at ranges stamp ys
  passing-append xs ys =
      ap (λ l. passing ranges (map (λ (k : Kept). k.row) l)) (filter-append (lives_at stamp) xs ys)
      ∙ ap (passing ranges) (map-append (λ (k : Kept). k.row) (filter (lives_at stamp) xs) (filter (lives_at stamp) ys))
      ∙ filter-append (λ (row : Row). in_ranges ranges row.id) (rows_at stamp xs) (rows_at stamp ys)

  -- the first rows that pass are no more than all
  pub passing-front : (n : ℕ) (xs : List Kept) → length (passing_at ranges stamp (take n xs)) ≤ length (passing_at ranges stamp xs)
  passing-front n xs =
      omega (
        arith,
        ap (λ l. length (passing_at ranges stamp l)) (take-append-drop n xs),
        ap length (passing-append (take n xs) (drop n xs)),
        length-append (passing_at ranges stamp (take n xs)) (passing_at ranges stamp (drop n xs)),
      )

  pub passing-group : (n m : ℕ) (xs : List Kept) → passing_at ranges stamp (take (n + m) xs) ≡ passing_at ranges stamp (take n xs) ++ passing_at ranges stamp (take m (drop n xs))
  passing-group n m xs = ap (passing_at ranges stamp) (take-add n m xs) ∙ passing-append (take n xs) (take m (drop n xs))

  passing_in : (k : Kept) → slot_passes ranges stamp (slot_of k) ≡ true → passing_at ranges stamp (k ∷ []) ≡ k.row ∷ []
  passing_in k is = elim (cases_Bool (lives_at stamp k)) [
    | inl on ↦ elim (cases_Bool (in_ranges ranges k.row.id)) [
      | inl inside ↦ rw (on, inside) refl
      | inr outside ↦ let never = rw (on, outside) at is in cc
    ]
    | inr off ↦ let never = rw off at is in cc
  ]

  passing_out : (k : Kept) → slot_passes ranges stamp (slot_of k) ≡ false → passing_at ranges stamp (k ∷ []) ≡ []
  passing_out k is = elim (cases_Bool (lives_at stamp k)) [
    | inl on ↦ elim (cases_Bool (in_ranges ranges k.row.id)) [
      | inl inside ↦ let never = rw (on, inside) at is in cc
      | inr outside ↦ rw (on, outside) refl
    ]
    | inr off ↦ rw off refl
  ]

-- the lanes of a block say what the rows of a group are
pub record AreLanesOf (widths : List ℕ) (ranges : List (ℕ × ℕ)) (stamp cell : ℕ) (slots : List Slot) (marks : ℕ) (codes : List (List ℕ)) (group : List Kept) : Type 0 where
  pub slots_are : (i : ℕ) → i < length group → slot_at slots i ≡ slot_of (row_at group i)
  pub marks_are : (i : ℕ) → i < length group → is_set marks i ≡ slot_passes ranges stamp (slot_of (row_at group i))
  pub rest : (i : ℕ) → length group ≤ i → is_set marks i ≡ false
  pub codes_are : (i : ℕ) → i < length group → code_of_words widths (get_or codes i []) ≡ (row_at group i).row.code
  pub of_cell : AllByRecursion (λ (k : Kept). k.row.cell ≡ cell) group

module _ (widths : List ℕ) (ranges : List (ℕ × ℕ)) (stamp cell : ℕ) (slots : List Slot) (marks : ℕ) (codes : List (List ℕ)) (group : List Kept) (is : AreLanesOf widths ranges stamp cell slots marks codes group) where
  lane_is : (i : ℕ) → i < length group → lane_row widths cell slots codes i ≡ (row_at group i).row
  lane_is i lt =
      let own : (row_at group i).row.cell ≡ cell = all_at (λ (k : Kept). k.row.cell ≡ cell) group i no_row is.of_cell lt in
      (λ t. record { id = (is.slots_are i lt t).id; cell = sym own t; code = is.codes_are i lt t })

  next_lane : (n : ℕ) → marked_rows widths cell slots marks codes n ≡ passing_at ranges stamp (take n group) → marked_rows widths cell slots marks codes (n + 1) ≡ passing_at ranges stamp (take (n + 1) group)
  next_lane n before = elim (eq-zero-or-pos (length group - n)) [
    | inl past ↦
        let whole : take n group ≡ take (n + 1) group = take_all n group (omega (arith, past)) ∙ sym (take_all (n + 1) group (omega (arith, past))) in
        marked_clear widths cell slots marks codes n (is.rest n (omega (arith, past))) ∙ before ∙ ap (passing_at ranges stamp) whole
    | inr there ↦
        let lt : n < length group = omega (arith, there) in
        let more : passing_at ranges stamp (take (n + 1) group) ≡ passing_at ranges stamp (take n group) ++ passing_at ranges stamp (row_at group n ∷ []) =
        ap (passing_at ranges stamp) (take_more group n no_row lt) ∙ passing-append ranges stamp (take n group) (row_at group n ∷ []) in
        elim (cases_Bool (slot_passes ranges stamp (slot_of (row_at group n)))) [
          | inl on ↦
              marked_set widths cell slots marks codes n (is.marks_are n lt ∙ on) ∙ (λ t. before t ++ lane_is n lt t ∷ [])
              ∙ ap (λ rows. passing_at ranges stamp (take n group) ++ rows) (sym (passing_in ranges stamp (row_at group n) on)) ∙ sym more
          | inr off ↦
              marked_clear widths cell slots marks codes n (is.marks_are n lt ∙ off) ∙ before ∙ sym (append-nil (passing_at ranges stamp (take n group)))
              ∙ ap (λ rows. passing_at ranges stamp (take n group) ++ rows) (sym (passing_out ranges stamp (row_at group n) off)) ∙ sym more
        ]
  ]

  pub marked_is_passing : (n : ℕ) → marked_rows widths cell slots marks codes n ≡ passing_at ranges stamp (take n group)
  marked_is_passing zero = marked_none widths cell slots marks codes
  marked_is_passing (suc n) = ap (marked_rows widths cell slots marks codes) (sym (add-one n)) ∙ next_lane n (marked_is_passing n) ∙ ap (λ m. passing_at ranges stamp (take m group)) (add-one n)

-- how many rows are marked does not depend on the cell
pub marked_count : (widths : List ℕ) (cell other : ℕ) (slots : List Slot) (marks : ℕ) (codes : List (List ℕ)) (n : ℕ) → length (marked_rows widths cell slots marks codes n) ≡ length (marked_rows widths other slots marks codes n)
unfolding marked_rows
marked_count widths cell other slots marks codes zero = refl
marked_count widths cell other slots marks codes (suc n) = elim (cases_Bool (is_set marks n)) [
  | inl on ↦ rw on (omega (arith, marked_count widths cell other slots marks codes n, length-append (marked_rows widths cell slots marks codes n) (lane_row widths cell slots codes n ∷ []), length-append (marked_rows widths other slots marks codes n) (lane_row widths other slots codes n ∷ [])))
  | inr off ↦
      let none : List Row = [] in
      rw off (omega (arith, marked_count widths cell other slots marks codes n, length-append (marked_rows widths cell slots marks codes n) none, length-append (marked_rows widths other slots marks codes n) none))
]

-- what a view's calls say of one group
pub group_lanes : (widths : List ℕ) (ranges : List (ℕ × ℕ)) (stamp cell n : ℕ) (rows : List Kept) (slots : List Slot) (marks : ℕ) (codes : List (List ℕ))
    → slots ≡ map slot_of (take 32 (drop (32 * n) rows))
    → AreMarks ranges stamp slots marks
    → ((i : ℕ) → i < 32 → 32 * n + i < length rows → code_of_words widths (get_or codes i []) ≡ (row_at rows (32 * n + i)).row.code)
    → AllByRecursion (λ (k : Kept). k.row.cell ≡ cell) rows → AreLanesOf widths ranges stamp cell slots marks codes (take 32 (drop (32 * n) rows))
group_lanes widths ranges stamp cell n rows slots marks codes slots_are marked codes_are cells =
    let group : List Kept = take 32 (drop (32 * n) rows) in
    let size : length slots ≡ length group = ap length slots_are ∙ length-map group slot_of in
    let long = length-take 32 (drop (32 * n) rows) in
    let left = length-drop (32 * n) rows in
    let slot_is : (i : ℕ) → i < length group → slot_at slots i ≡ slot_of (row_at group i) = λ i lt. ap (λ l. slot_at l i) slots_are ∙ get_or-map slot_of group i no_row (record { id = 0; born = 0; died = 0 }) lt in
    record {
      slots_are = slot_is;
      marks_are = λ i lt. marked.shown i (omega (arith, size)) ∙ ap (slot_passes ranges stamp) (slot_is i lt);
      rest = λ i le. marked.rest i (omega (arith, size));
      codes_are = λ i lt.
          codes_are i (omega (arith, long)) (omega (arith, long, left))
          ∙ ap (λ (k : Kept). k.row.code) (sym (get_or-take 32 (drop (32 * n) rows) i no_row (omega (arith, long)) ∙ get_or-drop (32 * n) rows i no_row));
      of_cell = all_take (λ (k : Kept). k.row.cell ≡ cell) 32 (drop (32 * n) rows) (all_drop (λ (k : Kept). k.row.cell ≡ cell) (32 * n) rows cells);
    }
