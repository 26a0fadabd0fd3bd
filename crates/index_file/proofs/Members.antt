-- Rows as members of groups, one after another.
use Rattle.std.proofs.Common.{◌≡◌, ℕ, zero, suc, ◌+◌, ◌-◌, ◌*◌, ◌≤◌, ◌<◌, Bool, cond, List, [], ◌∷◌, ◌++◌, length, get_or, map, filter, take, drop, refl, sym, ap, subst, ◌∙◌, arith, inl, inr}
use Rattle.std.specs.List.{flat_map, range_with_len, AllByRecursion}
use Rattle.std.specs.Int.{w16, w32, to_le_bytes}
use Rattle.std.proofs.lemmas.Bool.{cases_Bool}
use Rattle.std.proofs.lemmas.List.{append-nil, map-append, length-append, take-append-drop, length-take, length-drop, take_more, get_or-take, get_or-drop, get_or-map}
use Rattle.std.proofs.lemmas.List.Elements.{filter-append}
use Rattle.std.proofs.lemmas.Grind.{flat_map-append}
use Rattle.std.proofs.lemmas.List.Concat.{flat_map-cons}
use Rattle.std.proofs.Math.Seq.{take-add}
use Rattle.shape_core.specs.Word.{AreCodeWords, code_of_words, words_of}
use Rattle.shape_core.proofs.Codes.{words_of-code_of_words}
use Rattle.codebook_core.specs.Spelling.{spelled}
use Rattle.book_model.specs.Rows.{Row}
use Rattle.cell_store.specs.State.{Kept, Store, lives_at, live_rows, kept_in}
use Rattle.cell_store.specs.Held.{IsRow, IsStore}
use Rattle.cell_store.specs.Blocks.{slot_of, row_at, no_row}
use Rattle.code_blocks.specs.Codes.{IsBlock}
use Rattle.cell_store.specs.Slots.{slot_lives}
use Rattle.cell_store.specs.declared.Slot.{Slot}
use Rattle.index_file.specs.Spelling.{member_bytes, group_bytes}
use Rattle.index_file.specs.Grouped.{living, group_at, members_text, cell_text, cells_text}
use Rattle.index_file.proofs.Groups.{flat_map_below}

living-append : (stamp : ℕ) (xs ys : List Kept) → living stamp (xs ++ ys) ≡ living stamp xs ++ living stamp ys
living-append stamp xs ys = ap (map (λ (k : Kept). k.row)) (filter-append (lives_at stamp) xs ys) ∙ map-append (λ (k : Kept). k.row) (filter (lives_at stamp) xs) (filter (lives_at stamp) ys)

pub text-append : (widths : List ℕ) (g stamp : ℕ) (xs ys : List Kept) → members_text widths g stamp (xs ++ ys) ≡ members_text widths g stamp xs ++ members_text widths g stamp ys
text-append widths g stamp xs ys = ap (flat_map (member_bytes widths g)) (living-append stamp xs ys) ∙ flat_map-append (member_bytes widths g) (living stamp xs) (living stamp ys)

-- 32 rows more
pub text_more : (widths : List ℕ) (g stamp n : ℕ) (rows : List Kept) → members_text widths g stamp (take (32 * n) rows) ++ members_text widths g stamp (take 32 (drop (32 * n) rows)) ≡ members_text widths g stamp (take (32 * (n + 1)) rows)
text_more widths g stamp n rows =
    let more : 32 * n + 32 ≡ 32 * (n + 1) = omega arith in
    sym (text-append widths g stamp (take (32 * n) rows) (take 32 (drop (32 * n) rows)))
    ∙ ap (members_text widths g stamp) (sym (take-add (32 * n) 32 rows) ∙ ap (λ (k : ℕ). take k rows) more)

-- and all the rest
pub text_rest : (widths : List ℕ) (g stamp n : ℕ) (rows : List Kept)
    → (members_text widths g stamp (take (32 * n) rows) ++ members_text widths g stamp (take 32 (drop (32 * n) rows))) ++ members_text widths g stamp (drop (32 * (n + 1)) rows) ≡ members_text widths g stamp rows
text_rest widths g stamp n rows =
    ap (λ (t : List ℕ). t ++ members_text widths g stamp (drop (32 * (n + 1)) rows)) (text_more widths g stamp n rows)
    ∙ sym (text-append widths g stamp (take (32 * (n + 1)) rows) (drop (32 * (n + 1)) rows))
    ∙ ap (members_text widths g stamp) (take-append-drop (32 * (n + 1)) rows)

-- one row more of a stretch
pub text_next : (widths : List ℕ) (g stamp i : ℕ) (rows : List Kept) (k : Kept) → take (i + 1) rows ≡ take i rows ++ k ∷ [] → members_text widths g stamp (take i rows) ++ members_text widths g stamp (k ∷ []) ≡ members_text widths g stamp (take (i + 1) rows)
text_next widths g stamp i rows k is = sym (text-append widths g stamp (take i rows) (k ∷ [])) ∙ ap (members_text widths g stamp) (sym is)

pub text_left : (widths : List ℕ) (g stamp i : ℕ) (rows : List Kept) (k : Kept) → take (i + 1) rows ≡ take i rows ++ k ∷ []
    → (members_text widths g stamp (take i rows) ++ members_text widths g stamp (k ∷ [])) ++ members_text widths g stamp (drop (i + 1) rows) ≡ members_text widths g stamp rows
text_left widths g stamp i rows k is =
    ap (λ (t : List ℕ). t ++ members_text widths g stamp (drop (i + 1) rows)) (text_next widths g stamp i rows k is)
    ∙ sym (text-append widths g stamp (take (i + 1) rows) (drop (i + 1) rows)) ∙ ap (members_text widths g stamp) (take-append-drop (i + 1) rows)

-- a group of rows of which there are some
pub group_is : (widths : List ℕ) (g cell : ℕ) (rows : List Row) → 0 < length rows
    → (to_le_bytes w32 cell ++ to_le_bytes w32 (length rows)) ++ flat_map (member_bytes widths g) rows ≡ flat_map (group_bytes widths g) (group_at cell rows)
group_is widths g cell [] some = absurd (omega arith)
group_is widths g cell (r ∷ rs) some = sym (flat_map-cons (group_bytes widths g) (cell, r ∷ rs) [] ∙ append-nil (group_bytes widths g (cell, r ∷ rs)))

pub count_more : (stamp n : ℕ) (rows : List Kept) → length (living stamp (take (32 * n) rows)) + length (living stamp (take 32 (drop (32 * n) rows))) ≡ length (living stamp (take (32 * (n + 1)) rows))
count_more stamp n rows =
    let more : 32 * n + 32 ≡ 32 * (n + 1) = omega arith in
    sym (ap length (ap (living stamp) (sym (ap (λ (k : ℕ). take k rows) more) ∙ take-add (32 * n) 32 rows) ∙ living-append stamp (take (32 * n) rows) (take 32 (drop (32 * n) rows))) ∙ length-append (living stamp (take (32 * n) rows)) (living stamp (take 32 (drop (32 * n) rows))))

-- the slots of rows that live
pub living_slots : (stamp : ℕ) (rows : List Kept) → length (filter (slot_lives stamp) (map slot_of rows)) ≡ length (living stamp rows)
living_slots stamp [] = refl
living_slots stamp (k ∷ ks) = elim (cases_Bool (lives_at stamp k)) [
  | inl lives ↦
      ap length (ap (λ (b : Bool). cond b (slot_of k ∷ filter (slot_lives stamp) (map slot_of ks)) (filter (slot_lives stamp) (map slot_of ks))) lives)
      ∙ ap suc (living_slots stamp ks)
      ∙ sym (ap (λ (w : List Kept). length (map (λ (x : Kept). x.row) w)) (ap (λ (b : Bool). cond b (k ∷ filter (lives_at stamp) ks) (filter (lives_at stamp) ks)) lives))
  | inr dead ↦
      ap length (ap (λ (b : Bool). cond b (slot_of k ∷ filter (slot_lives stamp) (map slot_of ks)) (filter (slot_lives stamp) (map slot_of ks))) dead)
      ∙ living_slots stamp ks
      ∙ sym (ap (λ (w : List Kept). length (map (λ (x : Kept). x.row) w)) (ap (λ (b : Bool). cond b (k ∷ filter (lives_at stamp) ks) (filter (lives_at stamp) ks)) dead))
]

-- one row, by its slot and the words of its code
pub member_is : (widths : List ℕ) (g stamp : ℕ) (k : Kept) (slot : Slot) (words : List ℕ) → slot ≡ slot_of k → AreCodeWords widths g words → code_of_words widths words ≡ k.row.code
    → cond (slot_lives stamp slot) (to_le_bytes w32 slot.id ++ spelled w16 words) [] ≡ members_text widths g stamp (k ∷ [])
member_is widths g stamp k slot words is are code =
    let text : to_le_bytes w32 k.row.id ++ spelled w16 words ≡ member_bytes widths g k.row =
    ap (λ (w : List ℕ). to_le_bytes w32 k.row.id ++ spelled w16 w) (sym (words_of-code_of_words widths g words are) ∙ ap (words_of widths g) code) in
    ap (λ (s : Slot). cond (slot_lives stamp s) (to_le_bytes w32 s.id ++ spelled w16 words) []) is
    ∙ elim (cases_Bool (lives_at stamp k)) [
      | inl lives ↦
          ap (λ (b : Bool). cond b (to_le_bytes w32 k.row.id ++ spelled w16 words) []) lives ∙ text
          ∙ sym (
          ap (λ (b : Bool). flat_map (member_bytes widths g) (map (λ (x : Kept). x.row) (cond b (k ∷ []) []))) lives
          ∙ flat_map-cons (member_bytes widths g) k.row [] ∙ append-nil (member_bytes widths g k.row)
          )
      | inr dead ↦
          ap (λ (b : Bool). cond b (to_le_bytes w32 k.row.id ++ spelled w16 words) []) dead
          ∙ sym (ap (λ (b : Bool). flat_map (member_bytes widths g) (map (λ (x : Kept). x.row) (cond b (k ∷ []) []))) dead)
    ]

-- ---- cells

pub cells_skipped : (widths : List ℕ) (g stamp : ℕ) (kept : List Kept) (from more : ℕ) → ((c : ℕ) → from ≤ c → c < from + more → kept_in c kept ≡ []) → cells_text widths g stamp kept (from + more) ≡ cells_text widths g stamp kept from
cells_skipped widths g stamp kept from zero none = ap (cells_text widths g stamp kept) (omega arith)
cells_skipped widths g stamp kept from (suc more) none =
    let next : from + suc more ≡ suc (from + more) = omega arith in
    ap (cells_text widths g stamp kept) next ∙ flat_map_below (cell_text widths g stamp kept) (from + more)
    ∙ ap (λ (ks : List Kept). cells_text widths g stamp kept (from + more) ++ flat_map (group_bytes widths g) (group_at (from + more) (living stamp ks))) (none (from + more) (omega arith) (omega arith))
    ∙ append-nil (cells_text widths g stamp kept (from + more))
    ∙ cells_skipped widths g stamp kept from more (λ c le lt. none c le (omega arith))

-- from one cell that has rows to behind the next
pub cells_more : (widths : List ℕ) (g stamp : ℕ) (kept : List Kept) (from cell : ℕ) → from ≤ cell → ((c : ℕ) → from ≤ c → c < cell → kept_in c kept ≡ [])
    → cells_text widths g stamp kept from ++ cell_text widths g stamp kept cell ≡ cells_text widths g stamp kept (cell + 1)
cells_more widths g stamp kept from cell le none =
    let there : from + (cell - from) ≡ cell = omega arith in
    let next : suc cell ≡ cell + 1 = omega arith in
    ap (λ (t : List ℕ). t ++ cell_text widths g stamp kept cell) (sym (cells_skipped widths g stamp kept from (cell - from) (λ c low high. none c low (omega arith))) ∙ ap (cells_text widths g stamp kept) there)
    ∙ sym (flat_map_below (cell_text widths g stamp kept) cell) ∙ ap (cells_text widths g stamp kept) next

pub cells_end : (widths : List ℕ) (g stamp : ℕ) (kept : List Kept) (from cells : ℕ) → from ≤ cells → ((c : ℕ) → from ≤ c → kept_in c kept ≡ [])
    → cells_text widths g stamp kept from ≡ cells_text widths g stamp kept cells
cells_end widths g stamp kept from cells le none =
    let there : from + (cells - from) ≡ cells = omega arith in
    sym (cells_skipped widths g stamp kept from (cells - from) (λ c low high. none c low)) ∙ ap (cells_text widths g stamp kept) there

-- ---- what holds of each store

-- what holds of all rows holds of those that live
pub live_all : (P : Row → Type 0) (stamp : ℕ) (kept : List Kept) → AllByRecursion (λ k. P k.row) kept → AllByRecursion P (living stamp kept)
live_all P stamp [] all = tt
live_all P stamp (k ∷ ks) all = elim (cases_Bool (lives_at stamp k)) [
  | inl lives ↦
      subst (λ (w : List Kept). AllByRecursion P (map (λ (x : Kept). x.row) w)) (sym (ap (λ (b : Bool). cond b (k ∷ filter (lives_at stamp) ks) (filter (lives_at stamp) ks)) lives))
      (all.0, live_all P stamp ks all.1)
  | inr dead ↦
      subst (λ (w : List Kept). AllByRecursion P (map (λ (x : Kept). x.row) w)) (sym (ap (λ (b : Bool). cond b (k ∷ filter (lives_at stamp) ks) (filter (lives_at stamp) ks)) dead))
      (live_all P stamp ks all.1)
]

all_below : (widths : List ℕ) (g cells : ℕ) (rows : List Row) → AllByRecursion (IsRow widths g cells) rows → AllByRecursion (λ row. row.cell < cells) rows
all_below widths g cells [] all = tt
all_below widths g cells (r ∷ rs) all = (all.0.cell, all_below widths g cells rs all.1)

pub rows_within : (widths : List ℕ) (store : Store) → IsStore widths store → AllByRecursion (λ row. row.cell < store.cells) (live_rows store)
rows_within widths store is = all_below widths store.g store.cells (live_rows store) (live_all (IsRow widths store.g store.cells) store.stamp store.kept is.rows)

range-append : (n m a : ℕ) → range_with_len a (n + m) ≡ range_with_len a n ++ range_with_len (a + n) m
range-append zero m a = ap (λ (k : ℕ). range_with_len a k) (omega arith) ∙ ap (λ (k : ℕ). range_with_len k m) (omega arith)
range-append (suc n) m a =
    let more : suc n + m ≡ suc (n + m) = omega arith in
    ap (λ (k : ℕ). range_with_len a k) more ∙ ap (λ (w : List ℕ). a ∷ w) (range-append n m (a + 1) ∙ ap (λ (k : ℕ). range_with_len (a + 1) n ++ range_with_len k m) (omega arith))

-- the bytes of the cells from a number on
abbrev pub cells_from : List ℕ → ℕ → ℕ → List Kept → ℕ → ℕ → List ℕ
cells_from widths g stamp kept from cells = flat_map (cell_text widths g stamp kept) (range_with_len from (cells - from))

pub cells_left : (widths : List ℕ) (g stamp : ℕ) (kept : List Kept) (from cells : ℕ) → from ≤ cells → cells_text widths g stamp kept from ++ cells_from widths g stamp kept from cells ≡ cells_text widths g stamp kept cells
cells_left widths g stamp kept from cells le =
    let all : from + (cells - from) ≡ cells = omega arith in
    let start : 0 + from ≡ from = omega arith in
    sym (
    ap (λ (k : ℕ). flat_map (cell_text widths g stamp kept) (range_with_len 0 k)) (sym all)
    ∙ ap (flat_map (cell_text widths g stamp kept)) (range-append from (cells - from) 0)
    ∙ flat_map-append (cell_text widths g stamp kept) (range_with_len 0 from) (range_with_len (0 + from) (cells - from))
    ∙ ap (λ (k : ℕ). cells_text widths g stamp kept from ++ flat_map (cell_text widths g stamp kept) (range_with_len k (cells - from))) start
    )

-- ---- a block and its slots

all_at : {X : Type 0} (P : X → Type 0) (xs : List X) (i : ℕ) (d : X) → AllByRecursion P xs → i < length xs → P (get_or xs i d)
all_at P [] i d all lt = absurd (omega arith)
all_at P (x ∷ xs) zero d all lt = all.0
all_at P (x ∷ xs) (suc i) d all lt = all_at P xs i d all.1 (omega arith)

pub code_at : (widths : List ℕ) (g : ℕ) (block : List (List ℕ)) (i : ℕ) → IsBlock widths g block → i < 32 → AreCodeWords widths g (get_or block i [])
code_at widths g block i is lt = all_at (AreCodeWords widths g) block i [] is.words (omega (arith, is.size))

module _ (widths : List ℕ) (g stamp n : ℕ) (rows : List Kept) (block : List (List ℕ)) (is : IsBlock widths g block)
    (codes : (i : ℕ) → i < 32 → 32 * n + i < length rows → code_of_words widths (get_or block i []) ≡ (row_at rows (32 * n + i)).row.code)
    (i : ℕ) (lt : i < length (take 32 (drop (32 * n) rows))) where
  abbrev stretch : List Kept
  stretch = take 32 (drop (32 * n) rows)

  abbrev here : Kept
  here = get_or stretch i no_row

  within : (i < 32) × (32 * n + i < length rows)
  within = (omega (arith, length-take 32 (drop (32 * n) rows), length-drop (32 * n) rows), omega (arith, length-take 32 (drop (32 * n) rows), length-drop (32 * n) rows))

  here_is : here ≡ row_at rows (32 * n + i)
  here_is = get_or-take 32 (drop (32 * n) rows) i no_row within.0 ∙ get_or-drop (32 * n) rows i no_row

  pub next_is : take (i + 1) stretch ≡ take i stretch ++ here ∷ []
  next_is = take_more stretch i no_row lt

  pub slot_text : (slot : Slot) → slot ≡ slot_of here → cond (slot_lives stamp slot) (to_le_bytes w32 slot.id ++ spelled w16 (get_or block i [])) [] ≡ members_text widths g stamp (here ∷ [])
  slot_text slot same = member_is widths g stamp here slot (get_or block i []) same (code_at widths g block i is within.0) (codes i within.0 within.1 ∙ sym (ap (λ (k : Kept). k.row.code) here_is))

  pub slot_more : (slot : Slot) → slot ≡ slot_of here → members_text widths g stamp (take i stretch) ++ cond (slot_lives stamp slot) (to_le_bytes w32 slot.id ++ spelled w16 (get_or block i [])) [] ≡ members_text widths g stamp (take (i + 1) stretch)
  slot_more slot same = ap (λ (t : List ℕ). members_text widths g stamp (take i stretch) ++ t) (slot_text slot same) ∙ text_next widths g stamp i stretch here next_is

  pub slot_left : (slot : Slot) → slot ≡ slot_of here
      → (members_text widths g stamp (take i stretch) ++ cond (slot_lives stamp slot) (to_le_bytes w32 slot.id ++ spelled w16 (get_or block i [])) []) ++ members_text widths g stamp (drop (i + 1) stretch) ≡ members_text widths g stamp stretch
  slot_left slot same =
      ap (λ (t : List ℕ). (members_text widths g stamp (take i stretch) ++ t) ++ members_text widths g stamp (drop (i + 1) stretch)) (slot_text slot same) ∙ text_left widths g stamp i stretch here next_is

-- the slot at a place among those of rows
pub slot_is : (rows : List Kept) (slots : List Slot) (i : ℕ) (d : Slot) → slots ≡ map slot_of rows → i < length rows → get_or slots i d ≡ slot_of (get_or rows i no_row)
slot_is rows slots i d same lt = ap (λ (l : List Slot). get_or l i d) same ∙ get_or-map slot_of rows i no_row d lt
