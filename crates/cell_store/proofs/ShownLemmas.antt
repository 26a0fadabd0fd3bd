-- Which rows a snapshot shows.
use Rattle.std.proofs.Common.{◌≡◌, ℕ, zero, suc, ◌*◌, ◌<◌, ◌≤◌, true, List, [], ◌∷◌, length, map, take, drop, sym, ap, subst, ◌∙◌, arith, inl, inr}
use Rattle.std.specs.List.{AllByRecursion, list_all}
use Rattle.std.specs.Prelude.{◌&&◌, ◌==◌, nat_le, nat_lt}
use Rattle.std.proofs.lemmas.Bool.{cases_Bool, eqb-true, le-leb, lt-ltb, and_parts, and_from}
use Rattle.std.proofs.lemmas.List.{get_or-map, length-map}
use Rattle.book_model.specs.Rows.{in_ranges}
use Rattle.book_model.proofs.Good.{all_at}
use Rattle.cell_store.specs.State.{Kept, never, is_live, kept_in}
use Rattle.cell_store.specs.Blocks.{no_row, row_at, slot_of}
use Rattle.cell_store.specs.Slots.{slot_at, slot_passes}
use Rattle.cell_store.specs.declared.Slot.{Slot}

pub all_take : {X : Type 0} (P : X → Type 0) (n : ℕ) (xs : List X) → AllByRecursion P xs → AllByRecursion P (take n xs)
all_take P zero xs all = tt
all_take P (suc n) [] all = tt
all_take P (suc n) (x ∷ xs) all = (all.0, all_take P n xs all.1)

pub all_drop : {X : Type 0} (P : X → Type 0) (n : ℕ) (xs : List X) → AllByRecursion P xs → AllByRecursion P (drop n xs)
all_drop P zero xs all = all
all_drop P (suc n) [] all = tt
all_drop P (suc n) (x ∷ xs) all = all_drop P n xs all.1

-- the rows that a cell keeps are of it
pub kept_in-cell : (cell : ℕ) (kept : List Kept) → AllByRecursion (λ (k : Kept). k.row.cell ≡ cell) (kept_in cell kept)
kept_in-cell cell [] = tt
kept_in-cell cell (k ∷ ks) = elim (cases_Bool (k.row.cell == cell)) [
  | inl on ↦ rw on (eqb-true k.row.cell cell on, kept_in-cell cell ks)
  | inr off ↦ rw off (kept_in-cell cell ks)
]

-- what holds of each row of a cell holds of a group's slots
group_slots : (P : Slot → Type 0) (n : ℕ) (rows : List Kept) (slots : List Slot) → slots ≡ map slot_of (take 32 (drop (32 * n) rows)) → AllByRecursion (λ (k : Kept). P (slot_of k)) rows → (i : ℕ) → i < length slots → P (slot_at slots i)
group_slots P n rows slots is all i lt =
    let group : List Kept = take 32 (drop (32 * n) rows) in
    let size : length slots ≡ length group = ap length is ∙ length-map group slot_of in
    let slot_is : slot_at slots i ≡ slot_of (row_at group i) = ap (λ l. slot_at l i) is ∙ get_or-map slot_of group i no_row (record { id = 0; born = 0; died = 0 }) (omega (arith, size)) in
    subst P (sym slot_is) (all_at (λ (k : Kept). P (slot_of k)) group i no_row (all_take (λ (k : Kept). P (slot_of k)) 32 (drop (32 * n) rows) (all_drop (λ (k : Kept). P (slot_of k)) (32 * n) rows all)) (omega (arith, size)))

pub slot_ids : (n : ℕ) (rows : List Kept) (slots : List Slot) → slots ≡ map slot_of (take 32 (drop (32 * n) rows)) → AllByRecursion (λ (k : Kept). k.row.id ≤ 2147483647) rows → (i : ℕ) → i < length slots → (slot_at slots i).id ≤ 2147483647
slot_ids n rows slots is all = group_slots (λ (s : Slot). s.id ≤ 2147483647) n rows slots is all

pub slots_pass : (ranges : List (ℕ × ℕ)) (stamp n : ℕ) (rows : List Kept) (slots : List Slot) → slots ≡ map slot_of (take 32 (drop (32 * n) rows)) → AllByRecursion (λ (k : Kept). slot_passes ranges stamp (slot_of k) ≡ true) rows → (i : ℕ) → i < length slots → slot_passes ranges stamp (slot_at slots i) ≡ true
slots_pass ranges stamp n rows slots is all = group_slots (λ (s : Slot). slot_passes ranges stamp s ≡ true) n rows slots is all

-- rows that are all live pass at the present stamp, where each id does
pub live_pass : (ranges : List (ℕ × ℕ)) (stamp : ℕ) → stamp < never → ((id : ℕ) → id ≤ 2147483647 → in_ranges ranges id ≡ true) → (rows : List Kept)
    → list_all is_live rows ≡ true → AllByRecursion (λ (k : Kept). k.born ≤ stamp) rows → AllByRecursion (λ (k : Kept). k.row.id ≤ 2147483647) rows → AllByRecursion (λ (k : Kept). slot_passes ranges stamp (slot_of k) ≡ true) rows
live_pass ranges stamp early all [] live born ids = tt
live_pass ranges stamp early all (k ∷ rows) live born ids =
    let parts = and_parts (is_live k) (list_all is_live rows) live in
    let died : k.died ≡ never = eqb-true k.died never parts.0 in
    let began : nat_le k.born stamp ≡ true = le-leb k.born stamp born.0 in
    let lasts : nat_lt stamp k.died ≡ true = lt-ltb stamp k.died (subst (λ (n : ℕ). stamp < n) (sym died) early) in (
      and_from (nat_le k.born stamp && nat_lt stamp k.died) (in_ranges ranges k.row.id) (and_from (nat_le k.born stamp) (nat_lt stamp k.died) began lasts) (all k.row.id ids.0),
      live_pass ranges stamp early all rows parts.1 born.1 ids.1,
    )
