use Rattle.cell_store.proofs.Words.{◌≡◌, ◌<◌, ap, ◌∙◌, sym, subst, length, get_or, List, arith, true, false, list_any, get_or-set_same, Slot, Kept, IsTidied, common_steps, slot_at, slot_lives, slot_is_live, slot_of, row_at, rows_in}
use Rattle.cell_store.proofs.FinishLemmas.{slot_at-map, ends_at}
use Rattle.cell_store.proofs.OwnRows.{length_rows, slots_are, slot_is, ended_rows}
use Rattle.cell_store.proofs.Counting.{live_of_birth, some_counts, count_ended}
use Rattle.cell_store.proofs.rows.Rows.finish.Given.{Over}
use Rattle.cell_store.proofs.rows.Rows.finish.Goals as goal
use Rattle.cell_store.proofs.rows.Rows.finish.Goals.{After-find_born-at}

pub find_born-at-requires-clause-rising : goal.find_born-at-requires-clause-rising
find_born-at-requires-clause-rising g c = rw c.deref.ensures.value c.requires.rising

pub find_born-at-requires-clause-there : goal.find_born-at-requires-clause-there
find_born-at-requires-clause-there g c = rw c.deref.ensures.value (c.requires.there.0, c.requires.there.1, c.requires.there.2.0)

within : (g : Over) (c : After-find_born-at g) → c.find_born-at.result < length c.args.self.now.slots.items
within g c = rw c.deref.ensures.value at c.find_born-at.ensures.within

born : (g : Over) (c : After-find_born-at g) → (slot_at c.args.self.now.slots.items c.find_born-at.result).born ≡ c.args.born
born g c = rw c.deref.ensures.value at c.find_born-at.ensures.found

was_live : (g : Over) (c : After-find_born-at g) (e : Slot) → slot_is_live (get_or c.args.self.now.slots.items c.find_born-at.result e) ≡ true
was_live g c e = live_of_birth c.args.self.now.slots.items c.args.born c.find_born-at.result c.requires.rising c.requires.there (within g c) (born g c) e

pub overflow_sub-self : goal.overflow_sub-self
overflow_sub-self g c =
    let s = (goal.at.overflow_sub-self g c).After-find_born-at in
    omega (arith, some_counts slot_is_live c.args.self.now.slots.items c.find_born-at.result c.index_mut.result.now (within g s) (was_live g s c.index_mut.result.now), c.requires.counted)

pub tidy-requires-clause-counted : goal.tidy-requires-clause-counted
tidy-requires-clause-counted g c =
    let s = (goal.at.tidy-requires-clause-counted g c).After-find_born-at in
    let now : Slot = record { id = c.index_mut.result.now.id; born = c.index_mut.result.now.born; died = c.args.now } in
    let gone : slot_is_live now ≡ false = (let h = c.requires.now in grind (arith, common_steps)) in
    omega (arith, count_ended slot_is_live c.args.self.now.slots.items c.find_born-at.result c.index_mut.result.now now (within g s) (was_live g s c.index_mut.result.now) gone, c.requires.counted)

pub returns-clause-ends : goal.returns-clause-ends
returns-clause-ends g c = λ cell.
    let s = (goal.at.returns-clause-ends g c).After-find_born-at in
    let rows : List Kept = rows_in g.S.Shape.widths cell c.args.self.now in
    let here : c.find_born-at.result < length (rows_in g.S.Shape.widths cell c.args.self.now) = omega (arith, within g s, length_rows g.S.Shape.widths cell c.args.self.now c.requires.is.room) in
    let shown : c.index_mut.result.now ≡ slot_of (row_at rows c.find_born-at.result) =
    c.index_mut.ensures.value ∙ slot_is g.S.Shape.widths cell c.args.self.now c.requires.is.room c.find_born-at.result c.index_mut.result.now (within g s) in
    ends_at c.find_born-at.result here
    (ap (λ (s : Slot). s.born) (sym (slot_at-map rows c.find_born-at.result here)) ∙ ap (λ l. (slot_at l c.find_born-at.result).born) (slots_are g.S.Shape.widths cell c.args.self.now c.requires.is.room) ∙ born g s)
    (subst (λ (l : List Kept). IsTidied c.args.pins.now l (rows_in g.S.Shape.widths cell c.tidy.new.self))
    (ended_rows g.S.Shape.widths cell c.args.self.now c.requires.is.room c.find_born-at.result c.args.now c.index_mut.result.now (within g s) c.index_mut.ensures.value) (c.tidy.ensures.tidied cell))
    (c.is_needed-needed.ensures
    ∙ ap (λ slot. list_any (λ s. slot_lives s slot) c.args.pins.now)
    (c.index.ensures
    ∙ get_or-set_same c.args.self.now.slots.items c.find_born-at.result (record { id = c.index_mut.result.now.id; born = c.index_mut.result.now.born; died = c.args.now }) c.index.result.now (within g s)
    ∙ ap (λ (s : Slot). let r : Slot = record { id = s.id; born = s.born; died = c.args.now } in r) shown))
    (c.tidy.ensures.few cell)
