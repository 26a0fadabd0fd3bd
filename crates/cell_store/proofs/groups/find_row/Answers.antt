use Rattle.cell_store.proofs.Words.{◌≡◌, ap, sym, ◌∙◌, map, rows_for, slot_of, CellRows}
use Rattle.cell_store.proofs.Grouped.{found_row, no_row_found}
use Rattle.cell_store.proofs.groups.find_row.Given.{Over}
use Rattle.cell_store.proofs.groups.find_row.Goals as goal
use Rattle.cell_store.proofs.groups.find_row.Goals.{After-all_slots}

slots_are : (g : Over) (c : After-all_slots g) → c.all_slots.result.now ≡ map slot_of (rows_for c.args.lists.now c.in_ok-listed.listed.cell)
slots_are g c = c.all_slots.ensures ∙ ap (λ (v : CellRows). map slot_of v.rows) c.in_ok-view.ensures.0

pub returns-in-Some : goal.returns-in-Some
returns-in-Some g c = λ places index grouped.
    found_row (rows_for c.args.lists.now) places c.args.ids.now index grouped c.args.id c.in_ok-listed.listed.cell c.in-Some.born c.all_slots.result.now (slots_are g (goal.at.returns-in-Some g c).After-all_slots) c.in-Some.ensures

pub returns-in-None : goal.returns-in-None
returns-in-None g c = λ places index grouped.
    no_row_found (rows_for c.args.lists.now) places c.args.ids.now index grouped c.args.id c.in_ok-listed.listed c.all_slots.result.now (slots_are g (goal.at.returns-in-None g c).After-all_slots) (sym c.get.ensures ∙ c.in_ok-listed.was) c.in-None.ensures
