use Rattle.std.specs.FinMap as fin
use Rattle.cell_store.proofs.Words.{◌≡◌, ◌<◌, ◌≤◌, ap, sym, ◌∙◌, inl, inr, arith, List, map, length, length-map, all_at, no_row, rows_for, slot_of, CellRows, Slot, Kept}
use Rattle.std.proofs.lemmas.Bool.{cases_eq}
use Rattle.cell_store.specs.Groups.{listed_anew}
use Rattle.cell_store.proofs.FinishLemmas.{slot_at-map}
use Rattle.cell_store.proofs.Grouped.{grouped_same, grouped_anew, tidied_whole}
use Rattle.cell_store.proofs.groups.regroup.Given.{Over}
use Rattle.cell_store.proofs.groups.regroup.Goals as goal
use Rattle.cell_store.proofs.groups.regroup.Goals.{After-all_slots}

slots_are : (g : Over) (c : After-all_slots g) → c.all_slots.result.now ≡ map slot_of (rows_for c.args.lists.now c.args.cell)
slots_are g c = c.all_slots.ensures ∙ ap (λ (v : CellRows). map slot_of v.rows) c.in-Some.ensures.0

pub list_groups-requires-clause-small : goal.list_groups-requires-clause-small
list_groups-requires-clause-small g c = λ k less.
    let same = slots_are g c in
    let within : k < length (rows_for c.args.lists.now c.args.cell) = omega (arith, less, ap length same, length-map (rows_for c.args.lists.now c.args.cell) slot_of) in
    rw (same, slot_at-map (rows_for c.args.lists.now c.args.cell) k within) (all_at (λ (r : Kept). r.row.id ≤ 2147483647) (rows_for c.args.lists.now c.args.cell) k no_row c.requires.small within)

pub returns-then-kept-before : goal.returns-then-kept-before
returns-then-kept-before g c = λ mid pins places others tidy long index grouped.
    grouped_anew (rows_for c.args.lists.now) mid places c.args.ids.now grouped c.args.cell others index c.list_groups.new.ids (λ id.
    c.list_groups.ensures id ∙ ap (λ (l : List Slot). listed_anew c.args.cell l (length l) id (fin.get c.args.ids.now id)) (slots_are g (goal.at.returns-then-kept-before g c).After-all_slots))

pub returns-else-kept-before : goal.returns-else-kept-before
returns-else-kept-before g c = λ mid pins places others tidy long index grouped.
    let whole : rows_for c.args.lists.now c.args.cell ≡ mid c.args.cell =
    tidied_whole pins (mid c.args.cell) (rows_for c.args.lists.now c.args.cell) tidy (omega (arith, long, c.if-kept-before.false, c.kept.ensures, ap (λ (v : CellRows). length v.rows) c.in-Some.ensures.0)) in
    grouped_same (rows_for c.args.lists.now) mid places c.args.ids.now grouped (λ e. elim (cases_eq e c.args.cell) [
      | inl same ↦ ap (rows_for c.args.lists.now) same ∙ whole ∙ ap mid (sym same)
      | inr off ↦ others e off
    ])
