use Rattle.cell_store.proofs.Words.{◌<◌, ◌≤◌, ap, length, arith, length-map, slot_passes, slot_of, no_row, all_at}
use Rattle.cell_store.proofs.FinishLemmas.{slot_at-map, length-filter_slots}
use Rattle.cell_store.proofs.view.count_in.Goals as goal

pub count_passing-requires-clause-ids : goal.count_passing-requires-clause-ids
count_passing-requires-clause-ids g c = λ i h.
    let here : i < length c.in-Some.rows.rows = omega (arith, h, ap length c.all_slots.ensures, length-map c.in-Some.rows.rows slot_of) in
    rw (c.all_slots.ensures, slot_at-map c.in-Some.rows.rows i here) (all_at (λ k. k.row.id ≤ 2147483647) c.in-Some.rows.rows i no_row (rw c.in-Some.ensures.0 c.requires.ids) here)

pub returns-in-Some : goal.returns-in-Some
returns-in-Some g c = rw (c.count_passing.ensures, c.all_slots.ensures, length-filter_slots (slot_passes (g.P.IdSelector.ranges c.args.wanted.now) c.args.stamp) c.in-Some.rows.rows, c.in-Some.ensures.0)

pub returns-in-None : goal.returns-in-None
returns-in-None g c = rw c.in-None.ensures
