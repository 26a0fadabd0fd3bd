use Rattle.std.proofs.Common.{List, sym, subst, ◌∙◌}
use Rattle.cell_store.specs.declared.Slot.{Slot}
use Rattle.cell_store.proofs.ShownLemmas.{slots_pass}
use Rattle.prune_scan.specs.Marks.{AreMarks}
use Rattle.prune_scan.proofs.cell.marks_of.Goals as goal

pub returns-then-is_whole : goal.returns-then-is_whole
returns-then-is_whole g c =
    let cell = c.args.cell.now in
    let each = slots_pass cell.ranges cell.stamp c.args.n cell.rows c.slots-slots.result.now c.slots-slots.ensures.slots (c.is_whole.ensures c.if-is_whole.true) in
    subst (λ (l : List Slot). AreMarks cell.ranges cell.stamp l c.first_lanes.result) c.slots-slots.ensures.slots (record {
      shown = λ i lt. c.first_lanes.ensures.set i lt ∙ sym (each i lt);
      rest = λ i le. c.first_lanes.ensures.rest i le;
    })
