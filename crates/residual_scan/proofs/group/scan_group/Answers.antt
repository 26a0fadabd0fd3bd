use Rattle.std.proofs.Common.{◌≡◌, ◌<◌, ◌≤◌, true, List, ◌++◌, length, refl, sym, subst, ◌∙◌, arith}
use Rattle.book_model.specs.Bound.{Tables}
use Rattle.book_model.specs.Rows.{Row}
use Rattle.prune_scan.specs.LaneMasks.{is_set}
use Rattle.prune_scan.proofs.Adding.{marked_none}
use Rattle.prune_scan.proofs.MaskLemmas.{both_set, lane_below}
use Rattle.residual_scan.specs.Cutting.{Goes}
use Rattle.residual_scan.proofs.Going.{goes_none}
use Rattle.residual_scan.proofs.InGroup.{AreBounded, near_goes, one_more, skips_to}
use Rattle.residual_scan.proofs.group.scan_group.Goals as goal
use Rattle.residual_scan.proofs.group.scan_group.Given.{Over}
use Rattle.residual_scan.proofs.group.scan_group.Goals.{In-Some}

-- the next lane is marked and near, and has a slot
is_taken : (g : Over) (c : In-Some g) → (is_set c.args.marks c.in-Some.i ≡ true) × (is_set c.loop-i.near c.in-Some.i ≡ true)
is_taken g c = both_set c.args.marks c.loop-i.near c.in-Some.i c.in-Some.ensures.set

has_slot : (g : Over) (c : In-Some g) → c.in-Some.i < length c.args.slots.now
has_slot g c = lane_below c.args.marks (length c.args.slots.now) c.in-Some.i c.requires.marks (is_taken g c).0

pub bounds-slots-i : goal.bounds-slots-i
bounds-slots-i g c = lane_below c.args.marks (length c.args.slots.now) c.in-Some.i c.requires.marks (both_set c.args.marks c.loop-i.near c.in-Some.i c.in-Some.ensures.set).0

pub overflow_add-at : goal.overflow_add-at
overflow_add-at g c = omega (arith, has_slot g (goal.at.overflow_add-at g c).In-Some, c.requires.slots)

pub take_lane-requires-clause-lane : goal.take_lane-requires-clause-lane
take_lane-requires-clause-lane g c = omega (arith, has_slot g (goal.at.take_lane-requires-clause-lane g c).In-Some, c.requires.slots)

pub loop-i-init : goal.loop-i-init
loop-i-init g c = record {
  within = omega arith;
  near = c.near_lanes-near.ensures;
  goes = λ cell. subst (λ (rows : List Row). Goes (c.args.low.now.tables ++ c.args.high.now.tables) c.args.cut.now rows c.args.best.now c.args.best.now c.args.full.now c.args.full.now)
      (sym (marked_none g.S.Shape.widths cell c.args.slots.now c.args.marks c.args.block.now)) (goes_none (c.args.low.now.tables ++ c.args.high.now.tables) c.args.cut.now c.args.best.now c.args.full.now);
  risen = omega arith;
  sizes = refl;
  room = refl;
}

pub loop-i-preserved : goal.loop-i-preserved
loop-i-preserved g c =
    let ws = g.S.Shape.widths in
    let ts : Tables = c.args.low.now.tables ++ c.args.high.now.tables in
    let slots = c.args.slots.now in
    let codes = c.args.block.now in
    let i = c.in-Some.i in
    let here = (goal.at.loop-i-preserved g c).In-Some in
    let lt : i < 32 = omega (arith, has_slot g here, c.requires.slots) in
    let inv = c.loop-i.invariant in
    let are : AreBounded ws codes ts c.args.cut.now c.args.bounds.now = record { picks = c.requires.picks; bounds_are = c.requires.bounds } in
    let some : 1 ≤ c.loop-i.best.k = omega (arith, inv.sizes, c.requires.some) in
    let e = c.take_lane.ensures in
    record {
      within = omega arith;
      near = c.near_lanes-near-in-Some.ensures;
      goes = λ cell.
          one_more ws cell slots c.args.marks codes ts c.args.cut.now c.args.bounds.now are i c.args.best.now c.loop-i.best c.take_lane.new.best c.args.full.now c.loop-i.full c.take_lane.new.full (is_taken g here).0
          (skips_to ws cell slots c.args.marks codes ts c.args.cut.now c.args.bounds.now are c.args.best.now c.loop-i.best c.args.full.now c.loop-i.full some c.loop-i.near inv.near c.loop-i.at i c.in-Some.ensures.from (omega arith) c.in-Some.ensures.first (inv.goes cell))
          (near_goes ws cell slots c.args.marks codes ts c.args.cut.now c.args.bounds.now are i lt c.loop-i.best some c.loop-i.near inv.near c.take_lane.new.best c.loop-i.full c.take_lane.new.full (is_taken g here).1 e.offered e.raised e.k e.room);
      risen = omega (arith, inv.risen, e.raised, c.in-Some.ensures.from);
      sizes = e.k ∙ inv.sizes;
      room = e.room ∙ inv.room;
    }

pub loop-i-smaller : goal.loop-i-smaller
loop-i-smaller g c = omega (arith, has_slot g (goal.at.loop-i-smaller g c).In-Some, c.requires.slots, c.in-Some.ensures.from)

pub returns-clause-goes : goal.returns-clause-goes
returns-clause-goes g c cell =
    let inv = c.loop-i.invariant in
    skips_to g.S.Shape.widths cell c.args.slots.now c.args.marks c.args.block.now (c.args.low.now.tables ++ c.args.high.now.tables) c.args.cut.now c.args.bounds.now (record { picks = c.requires.picks; bounds_are = c.requires.bounds })
    c.args.best.now c.loop-i.best c.args.full.now c.loop-i.full (omega (arith, inv.sizes, c.requires.some)) c.loop-i.near inv.near c.loop-i.at 32 inv.within (omega arith) (λ k from lt. c.in_default.ensures.none k from) (inv.goes cell)
