use Rattle.std.proofs.Common.{◌≡◌, ℕ, ◌+◌, ◌<◌, true, [], ◌∷◌, length, ap, subst, arith, length-append}
use Rattle.prune_scan.specs.LaneMasks.{is_set}
use Rattle.prune_scan.specs.Blocks.{lane_row, marked_rows, AreCodes}
use Rattle.prune_scan.proofs.Adding.{marked_set, marked_le}
use Rattle.prune_scan.proofs.MaskLemmas.{both_set, lane_below}
use Rattle.radius_scan.proofs.InBlock.{InBlock, marked_few, starts, skips, takes}
use Rattle.radius_scan.proofs.block.scan_block.Given.{Over}
use Rattle.radius_scan.proofs.block.scan_block.Goals as goal
use Rattle.radius_scan.proofs.block.scan_block.Goals.{In-Some}

-- the next lane is marked, so it has a slot
is_marked : (g : Over) (c : In-Some g) → is_set c.args.marks c.in-Some.i ≡ true
is_marked g c = (both_set c.args.marks c.near_lanes-near.result c.in-Some.i c.in-Some.ensures.set).0

has_slot : (g : Over) (c : In-Some g) → c.in-Some.i < length c.args.slots.now
has_slot g c = lane_below c.args.marks (length c.args.slots.now) c.in-Some.i c.requires.marks (is_marked g c)

codes_fit : (g : Over) (c : In-Some g) → AreCodes c.args.tables.now.g c.args.block.now
codes_fit g c = subst (λ (n : ℕ). AreCodes n c.args.block.now) c.requires.room c.near_lanes-near.ensures.codes

-- the lanes before it are scanned
comes_to : (g : Over) (c : In-Some g) → InBlock g.S.Shape.widths c.args.tables.now c.args.radius c.args.slots.now c.args.marks c.args.block.now c.args.pairs.now.items c.args.full.now c.in-Some.i c.loop-i.pairs.items c.loop-i.full
comes_to g c =
    skips _ _ _ _ _ _ _ _ c.args.small.now c.args.most c.requires.threshold (codes_fit g c) c.near_lanes-near.result c.near_lanes-near.ensures.near c.loop-i.at c.in-Some.i _ _
    c.in-Some.ensures.from (omega (arith, has_slot g c, c.requires.slots)) c.in-Some.ensures.first c.loop-i.invariant.inside

pub bounds-slots-i : goal.bounds-slots-i
bounds-slots-i g c = lane_below c.args.marks (length c.args.slots.now) c.in-Some.i c.requires.marks (both_set c.args.marks c.near_lanes-near.result c.in-Some.i c.in-Some.ensures.set).0

pub overflow_add-at : goal.overflow_add-at
overflow_add-at g c = omega (arith, has_slot g (goal.at.overflow_add-at g c).In-Some, c.requires.slots)

pub take_lane-requires-clause-codes : goal.take_lane-requires-clause-codes
take_lane-requires-clause-codes g c = codes_fit g (goal.at.take_lane-requires-clause-codes g c).In-Some

pub take_lane-requires-clause-lane : goal.take_lane-requires-clause-lane
take_lane-requires-clause-lane g c = omega (arith, has_slot g (goal.at.take_lane-requires-clause-lane g c).In-Some, c.requires.slots)

pub take_lane-requires-clause-pairs : goal.take_lane-requires-clause-pairs
take_lane-requires-clause-pairs g c =
    let ws = g.S.Shape.widths in
    let i = c.in-Some.i in
    let codes = c.args.block.now in
    let slots = c.args.slots.now in
    let marks = c.args.marks in
    let here = (goal.at.take_lane-requires-clause-pairs g c).In-Some in
    omega (
      arith,
      ((comes_to g here).scans 0).few,
      ap length (marked_set ws 0 slots marks codes i (is_marked g here)),
      length-append (marked_rows ws 0 slots marks codes i) (lane_row ws 0 slots codes i ∷ []),
      marked_le ws 0 slots marks codes (i + 1) 32 (omega (arith, has_slot g here, c.requires.slots)),
      c.requires.pairs 0,
      c.loop-i.invariant.capacity,
    )

pub take_lane-requires-clause-full : goal.take_lane-requires-clause-full
take_lane-requires-clause-full g c =
    let ws = g.S.Shape.widths in
    let here = (goal.at.take_lane-requires-clause-full g c).In-Some in
    omega (arith, ((comes_to g here).scans 0).risen, marked_few ws 0 c.args.slots.now c.args.marks c.args.block.now c.in-Some.i, has_slot g here, c.requires.slots, c.requires.full)

pub loop-i-init : goal.loop-i-init
loop-i-init g c = record { within = omega arith; inside = starts _ _ _ _ _ _ _ _; capacity = omega arith }

pub loop-i-preserved : goal.loop-i-preserved
loop-i-preserved g c =
    let here = (goal.at.loop-i-preserved g c).In-Some in
    record {
      within = omega (arith, has_slot g here, c.requires.slots);
      inside = takes _ _ _ _ _ _ _ _ c.args.small.now c.args.most c.requires.threshold (codes_fit g here) c.near_lanes-near.result c.near_lanes-near.ensures.near c.in-Some.i c.loop-i.pairs.items c.take_lane.new.pairs.items c.loop-i.full c.take_lane.new.full
          (omega (arith, has_slot g here, c.requires.slots)) c.in-Some.ensures.set (comes_to g here) c.take_lane.ensures.found c.take_lane.ensures.few c.take_lane.ensures.full;
      capacity = omega (arith, c.take_lane.ensures.capacity, c.loop-i.invariant.capacity);
    }

pub loop-i-smaller : goal.loop-i-smaller
loop-i-smaller g c = omega (arith, has_slot g (goal.at.loop-i-smaller g c).In-Some, c.requires.slots, c.in-Some.ensures.from)

pub returns-clause-scans : goal.returns-clause-scans
returns-clause-scans g c =
    let codes : AreCodes c.args.tables.now.g c.args.block.now = subst (λ (n : ℕ). AreCodes n c.args.block.now) c.requires.room c.near_lanes-near.ensures.codes in
    (skips _ _ _ _ _ _ _ _ c.args.small.now c.args.most c.requires.threshold codes c.near_lanes-near.result c.near_lanes-near.ensures.near c.loop-i.at 32 _ _
    c.loop-i.invariant.within (omega arith) (λ k from lt. c.in_default.ensures.none k from) c.loop-i.invariant.inside).scans
