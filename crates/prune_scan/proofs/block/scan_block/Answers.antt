use Rattle.std.proofs.Common.{◌≡◌, ℕ, ◌+◌, ◌<◌, true, [], ◌∷◌, length, sym, ap, subst, ◌∙◌, arith, length-append}
use Rattle.prune_scan.specs.LaneMasks.{is_set}
use Rattle.prune_scan.specs.Blocks.{lane_row, marked_rows, AreCodes}
use Rattle.prune_scan.proofs.Adding.{still_standing, marked_set, marked_le, codes_are}
use Rattle.prune_scan.proofs.MaskLemmas.{both_set, lane_below}
use Rattle.prune_scan.proofs.Skipping.{skips}
use Rattle.prune_scan.proofs.InBlock.{Parts, InBlock, with_rows, starts, scans_lane}
use Rattle.prune_scan.proofs.block.scan_block.Given.{Over}
use Rattle.prune_scan.proofs.block.scan_block.Goals as goal
use Rattle.prune_scan.proofs.block.scan_block.Goals.{In-Some, After-count_below}

-- the next lane is marked and near, and has a slot
is_taken : (g : Over) (c : In-Some g) → (is_set c.args.marks c.in-Some.i ≡ true) × (is_set c.loop-i.near.lanes c.in-Some.i ≡ true)
is_taken g c = both_set c.args.marks c.loop-i.near.lanes c.in-Some.i c.in-Some.ensures.set

has_slot : (g : Over) (c : In-Some g) → c.in-Some.i < length c.args.slots.now
has_slot g c = lane_below c.args.marks (length c.args.slots.now) c.in-Some.i c.requires.marks (is_taken g c).0

-- the lanes before it are scanned
comes_to : (g : Over) (c : After-count_below g) → InBlock g.S.Shape.widths c.args.tables.now c.args.slots.now c.args.marks c.args.block.now c.args.state.now c.args.small.now c.args.best.now c.args.full.now c.args.calls.now c.in-Some.i
    (with_rows (record { state = c.loop-i.state; small = c.loop-i.small; best = c.loop-i.best; full = c.loop-i.full; calls = c.loop-i.calls; limit = c.loop-i.limit; near = c.loop-i.near }) (c.args.state.now.rows + c.count_below.result))
comes_to g c =
    let lt = lane_below c.args.marks (length c.args.slots.now) c.in-Some.i c.requires.marks (both_set c.args.marks c.loop-i.near.lanes c.in-Some.i c.in-Some.ensures.set).0 in
    skips _ _ _ _ _ _ _ _ _ _ (codes_are _ _ _ c.words-words.ensures.codes c.words-words.ensures.count c.requires.words) c.requires.standing c.loop-i.at c.in-Some.i _ _
    c.in-Some.ensures.from (omega (arith, lt, c.requires.slots)) c.loop-i.invariant.inside c.in-Some.ensures.first (omega (arith, c.count_below.ensures g.S.Shape.widths 0 c.args.slots.now c.args.block.now))

pub near_of-near-requires-clause-codes : goal.near_of-near-requires-clause-codes
near_of-near-requires-clause-codes g c =
    subst (λ (n : ℕ). AreCodes n c.args.block.now) (sym c.requires.room) (codes_are _ _ _ c.words-words.ensures.codes c.words-words.ensures.count c.requires.words)

pub bounds-slots-i : goal.bounds-slots-i
bounds-slots-i g c = has_slot g (goal.at.bounds-slots-i g c).In-Some

pub count_below-requires : goal.count_below-requires
count_below-requires g c = omega (arith, has_slot g (goal.at.count_below-requires g c).In-Some, c.requires.slots)

pub overflow_add-state : goal.overflow_add-state
overflow_add-state g c =
    let lt = has_slot g (goal.at.overflow_add-state g c).In-Some in
    omega (arith, lt, c.requires.slots, c.count_below.ensures g.S.Shape.widths 0 c.args.slots.now c.args.block.now, marked_le g.S.Shape.widths 0 c.args.slots.now c.args.marks c.args.block.now c.in-Some.i 32 (omega (arith, lt, c.requires.slots)), c.requires.rows 0)

pub overflow_add-state-2 : goal.overflow_add-state-2
overflow_add-state-2 g c = omega (arith, c.count_below-2.ensures g.S.Shape.widths 0 c.args.slots.now c.args.block.now, c.requires.rows 0)

pub overflow_add-at : goal.overflow_add-at
overflow_add-at g c = omega (arith, has_slot g (goal.at.overflow_add-at g c).In-Some, c.requires.slots)

pub take_lane-requires-clause-standing : goal.take_lane-requires-clause-standing
take_lane-requires-clause-standing g c = still_standing _ _ _ _ _ _ _ _ _ c.requires.standing ((comes_to g (goal.at.take_lane-requires-clause-standing g c).After-count_below).adds 0)

pub take_lane-requires-clause-codes : goal.take_lane-requires-clause-codes
take_lane-requires-clause-codes g c = codes_are _ _ _ c.words-words.ensures.codes c.words-words.ensures.count c.requires.words

pub take_lane-requires-clause-room : goal.take_lane-requires-clause-room
take_lane-requires-clause-room g c = ((comes_to g (goal.at.take_lane-requires-clause-room g c).After-count_below).adds 0).sizes.0 ∙ c.requires.room

pub take_lane-requires-clause-lane : goal.take_lane-requires-clause-lane
take_lane-requires-clause-lane g c = omega (arith, has_slot g (goal.at.take_lane-requires-clause-lane g c).In-Some, c.requires.slots)

pub take_lane-requires-clause-rows : goal.take_lane-requires-clause-rows
take_lane-requires-clause-rows g c =
    let ws = g.S.Shape.widths in
    let i = c.in-Some.i in
    let codes = c.args.block.now in
    let slots = c.args.slots.now in
    let marks = c.args.marks in
    let here = (goal.at.take_lane-requires-clause-rows g c).In-Some in
    let lt = has_slot g here in
    omega (
      arith,
      c.count_below.ensures ws 0 slots codes,
      ap length (marked_set ws 0 slots marks codes i (is_taken g here).0),
      length-append (marked_rows ws 0 slots marks codes i) (lane_row ws 0 slots codes i ∷ []),
      marked_le ws 0 slots marks codes (i + 1) 32 (omega (arith, lt, c.requires.slots)),
      c.requires.rows 0,
    )

pub take_lane-requires-clause-full : goal.take_lane-requires-clause-full
take_lane-requires-clause-full g c =
    let here = goal.at.take_lane-requires-clause-full g c in
    omega (arith, (comes_to g here.After-count_below).risen, has_slot g here.In-Some, c.requires.slots)

pub take_lane-requires-clause-limit : goal.take_lane-requires-clause-limit
take_lane-requires-clause-limit g c = (comes_to g (goal.at.take_lane-requires-clause-limit g c).After-count_below).limited

pub take_lane-requires-clause-near : goal.take_lane-requires-clause-near
take_lane-requires-clause-near g c = (comes_to g (goal.at.take_lane-requires-clause-near g c).After-count_below).guarded

pub take_lane-requires-clause-set : goal.take_lane-requires-clause-set
take_lane-requires-clause-set g c = (is_taken g (goal.at.take_lane-requires-clause-set g c).In-Some).1

pub loop-i-init : goal.loop-i-init
loop-i-init g c = record { within = omega arith; inside = starts _ _ _ _ _ _ _ _ _ _ _ _ _ c.requires.limit c.near_of-near.ensures.near c.near_of-near.ensures.calls c.near_of-near.ensures.none }

pub loop-i-preserved : goal.loop-i-preserved
loop-i-preserved g c =
    let here = goal.at.loop-i-preserved g c in
    let next : Parts = record { state = c.take_lane.new.state; small = c.take_lane.new.small; best = c.take_lane.new.best; full = c.take_lane.new.full; calls = c.take_lane.new.calls; limit = c.take_lane.new.limit; near = c.take_lane.new.near } in
    record {
      within = omega (arith, has_slot g here.In-Some, c.requires.slots);
      inside = scans_lane _ _ _ _ _ _ _ _ _ _ c.in-Some.i _ next (comes_to g here.After-count_below) (is_taken g here.In-Some).0 c.take_lane.ensures.adds c.take_lane.ensures.full c.take_lane.ensures.risen c.take_lane.ensures.limit c.take_lane.ensures.near c.take_lane.ensures.calls c.take_lane.ensures.open_before c.take_lane.ensures.none;
    }

pub loop-i-smaller : goal.loop-i-smaller
loop-i-smaller g c = omega (arith, has_slot g (goal.at.loop-i-smaller g c).In-Some, c.requires.slots, c.in-Some.ensures.from)

pub returns : goal.returns
returns g c =
    let done = skips _ _ _ _ _ _ _ _ _ _ (codes_are _ _ _ c.words-words.ensures.codes c.words-words.ensures.count c.requires.words) c.requires.standing c.loop-i.at 32 _ _ c.loop-i.invariant.within (omega arith)
    c.loop-i.invariant.inside (λ k from lt. c.in_default.ensures.none k from) (omega (arith, c.count_below-2.ensures g.S.Shape.widths 0 c.args.slots.now c.args.block.now)) in
    record { adds = done.adds; full = done.counts; calls = done.called; limit = done.limited }
