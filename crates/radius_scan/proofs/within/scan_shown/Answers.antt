-- A group of 32 slots, whose marked rows are its rows that pass.
use Rattle.std.proofs.Common.{◌≡◌, ◌+◌, ◌*◌, ◌≤◌, ℕ, List, ◌++◌, length, take, drop, refl, sym, ap, subst, ◌∙◌, arith, length-append}
use Rattle.std.proofs.lemmas.List.{length-take, take_all}
use Rattle.book_model.specs.Rows.{Row}
use Rattle.cell_store.specs.State.{Kept, passing_at}
use Rattle.cell_store.specs.declared.Slot.{Slot}
use Rattle.prune_scan.specs.Marks.{AreMarks}
use Rattle.prune_scan.specs.Blocks.{marked_rows}
use Rattle.prune_scan.proofs.Passing.{group_lanes, marked_is_passing, marked_count, passing-group, passing-front}
use Rattle.radius_scan.specs.Found.{Scans}
use Rattle.radius_scan.specs.Scanning.{scans_none, scans_more}
use Rattle.query_engine.proofs.Passing.{passing-le}
use Rattle.radius_scan.proofs.within.scan_shown.Given.{Over}
use Rattle.radius_scan.proofs.within.scan_shown.Goals as goal
use Rattle.radius_scan.proofs.within.scan_shown.Goals.{After-block-block}

-- the marked rows of the group are its rows that pass
marked : (g : Over) (c : After-block-block g) → marked_rows g.S.Shape.widths c.args.cell.now.cell c.slots-slots.result.now c.marks_of-marks.result c.block-block.result 32
    ≡ passing_at c.args.cell.now.ranges c.args.cell.now.stamp (take 32 (drop (32 * c.loop-n.n) c.args.cell.now.rows))
marked g c =
    let ws = g.S.Shape.widths in
    let view = c.args.cell.now in
    let n = c.loop-n.n in
    let ranges = c.args.cell.now.ranges in
    let slots = c.slots-slots.result.now in
    let marks = c.marks_of-marks.result in
    let codes = c.block-block.result in
    let lanes = group_lanes ws ranges c.args.cell.now.stamp view.cell n view.rows slots marks codes c.slots-slots.ensures.slots (subst (λ (l : List Slot). AreMarks ranges c.args.cell.now.stamp l marks) (sym c.slots-slots.ensures.slots) c.marks_of-marks.ensures) c.block-block.ensures.codes c.kept.ensures.cell in
    let group : List Kept = take 32 (drop (32 * n) view.rows) in
    marked_is_passing ws ranges c.args.cell.now.stamp view.cell slots marks codes group lanes 32
    ∙ ap (passing_at ranges c.args.cell.now.stamp) (take_all 32 group (omega (arith, length-take 32 (drop (32 * n) view.rows))))

-- and come behind those of the groups before it
joined : (g : Over) (c : After-block-block g) → passing_at c.args.cell.now.ranges c.args.cell.now.stamp (take (32 * c.loop-n.n) c.args.cell.now.rows) ++ passing_at c.args.cell.now.ranges c.args.cell.now.stamp (take 32 (drop (32 * c.loop-n.n) c.args.cell.now.rows))
    ≡ passing_at c.args.cell.now.ranges c.args.cell.now.stamp (take (32 * (c.loop-n.n + 1)) c.args.cell.now.rows)
joined g c =
    let rows = c.args.cell.now.rows in
    let ranges = c.args.cell.now.ranges in
    sym (passing-group ranges c.args.cell.now.stamp (32 * c.loop-n.n) 32 rows) ∙ ap (λ m. passing_at ranges c.args.cell.now.stamp (take m rows)) (omega arith)

-- together they are no more than all
fits : (g : Over) (c : After-block-block g) → (cell : ℕ) → length (passing_at c.args.cell.now.ranges c.args.cell.now.stamp (take (32 * c.loop-n.n) c.args.cell.now.rows)) + length (marked_rows g.S.Shape.widths cell c.slots-slots.result.now c.marks_of-marks.result c.block-block.result 32)
    ≤ length (passing_at c.args.cell.now.ranges c.args.cell.now.stamp c.args.cell.now.rows)
fits g c cell =
    let rows = c.args.cell.now.rows in
    let ranges = c.args.cell.now.ranges in
    omega (
      arith,
      marked_count g.S.Shape.widths cell c.args.cell.now.cell c.slots-slots.result.now c.marks_of-marks.result c.block-block.result 32,
      ap length (marked g c),
      ap length (joined g c),
      length-append (passing_at ranges c.args.cell.now.stamp (take (32 * c.loop-n.n) rows)) (passing_at ranges c.args.cell.now.stamp (take 32 (drop (32 * c.loop-n.n) rows))),
      passing-front ranges c.args.cell.now.stamp (32 * (c.loop-n.n + 1)) rows,
    )

pub scan_block-requires-clause-pairs : goal.scan_block-requires-clause-pairs
scan_block-requires-clause-pairs g c cell =
    omega (arith, fits g (goal.at.scan_block-requires-clause-pairs g c).After-block-block cell, c.loop-n.invariant.scans.few, c.loop-n.invariant.capacity, c.requires.room)

pub scan_block-requires-clause-full : goal.scan_block-requires-clause-full
scan_block-requires-clause-full g c =
    let rows = c.args.cell.now.rows in
    omega (arith, c.loop-n.invariant.scans.risen, passing-front c.args.cell.now.ranges c.args.cell.now.stamp (32 * c.loop-n.n) rows, passing-le c.args.cell.now.ranges c.args.cell.now.stamp rows, c.kept.ensures.rows, c.kept.ensures.few, c.requires.meters.full)

pub overflow_add-rows : goal.overflow_add-rows
overflow_add-rows g c =
    let rows = c.args.cell.now.rows in
    omega (
      arith,
      fits g (goal.at.overflow_add-rows g c).After-block-block 0,
      c.loop-n.invariant.rows,
      c.count_below-rows.ensures g.S.Shape.widths 0 c.slots-slots.result.now c.block-block.result,
      passing-le c.args.cell.now.ranges c.args.cell.now.stamp rows,
      c.kept.ensures.rows,
      c.kept.ensures.few,
    )

pub loop-n-init : goal.loop-n-init
loop-n-init g c = record { rows = omega arith; scans = scans_none _ _ _ _ _; capacity = omega arith; blocks = omega arith; lanes = omega arith; sums = omega arith; others = (refl, refl) }

pub loop-n-preserved : goal.loop-n-preserved
loop-n-preserved g c =
    let ws = g.S.Shape.widths in
    let view = c.args.cell.now in
    let ranges = c.args.cell.now.ranges in
    let n = c.loop-n.n in
    let here = (goal.at.loop-n-preserved g c).After-block-block in
    let more = joined g here in
    record {
      rows = omega (
        arith,
        c.loop-n.invariant.rows,
        c.count_below-rows.ensures ws view.cell c.slots-slots.result.now c.block-block.result,
        ap length (marked g here),
        ap length more,
        length-append (passing_at ranges c.args.cell.now.stamp (take (32 * n) view.rows)) (passing_at ranges c.args.cell.now.stamp (take 32 (drop (32 * n) view.rows))),
      );
      scans = subst (λ (rows : List Row). Scans ws c.args.tables.now c.args.radius rows c.args.pairs.now.items c.scan_block.new.pairs.items c.args.meters.now.full c.scan_block.new.full) more
          (scans_more ws c.args.tables.now c.args.radius (passing_at ranges c.args.cell.now.stamp (take (32 * n) view.rows)) (passing_at ranges c.args.cell.now.stamp (take 32 (drop (32 * n) view.rows))) c.args.pairs.now.items c.loop-n.pairs.items c.scan_block.new.pairs.items c.args.meters.now.full c.loop-n.meters.full c.scan_block.new.full c.loop-n.invariant.scans
          (subst (λ (rows : List Row). Scans ws c.args.tables.now c.args.radius rows c.loop-n.pairs.items c.scan_block.new.pairs.items c.loop-n.meters.full c.scan_block.new.full) (marked g here) (c.scan_block.ensures.scans view.cell)));
      capacity = omega (arith, c.scan_block.ensures.capacity, c.loop-n.invariant.capacity);
      blocks = omega (arith, c.block-block.ensures.meter, c.loop-n.invariant.blocks);
      lanes = omega (arith, c.scan_block.ensures.calls, c.loop-n.invariant.lanes);
      sums = c.loop-n.invariant.sums;
      others = c.loop-n.invariant.others;
    }
