use Rattle.std.proofs.Common.{◌≡◌, ◌+◌, ◌*◌, List, ◌++◌, length, take, drop, sym, ap, subst, ◌∙◌, arith, length-append}
use Rattle.std.proofs.lemmas.List.{length-map, length-take, take_all}
use Rattle.book_model.specs.Rows.{Row}
use Rattle.book_model.proofs.Fullness.{full_after-le}
use Rattle.cell_store.specs.State.{Kept, passing_at}
use Rattle.cell_store.specs.Blocks.{slot_of}
use Rattle.prune_scan.specs.Standing.{Adds, Counts}
use Rattle.cell_store.specs.declared.Slot.{Slot}
use Rattle.prune_scan.specs.Blocks.{marked_rows}
use Rattle.prune_scan.specs.Marks.{AreMarks}
use Rattle.prune_scan.proofs.Adding.{adds_more, counts_more, rows_counted}
use Rattle.prune_scan.proofs.Passing.{group_lanes, marked_is_passing, marked_count, passing-group, passing-front}
use Rattle.prune_scan.proofs.cell.scan_shown.Goals as goal

pub scan_block-requires-clause-rows : goal.scan_block-requires-clause-rows
scan_block-requires-clause-rows g c cell =
    let ws = g.S.Shape.widths in
    let view = c.args.cell.now in
    let n = c.loop-n.n in
    let ranges = c.args.cell.now.ranges in
    let slots = c.slots-slots.result.now in
    let marks = c.marks_of-marks.result in
    let codes = c.block-block.result in
    let lanes = group_lanes ws ranges c.args.cell.now.stamp view.cell n view.rows slots marks codes c.slots-slots.ensures.slots (subst (λ (l : List Slot). AreMarks ranges c.args.cell.now.stamp l marks) (sym c.slots-slots.ensures.slots) c.marks_of-marks.ensures) c.block-block.ensures.codes c.kept.ensures.cell in
    let group : List Kept = take 32 (drop (32 * n) view.rows) in
    let is = marked_is_passing ws ranges c.args.cell.now.stamp view.cell slots marks codes group lanes 32 in
    omega (
      arith,
      marked_count ws cell view.cell slots marks codes 32,
      ap length is,
      passing-front ranges c.args.cell.now.stamp 32 group,
      rows_counted _ _ _ _ _ _ _ _ _ c.requires.standing c.loop-n.invariant.adds,
      ap length (passing-group ranges c.args.cell.now.stamp (32 * n) 32 view.rows),
      length-append (passing_at ranges c.args.cell.now.stamp (take (32 * n) view.rows)) (passing_at ranges c.args.cell.now.stamp group),
      passing-front ranges c.args.cell.now.stamp (32 * n + 32) view.rows,
      c.requires.rows,
    )

pub scan_block-requires-clause-full : goal.scan_block-requires-clause-full
scan_block-requires-clause-full g c =
    let st = c.requires.standing in
    omega (
      arith,
      c.loop-n.invariant.counts st.book st.query st.seen st.stands,
      full_after-le st.book st.query c.args.best.now.k st.seen (passing_at c.args.cell.now.ranges c.args.cell.now.stamp (take (32 * c.loop-n.n) c.args.cell.now.rows)),
      passing-front c.args.cell.now.ranges c.args.cell.now.stamp (32 * c.loop-n.n) c.args.cell.now.rows,
      c.requires.rows,
      c.requires.meters.full,
    )

pub loop-n-preserved : goal.loop-n-preserved
loop-n-preserved g c =
    let ws = g.S.Shape.widths in
    let view = c.args.cell.now in
    let n = c.loop-n.n in
    let ranges = c.args.cell.now.ranges in
    let slots = c.slots-slots.result.now in
    let marks = c.marks_of-marks.result in
    let codes = c.block-block.result in
    let lanes = group_lanes ws ranges c.args.cell.now.stamp view.cell n view.rows slots marks codes c.slots-slots.ensures.slots (subst (λ (l : List Slot). AreMarks ranges c.args.cell.now.stamp l marks) (sym c.slots-slots.ensures.slots) c.marks_of-marks.ensures) c.block-block.ensures.codes c.kept.ensures.cell in
    let group : List Kept = take 32 (drop (32 * n) view.rows) in
    let whole : take 32 group ≡ group = take_all 32 group (omega (arith, length-take 32 (drop (32 * n) view.rows))) in
    let is : marked_rows ws view.cell slots marks codes 32 ≡ passing_at ranges c.args.cell.now.stamp group = marked_is_passing ws ranges c.args.cell.now.stamp view.cell slots marks codes group lanes 32 ∙ ap (passing_at ranges c.args.cell.now.stamp) whole in
    let more : passing_at ranges c.args.cell.now.stamp (take (32 * n) view.rows) ++ passing_at ranges c.args.cell.now.stamp group ≡ passing_at ranges c.args.cell.now.stamp (take (32 * (n + 1)) view.rows) =
    sym (passing-group ranges c.args.cell.now.stamp (32 * n) 32 view.rows) ∙ ap (λ m. passing_at ranges c.args.cell.now.stamp (take m view.rows)) (omega arith) in
    let adds = subst (λ (rows : List Row). Adds ws c.args.tables.now rows c.loop-n.state c.scan_block.new.state c.loop-n.small c.scan_block.new.small c.loop-n.best c.scan_block.new.best) is (c.scan_block.ensures.adds view.cell) in
    let counts = subst (λ (rows : List Row). Counts ws c.args.tables.now rows c.loop-n.state c.loop-n.small c.loop-n.best c.loop-n.meters.full c.scan_block.new.full) is (c.scan_block.ensures.full view.cell) in
    record {
      adds = subst (λ (rows : List Row). Adds ws c.args.tables.now rows c.args.state.now c.scan_block.new.state c.args.small.now c.scan_block.new.small c.args.best.now c.scan_block.new.best) more
          (adds_more _ _ _ _ _ _ _ _ _ _ _ _ _ c.loop-n.invariant.adds adds);
      counts = subst (λ (rows : List Row). Counts ws c.args.tables.now rows c.args.state.now c.args.small.now c.args.best.now c.args.meters.now.full c.scan_block.new.full) more
          (counts_more _ _ _ _ _ _ _ _ _ _ _ _ _ c.loop-n.invariant.adds c.loop-n.invariant.counts counts);
      limit = c.scan_block.ensures.limit;
      blocks = omega (arith, c.block-block.ensures.meter, c.loop-n.invariant.blocks);
      pairs = c.loop-n.invariant.pairs;
      lanes = (omega (arith, c.scan_block.ensures.calls.0, c.loop-n.invariant.lanes.0), omega (arith, c.scan_block.ensures.calls.1, c.loop-n.invariant.lanes.1));
      others = c.loop-n.invariant.others;
    }

pub returns-clause-full : goal.returns-clause-full
returns-clause-full g c =
    let cell = c.args.cell.now in
    subst (λ (rows : List Kept). Counts g.S.Shape.widths c.args.tables.now (passing_at cell.ranges cell.stamp rows) c.args.state.now c.args.small.now c.args.best.now c.args.meters.now.full c.loop-n.meters.full)
    (take_all (32 * c.loop-n.n) cell.rows (omega (arith, c.loop-n-test.false, c.div_ceil-groups.ensures, c.kept.ensures.rows, c.kept.ensures.few))) c.loop-n.invariant.counts

pub returns-clause-reads : goal.returns-clause-reads
returns-clause-reads g c = record {
  blocks = omega (arith, c.loop-n.invariant.blocks, c.loop-n.auto.n-end, c.div_ceil-groups.ensures, c.kept.ensures.rows, c.kept.ensures.few);
  lanes = omega (arith, c.loop-n.invariant.lanes.1, c.loop-n.auto.n-end, c.div_ceil-groups.ensures, c.kept.ensures.rows, c.kept.ensures.few);
  pairs = c.loop-n.invariant.pairs;
  few_blocks = omega (arith, c.loop-n.invariant.blocks, c.loop-n.auto.n-end, c.div_ceil-groups.ensures, c.kept.ensures.rows, c.kept.ensures.few);
  few_lanes = omega (arith, c.loop-n.invariant.lanes.1, c.loop-n.auto.n-end, c.div_ceil-groups.ensures, c.kept.ensures.rows, c.kept.ensures.few);
  reads_never_fall = (omega (arith, c.loop-n.invariant.blocks), c.loop-n.invariant.lanes.0);
}
