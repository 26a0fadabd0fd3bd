-- A group of 32 slots, whose marked rows are its rows that are shown.
use Rattle.std.proofs.Common.{◌≡◌, ◌+◌, ◌*◌, List, ◌++◌, length, take, drop, sym, ap, subst, ◌∙◌, arith}
use Rattle.std.proofs.lemmas.List.{length-take, take_all}
use Rattle.book_model.specs.Rows.{Row}
use Rattle.book_model.specs.Bound.{Tables}
use Rattle.lane_kernels.specs.Sums.{AreTables}
use Rattle.cell_store.specs.State.{Kept, passing_at}
use Rattle.cell_store.specs.declared.Slot.{Slot}
use Rattle.prune_scan.specs.Blocks.{marked_rows, AreCodes}
use Rattle.prune_scan.specs.Marks.{AreMarks}
use Rattle.prune_scan.proofs.Passing.{group_lanes, marked_is_passing, passing-group}
use Rattle.residual_scan.specs.Cutting.{Goes}
use Rattle.residual_scan.proofs.Going.{goes_more}
use Rattle.residual_scan.proofs.InCell.{lanes_pick, block_codes}
use Rattle.residual_scan.proofs.cell.scan_groups.Goals as goal

pub bounds_of-bounds-requires-clause-parts : goal.bounds_of-bounds-requires-clause-parts
bounds_of-bounds-requires-clause-parts g c =
    let codes = block_codes g.S.Shape.widths c.args.cell.now.g (c.args.low.now.tables ++ c.args.high.now.tables) c.requires.tables.sizes c.block-block.result c.block-block.ensures.words in
    subst (λ n. AreTables g.S.Shape.widths n c.args.parts.now) (sym (codes.each 0 (omega arith))) c.requires.parts

pub scan_group-requires-clause-few : goal.scan_group-requires-clause-few
scan_group-requires-clause-few g c = omega (arith, c.requires.tables.g_is, c.requires.tables.sizes.few)

pub scan_group-requires-clause-codes : goal.scan_group-requires-clause-codes
scan_group-requires-clause-codes g c =
    subst (λ n. AreCodes n c.block-block.result) (sym c.requires.tables.g_is) (block_codes g.S.Shape.widths c.args.cell.now.g (c.args.low.now.tables ++ c.args.high.now.tables) c.requires.tables.sizes c.block-block.result c.block-block.ensures.words)

pub scan_group-requires-clause-picks : goal.scan_group-requires-clause-picks
scan_group-requires-clause-picks g c = lanes_pick g.S.Shape.widths c.args.cell.now.g (c.args.low.now.tables ++ c.args.high.now.tables) c.requires.tables.sizes c.block-block.result c.block-block.ensures.words

pub scan_group-requires-clause-some : goal.scan_group-requires-clause-some
scan_group-requires-clause-some g c = omega (arith, c.loop-n.invariant.sizes, c.requires.some)

pub scan_group-requires-clause-bounds : goal.scan_group-requires-clause-bounds
scan_group-requires-clause-bounds g c late =
    let ts : Tables = c.args.low.now.tables ++ c.args.high.now.tables in
    let codes = block_codes g.S.Shape.widths c.args.cell.now.g ts c.requires.tables.sizes c.block-block.result c.block-block.ensures.words in
    c.bounds_of-bounds.ensures.bounds late ts (c.requires.tables.sizes.count ∙ ap (λ n. n * length g.S.Shape.widths) (sym (codes.each 0 (omega arith)))) (c.requires.filled late)

pub loop-n-preserved : goal.loop-n-preserved
loop-n-preserved g c =
    let ws = g.S.Shape.widths in
    let ts : Tables = c.args.low.now.tables ++ c.args.high.now.tables in
    let cell = c.args.cell.now in
    let n = c.loop-n.n in
    let slots = c.slots-slots.result.now in
    let marks = c.marks_of-marks.result in
    let codes = c.block-block.result in
    let lanes = group_lanes ws cell.ranges cell.stamp cell.cell n cell.rows slots marks codes c.slots-slots.ensures.slots (subst (λ (l : List Slot). AreMarks cell.ranges cell.stamp l marks) (sym c.slots-slots.ensures.slots) c.marks_of-marks.ensures) c.block-block.ensures.codes c.kept.ensures.cell in
    let group : List Kept = take 32 (drop (32 * n) cell.rows) in
    let whole : take 32 group ≡ group = take_all 32 group (omega (arith, length-take 32 (drop (32 * n) cell.rows))) in
    let is : marked_rows ws cell.cell slots marks codes 32 ≡ passing_at cell.ranges cell.stamp group = marked_is_passing ws cell.ranges cell.stamp cell.cell slots marks codes group lanes 32 ∙ ap (passing_at cell.ranges cell.stamp) whole in
    let more : passing_at cell.ranges cell.stamp (take (32 * n) cell.rows) ++ passing_at cell.ranges cell.stamp group ≡ passing_at cell.ranges cell.stamp (take (32 * (n + 1)) cell.rows) =
    sym (passing-group cell.ranges cell.stamp (32 * n) 32 cell.rows) ∙ ap (λ m. passing_at cell.ranges cell.stamp (take m cell.rows)) (omega arith) in
    let goes = subst (λ (rows : List Row). Goes ts c.args.cut.now rows c.loop-n.best c.scan_group.new.best c.loop-n.meters.half_full c.scan_group.new.full) is (c.scan_group.ensures.goes cell.cell) in
    let inv = c.loop-n.invariant in
    record {
      goes = subst (λ (rows : List Row). Goes ts c.args.cut.now rows c.args.best.now c.scan_group.new.best c.args.meters.now.half_full c.scan_group.new.full) more
          (goes_more ts c.args.cut.now _ _ _ _ _ _ _ _ inv.goes goes);
      sizes = (c.scan_group.ensures.k ∙ inv.sizes.0, c.scan_group.ensures.room ∙ inv.sizes.1);
      full = omega (arith, inv.full, c.scan_group.ensures.risen);
      blocks = omega (arith, c.block-block.ensures.meter, inv.blocks);
      lanes = (omega (arith, c.bounds_of-bounds.ensures.lanes.0, inv.lanes.0), omega (arith, c.bounds_of-bounds.ensures.lanes.1, inv.lanes.1));
      pairs = inv.pairs;
      others = inv.others;
    }

pub returns-clause-goes : goal.returns-clause-goes
returns-clause-goes g c =
    let cell = c.args.cell.now in
    subst (λ (rows : List Kept). Goes (c.args.low.now.tables ++ c.args.high.now.tables) c.args.cut.now (passing_at cell.ranges cell.stamp rows) c.args.best.now c.loop-n.best c.args.meters.now.half_full c.loop-n.meters.half_full)
    (take_all (32 * c.loop-n.n) cell.rows (omega (arith, c.loop-n-test.false, c.div_ceil-groups.ensures, c.kept.ensures.rows, c.kept.ensures.few))) c.loop-n.invariant.goes

pub returns-clause-reads : goal.returns-clause-reads
returns-clause-reads g c = record {
  blocks = omega (arith, c.loop-n.invariant.blocks, c.loop-n.auto.n-end, c.div_ceil-groups.ensures, c.kept.ensures.rows, c.kept.ensures.few);
  lanes = omega (arith, c.loop-n.invariant.lanes.1, c.loop-n.auto.n-end, c.div_ceil-groups.ensures, c.kept.ensures.rows, c.kept.ensures.few);
  pairs = c.loop-n.invariant.pairs;
  few_blocks = omega (arith, c.loop-n.invariant.blocks, c.loop-n.auto.n-end, c.div_ceil-groups.ensures, c.kept.ensures.rows, c.kept.ensures.few);
  few_lanes = omega (arith, c.loop-n.invariant.lanes.1, c.loop-n.auto.n-end, c.div_ceil-groups.ensures, c.kept.ensures.rows, c.kept.ensures.few);
  reads_never_fall = (omega (arith, c.loop-n.invariant.blocks), c.loop-n.invariant.lanes.0);
}
