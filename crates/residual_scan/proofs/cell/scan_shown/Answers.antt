use Rattle.std.proofs.Common.{◌++◌, sym, subst}
use Rattle.book_model.specs.Bound.{Tables}
use Rattle.cell_store.specs.Shown.{shown_rows}
use Rattle.residual_scan.specs.Cells.{AreOfCell, IsSmallRoom}
use Rattle.residual_scan.proofs.InCell.{scans_of, scans_far, passing_pick}
use Rattle.residual_scan.proofs.cell.scan_shown.Goals as goal

pub returns-in-None-clause-scans : goal.returns-in-None-clause-scans
returns-in-None-clause-scans g c =
    let cell = c.args.cell.now in
    let ts : Tables = c.args.low.now.tables ++ c.args.high.now.tables in
    scans_far ts (shown_rows cell) c.args.best.now c.args.meters.now.half_full c.requires.some c.in-None.ensures.far
    (passing_pick g.S.Shape.widths cell.g ts c.requires.tables.sizes cell.ranges cell.stamp cell.rows c.requires.codes)

pub fill_late-requires-clause-tables : goal.fill_late-requires-clause-tables
fill_late-requires-clause-tables g c =
    subst (λ n. AreOfCell g.S.Shape.widths n c.args.low.now c.args.high.now) (sym c.requires.tables.g_is) c.requires.tables

pub fill_late-requires-clause-parts : goal.fill_late-requires-clause-parts
fill_late-requires-clause-parts g c = subst (λ n. IsSmallRoom g.S.Shape.widths n c.args.parts.now) (sym c.requires.tables.g_is) c.requires.parts

pub scan_groups-requires-clause-parts : goal.scan_groups-requires-clause-parts
scan_groups-requires-clause-parts g c =
    let room = subst (λ n. IsSmallRoom g.S.Shape.widths n c.fill_late.new.parts) c.requires.tables.g_is c.fill_late.ensures.parts in
    room.tables

pub returns-clause-parts : goal.returns-clause-parts
returns-clause-parts g c = subst (λ n. IsSmallRoom g.S.Shape.widths n c.fill_late.new.parts) c.requires.tables.g_is c.fill_late.ensures.parts

pub returns-clause-scans : goal.returns-clause-scans
returns-clause-scans g c =
    scans_of (c.args.low.now.tables ++ c.args.high.now.tables) c.in-Some.cut (shown_rows c.args.cell.now) c.args.best.now c.scan_groups.new.best c.args.meters.now.half_full c.scan_groups.new.meters.half_full
    c.in-Some.ensures.cut c.scan_groups.ensures.goes c.scan_groups.ensures.sizes.0 c.scan_groups.ensures.sizes.1
