-- The rows that a cell keeps have codes.
use Rattle.std.proofs.Common.{◌++◌, length, sym, ap, subst}
use Rattle.std.specs.Prelude.{◌==◌}
use Rattle.std.specs.List.{AllByRecursion}
use Rattle.book_model.proofs.AllLemmas.{all_weaken, all_filter}
use Rattle.shape_core.specs.Word.{IsCode}
use Rattle.cell_store.specs.State.{Kept, passing_at, kept_in}
use Rattle.cell_store.specs.Shown.{CellShown, shown_in}
use Rattle.cell_store.specs.Held.{IsRow}
use Rattle.residual_scan.proofs.InCell.{scans_none}
use Rattle.residual_scan.proofs.cell.scan_cell.Goals as goal

pub returns-in-None-clause-scans : goal.returns-in-None-clause-scans
returns-in-None-clause-scans g c =
    let s = c.args.snapshot.now in
    scans_none (c.args.low.now.tables ++ c.args.high.now.tables) (shown_in c.args.cell s) c.args.best.now c.args.meters.now.half_full
    (ap (λ ks. length (passing_at s.ranges s.stamp ks)) c.in-None.ensures.rows)

pub scan_shown-requires-clause-codes : goal.scan_shown-requires-clause-codes
scan_shown-requires-clause-codes g c =
    let store = c.args.snapshot.now.store in
    let ws = g.S.Shape.widths in
    subst (λ (r : CellShown). AllByRecursion (λ (k : Kept). IsCode ws r.g k.row.code) r.rows) (sym c.in-Some.ensures.rows)
    (all_weaken (λ (k : Kept). IsCode ws store.g k.row.code) (λ (k : Kept). IsRow ws store.g store.cells k.row) (kept_in c.args.cell store.kept) (λ k is. is.code)
    (all_filter (λ (k : Kept). IsRow ws store.g store.cells k.row) (λ (k : Kept). k.row.cell == c.args.cell) store.kept c.requires.is.rows))
