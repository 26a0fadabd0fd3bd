-- No row of the cell lies within a radius that is below the sum of the bases.
use Rattle.std.proofs.Common.{ℕ, sym, subst, refl, arith}
use Rattle.std.specs.List.{AllByRecursion}
use Rattle.book_model.specs.Rows.{Row}
use Rattle.shape_core.specs.Word.{IsCode}
use Rattle.cell_store.specs.Shown.{shown_in}
use Rattle.radius_scan.proofs.Lanes.{below_scans, is_below}
use Rattle.radius_scan.proofs.Counting.{cell_codes}
use Rattle.radius_scan.proofs.within.WithinScannerUnit.scan.Goals as goal

pub returns-in-None-clause-scans : goal.returns-in-None-clause-scans
returns-in-None-clause-scans g c =
    let ws = g.S.Shape.widths in
    let s = c.args.snapshot.now in
    let w = c.args.self.now in
    let ready = c.requires.ready in
    let codes = subst (λ (n : ℕ). AllByRecursion (λ (row : Row). IsCode ws n row.code) (shown_in c.args.cell s)) (sym ready.tables) (cell_codes s.ranges s.stamp c.args.cell s.store.kept ws s.store.g s.store.cells c.count.ensures.is.rows) in
    record {
      tables = refl;
      small = refl;
      reach = refl;
      scans = below_scans ws w.tables w.reach.radius (is_below ws w.tables w.small w.reach.radius w.reach.most ready.reach c.in-None.is) (shown_in c.args.cell s) codes w.pairs.items c.args.meters.now.full;
      capacity = omega arith;
      none = λ _. (refl, refl);
      others = (refl, refl);
    }
