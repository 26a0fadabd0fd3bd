use Rattle.std.proofs.Common.{◌∙◌, List, length, arith}
use Rattle.book_model.specs.Rows.{Row}
use Rattle.book_model.proofs.Fullness.{full_after-le}
use Rattle.cell_store.specs.Shown.{shown_in}
use Rattle.prune_scan.proofs.Adding.{still_standing, rows_counted}
use Rattle.query_engine.proofs.pruned.PrunedScannerUnit.scan.Goals as goal

pub returns-clause-ready : goal.returns-clause-ready
returns-clause-ready g c n more =
    let rows : List Row = shown_in c.args.cell c.args.snapshot.now in
    let ready = c.requires.ready in
    let st = ready.standing in
    let adds = c.scan_cell.ensures.adds in
    record {
      tables = ready.tables;
      small = adds.sizes.0 ∙ ready.small;
      standing = still_standing _ _ _ _ _ _ _ _ _ st adds;
      room = omega (arith, rows_counted _ _ _ _ _ _ _ _ _ st adds, more.room);
      full = omega (arith, c.scan_cell.ensures.full st.book st.query st.seen st.stands, full_after-le st.book st.query c.args.self.now.best.k st.seen rows, more.full);
    }
