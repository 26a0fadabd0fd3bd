-- A cell with a row is one of the book, and its keys are used; one without costs nothing.
use Rattle.std.proofs.Common.{◌≡◌, ◌≢◌, ℕ, ◌+◌, ◌-◌, ◌*◌, ◌/◌, ◌%◌, ◌<◌, ◌++◌, List, length, get_or, refl, sym, ap, subst, ◌∙◌, arith}
use Rattle.std.specs.Vec.{with_items}
use Rattle.std.specs.List.{AllByRecursion}
use Rattle.std.proofs.lemmas.List.{with_items_is}
use Rattle.book_model.specs.Rows.{Row}
use Rattle.cell_store.specs.Shown.{shown_in}
use Rattle.lane_kernels.specs.Table.{Table}
use Rattle.best_k.specs.Least.{least}
use Rattle.half_tables.specs.Residual.{residual_tables}
use Rattle.half_tables.specs.Half.{HalfSeen, IsHalfOf, IsRoomOf}
use Rattle.residual_scan.specs.Near.{Scans, pairs_in}
use Rattle.residual_scan.specs.Cells.{IsSmallRoom}
use Rattle.residual_scan.specs.Misses.{misses, kept_after, cell_keys, keys_here}
use Rattle.residual_scan.specs.Caching.{AreSlots, Stands, no_half}
use Rattle.residual_scan.proofs.CellHalves.{are_of_cell, tables_are}
use Rattle.residual_scan.proofs.InCell.{near_count-le}
use Rattle.residual_scan.proofs.Tables.{misses-le}
use Rattle.residual_scan.proofs.Visits.{keys_some, keys_few, cell_below, stands_as, same_default}
use Rattle.residual_scan.proofs.halved.HalvedScannerAsking.scan.Goals as goal

pub ready-at-requires-clause-cell : goal.ready-at-requires-clause-cell
ready-at-requires-clause-cell g c =
    let s = c.args.snapshot.now in
    subst (λ n. c.args.cell < n) c.requires.ready.cells
    (cell_below g.S.Shape.widths s.store.g s.store.cells c.args.cell s.ranges s.stamp s.store.kept c.count-rows.ensures.is.rows (λ none. c.if-rows-eq0.false (c.count-rows.ensures.count ∙ none)))

pub scan_cell-requires-clause-tables : goal.scan_cell-requires-clause-tables
scan_cell-requires-clause-tables g c =
    let ws = g.S.Shape.widths in
    let s = c.args.snapshot.now in
    let self = c.args.self.now in
    let book = c.args.asked.now.book.now in
    let v : List ℕ = c.args.asked.now.query.now in
    let is = c.requires.ready in
    let lent = c.ready-at.new.tables in
    let there = c.ready-at.ensures.there in
    let rows : List Row = shown_in c.args.cell s in
    let some : length rows ≢ 0 = λ none. c.if-rows-eq0.false (c.count-rows.ensures.count ∙ none) in
    let within : c.args.cell < book.k0 * book.k1 = subst (λ n. c.args.cell < n) is.cells (cell_below ws s.store.g s.store.cells c.args.cell s.ranges s.stamp s.store.kept c.count-rows.ensures.is.rows some) in
    let tables : (with_items self.tables lent).items ≡ lent = with_items_is self.tables lent (c.ready-at.auto.tables ∙ c.deref_mut.ensures.len) in
    let low : IsHalfOf book v 0 (c.args.cell / book.k1) c.index.result.now =
    subst (λ seen. IsHalfOf book v 0 (c.args.cell / book.k1) seen)
    (sym (c.index.ensures ∙ ap (λ (xs : List HalfSeen). get_or xs c.ready-at.result.low c.index.result.now) tables ∙ same_default lent c.ready-at.result.low c.index.result.now no_half there.0)) c.ready-at.ensures.low in
    let high : IsHalfOf book v 1 (c.args.cell % book.k1) c.index-2.result.now =
    subst (λ seen. IsHalfOf book v 1 (c.args.cell % book.k1) seen)
    (sym (c.index-2.ensures ∙ ap (λ (xs : List HalfSeen). get_or xs c.ready-at.result.high c.index-2.result.now) tables ∙ same_default lent c.ready-at.result.high c.index-2.result.now no_half there.1)) c.ready-at.ensures.high in
    are_of_cell book is.residual v c.args.cell within c.index.result.now c.index-2.result.now low high ws is.shape s.store.g is.g

pub returns-clause-scans : goal.returns-clause-scans
returns-clause-scans g c =
    let ws = g.S.Shape.widths in
    let s = c.args.snapshot.now in
    let self = c.args.self.now in
    let book = c.args.asked.now.book.now in
    let v : List ℕ = c.args.asked.now.query.now in
    let is = c.requires.ready in
    let lent = c.ready-at.new.tables in
    let there = c.ready-at.ensures.there in
    let rows : List Row = shown_in c.args.cell s in
    let some : length rows ≢ 0 = λ none. c.if-rows-eq0.false (c.count-rows.ensures.count ∙ none) in
    let within : c.args.cell < book.k0 * book.k1 = subst (λ n. c.args.cell < n) is.cells (cell_below ws s.store.g s.store.cells c.args.cell s.ranges s.stamp s.store.kept c.count-rows.ensures.is.rows some) in
    let tables : (with_items self.tables lent).items ≡ lent = with_items_is self.tables lent (c.ready-at.auto.tables ∙ c.deref_mut.ensures.len) in
    let low : IsHalfOf book v 0 (c.args.cell / book.k1) c.index.result.now =
    subst (λ seen. IsHalfOf book v 0 (c.args.cell / book.k1) seen)
    (sym (c.index.ensures ∙ ap (λ (xs : List HalfSeen). get_or xs c.ready-at.result.low c.index.result.now) tables ∙ same_default lent c.ready-at.result.low c.index.result.now no_half there.0)) c.ready-at.ensures.low in
    let high : IsHalfOf book v 1 (c.args.cell % book.k1) c.index-2.result.now =
    subst (λ seen. IsHalfOf book v 1 (c.args.cell % book.k1) seen)
    (sym (c.index-2.ensures ∙ ap (λ (xs : List HalfSeen). get_or xs c.ready-at.result.high c.index-2.result.now) tables ∙ same_default lent c.ready-at.result.high c.index-2.result.now no_half there.1)) c.ready-at.ensures.high in
    let ts = residual_tables book v c.args.cell in
    let best = c.scan_cell.new.best in
    let scans = subst (λ t. Scans t rows self.best best c.args.meters.now.half_full c.scan_cell.new.meters.half_full) (tables_are book is.residual v c.args.cell within c.index.result.now c.index-2.result.now low high) c.scan_cell.ensures.scans in
    let n = length c.deref_mut.result.now - 2 in
    let cache : n ≡ self.cache = omega (arith, is.count, ap (λ (xs : List HalfSeen). length xs) c.deref_mut.ensures.value) in
    let places : (with_items self.places c.ready-at.new.places).items ≡ c.ready-at.new.places = with_items_is self.places c.ready-at.new.places (c.ready-at.ensures.places ∙ c.deref_mut-2.ensures.len) in
    let stands : (kept : List ℕ) → Stands book v kept self.slots self.places.items self.tables.items → Stands book v (kept_after self.cache kept (keys_here book rows c.args.cell)) c.ready-at.new.slots (with_items self.places c.ready-at.new.places).items (with_items self.tables lent).items
    × (c.scan_cell.new.meters.halves ≡ c.args.meters.now.halves + misses self.cache kept (keys_here book rows c.args.cell)) =
    λ kept was.
    let before = subst (λ (hs : List HalfSeen). Stands book v kept self.slots c.deref_mut-2.result.now hs) (sym c.deref_mut.ensures.value)
    (subst (λ (ps : List ℕ). Stands book v kept self.slots ps self.tables.items) (sym c.deref_mut-2.ensures.value) was) in
    let now = c.ready-at.ensures.stands kept before in
    stands_as book v kept n self.cache cache (cell_keys book c.args.cell) (keys_here book rows c.args.cell) (sym (keys_some book rows c.args.cell some)) c.ready-at.new.slots
    c.ready-at.new.places (with_items self.places c.ready-at.new.places).items places lent (with_items self.tables lent).items tables c.args.meters.now.halves c.scan_cell.new.meters.halves
    (now.0, c.scan_cell.ensures.others.0 ∙ now.1) in
    record { cache = refl; scans = scans; stands = stands; others = c.scan_cell.ensures.others.1 }

pub returns-clause-ready : goal.returns-clause-ready
returns-clause-ready g c n_more is_more =
    let ws = g.S.Shape.widths in
    let s = c.args.snapshot.now in
    let self = c.args.self.now in
    let book = c.args.asked.now.book.now in
    let v : List ℕ = c.args.asked.now.query.now in
    let is = c.requires.ready in
    let lent = c.ready-at.new.tables in
    let there = c.ready-at.ensures.there in
    let rows : List Row = shown_in c.args.cell s in
    let some : length rows ≢ 0 = λ none. c.if-rows-eq0.false (c.count-rows.ensures.count ∙ none) in
    let within : c.args.cell < book.k0 * book.k1 = subst (λ n. c.args.cell < n) is.cells (cell_below ws s.store.g s.store.cells c.args.cell s.ranges s.stamp s.store.kept c.count-rows.ensures.is.rows some) in
    let tables : (with_items self.tables lent).items ≡ lent = with_items_is self.tables lent (c.ready-at.auto.tables ∙ c.deref_mut.ensures.len) in
    let low : IsHalfOf book v 0 (c.args.cell / book.k1) c.index.result.now =
    subst (λ seen. IsHalfOf book v 0 (c.args.cell / book.k1) seen)
    (sym (c.index.ensures ∙ ap (λ (xs : List HalfSeen). get_or xs c.ready-at.result.low c.index.result.now) tables ∙ same_default lent c.ready-at.result.low c.index.result.now no_half there.0)) c.ready-at.ensures.low in
    let high : IsHalfOf book v 1 (c.args.cell % book.k1) c.index-2.result.now =
    subst (λ seen. IsHalfOf book v 1 (c.args.cell % book.k1) seen)
    (sym (c.index-2.ensures ∙ ap (λ (xs : List HalfSeen). get_or xs c.ready-at.result.high c.index-2.result.now) tables ∙ same_default lent c.ready-at.result.high c.index-2.result.now no_half there.1)) c.ready-at.ensures.high in
    let ts = residual_tables book v c.args.cell in
    let best = c.scan_cell.new.best in
    let scans = subst (λ t. Scans t rows self.best best c.args.meters.now.half_full c.scan_cell.new.meters.half_full) (tables_are book is.residual v c.args.cell within c.index.result.now c.index-2.result.now low high) c.scan_cell.ensures.scans in
    let n = length c.deref_mut.result.now - 2 in
    let cache : n ≡ self.cache = omega (arith, is.count, ap (λ (xs : List HalfSeen). length xs) c.deref_mut.ensures.value) in
    let places : (with_items self.places c.ready-at.new.places).items ≡ c.ready-at.new.places = with_items_is self.places c.ready-at.new.places (c.ready-at.ensures.places ∙ c.deref_mut-2.ensures.len) in
    let stands : (kept : List ℕ) → Stands book v kept self.slots self.places.items self.tables.items → Stands book v (kept_after self.cache kept (keys_here book rows c.args.cell)) c.ready-at.new.slots (with_items self.places c.ready-at.new.places).items (with_items self.tables lent).items
    × (c.scan_cell.new.meters.halves ≡ c.args.meters.now.halves + misses self.cache kept (keys_here book rows c.args.cell)) =
    λ kept was.
    let before = subst (λ (hs : List HalfSeen). Stands book v kept self.slots c.deref_mut-2.result.now hs) (sym c.deref_mut.ensures.value)
    (subst (λ (ps : List ℕ). Stands book v kept self.slots ps self.tables.items) (sym c.deref_mut-2.ensures.value) was) in
    let now = c.ready-at.ensures.stands kept before in
    stands_as book v kept n self.cache cache (cell_keys book c.args.cell) (keys_here book rows c.args.cell) (sym (keys_some book rows c.args.cell some)) c.ready-at.new.slots
    c.ready-at.new.places (with_items self.places c.ready-at.new.places).items places lent (with_items self.tables lent).items tables c.args.meters.now.halves c.scan_cell.new.meters.halves
    (now.0, c.scan_cell.ensures.others.0 ∙ now.1) in
    let small = subst (λ (m : ℕ). IsSmallRoom ws m c.scan_cell.new.parts) is.g c.scan_cell.ensures.parts in
    let parts = with_items_is self.parts c.scan_cell.new.parts (c.scan_cell.auto.parts ∙ c.deref_mut-3.ensures.len) in
    let room = subst (λ (ps : List Table). IsSmallRoom ws book.g ps) (sym parts) small in
    let used = stands is.filled.0 is.filled.1 in
    let seen = is.held.0 in
    record {
      residual = is.residual;
      shape = is.shape;
      query = is.query;
      g = is.g;
      cells = is.cells;
      count = ap (λ (xs : List HalfSeen). length xs) tables ∙ c.ready-at.auto.tables ∙ ap (λ (xs : List HalfSeen). length xs) c.deref_mut.ensures.value ∙ is.count;
      each = subst (λ (xs : List HalfSeen). AllByRecursion (IsRoomOf book) xs) (sym tables) c.ready-at.ensures.room;
      parts = room.tables;
      sizes = room.sizes;
      places = ap (λ (ps : List ℕ). length ps) places ∙ c.ready-at.ensures.places ∙ ap (λ (ps : List ℕ). length ps) c.deref_mut-2.ensures.value ∙ is.places;
      slots = subst (λ (m : ℕ). AreSlots m c.ready-at.new.slots) cache c.ready-at.ensures.slots;
      filled = (kept_after self.cache is.filled.0 (keys_here book rows c.args.cell), used.0);
      some = omega (arith, is.some, scans.sizes.0);
      held = (seen ++ pairs_in ts rows, scans.least_of_all seen is.held.1 ∙ ap (λ k. least k (seen ++ pairs_in ts rows)) (sym scans.sizes.0));
      half_full = omega (arith, scans.counts seen is.held.1, near_count-le ts self.best.k seen seen rows, is_more.half_full);
      halves = omega (arith, used.1, misses-le self.cache is.filled.0 (keys_here book rows c.args.cell), keys_few book rows c.args.cell, is_more.halves, some);
    }
