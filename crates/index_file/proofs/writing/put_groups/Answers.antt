use Rattle.std.proofs.Common.{◌+◌, ◌++◌, Ok, ap, ◌∙◌, arith, List, ℕ}
use Rattle.std.proofs.lemmas.Result.{err_from_is_err_and}
use Rattle.index_file.specs.Grouped.{cells_text}
use Rattle.index_file.proofs.Adding.{adds_stop_after, adds_after, adds_same}
use Rattle.index_file.proofs.Members.{cells_more, cells_end, cells_from, cells_left}
use Rattle.index_file.proofs.writing.put_groups.Goals as goal

pub returns-in_err-put_cell-in-Some : goal.returns-in_err-put_cell-in-Some
returns-in_err-put_cell-in-Some g c =
    let p = err_from_is_err_and c.from_residual.result c.from_residual.ensures.1 in
    let widths = g.S.Shape.widths in
    let store = c.args.store.now in
    let stamp = c.args.stamp in
    let cell = c.in-Some.cell in
    let next = c.in-Some.ensures in
    let left = cells_from widths store.g stamp store.kept (cell + 1) store.cells in
    rw (p.1, p.2) (adds_stop_after c.args.name.now c.in_err-put_cell-in-Some.field-0.0 left (cells_text widths store.g stamp store.kept store.cells) c.cells.invariant.adds c.in_err-put_cell-in-Some.ensures
    (ap (λ (t : List ℕ). t ++ left) (cells_more widths store.g stamp store.kept c.cells.from cell next.0 next.3) ∙ cells_left widths store.g stamp store.kept (cell + 1) store.cells (omega (arith, next.1))))

pub cells-preserved : goal.cells-preserved
cells-preserved g c =
    let widths = g.S.Shape.widths in
    let store = c.args.store.now in
    let stamp = c.args.stamp in
    let cell = c.in-Some.cell in
    let next = c.in-Some.ensures in
    record {
      from = omega (arith, next.1);
      adds = adds_after c.args.name.now (Ok tt) (cells_text widths store.g stamp store.kept (cell + 1)) c.cells.invariant.adds c.in_ok-put_cell-in-Some.ensures (cells_more widths store.g stamp store.kept c.cells.from cell next.0 next.3);
    }

pub returns-in-None : goal.returns-in-None
returns-in-None g c =
    let widths = g.S.Shape.widths in
    let store = c.args.store.now in
    adds_same c.args.name.now (Ok tt) _ _ _ _ _ _ (cells_end widths store.g c.args.stamp store.kept c.cells.from store.cells c.cells.invariant.from c.in-None.ensures) c.cells.invariant.adds
