use Rattle.std.proofs.Common.{Some, subst, sym, ap, ◌∙◌}
use Rattle.std.proofs.lemmas.Result.{err_from_is_err_and}
use Rattle.adc_ports.specs.Files.{bytes_of}
use Rattle.cell_store.specs.State.{live_rows}
use Rattle.index_file.specs.Ahead.{layout}
use Rattle.index_file.specs.Reading.{Layout, all_rows}
use Rattle.index_file.specs.View.{Refuses}
use Rattle.index_file.proofs.Starting.{rows_unread, rows_refused, rows_read, is_fresh}
use Rattle.index_file.proofs.reading.read_rows.Goals as goal

pub returns-in_err-ahead-clause-rows : goal.returns-in_err-ahead-clause-rows
returns-in_err-ahead-clause-rows g c = λ files told end.
    let p = err_from_is_err_and c.from_residual.result c.from_residual.ensures.1 in
    let bytes = bytes_of files c.args.name.now in
    rw (p.1, p.2) (
    subst (λ (l : Layout). Refuses c.in_err-ahead.field-0.0 (Some (all_rows c.args.version l bytes c.args.at))) (sym c.sizes_of-sizes.ensures)
    (rows_unread (layout g.S.Shape.widths c.sizes_of-sizes.result) bytes c.args.at c.args.version c.in_err-ahead.field-0.0 (c.in_err-ahead.ensures.found files told))
    )

pub returns-in_err-read_ahead-clause-rows : goal.returns-in_err-read_ahead-clause-rows
returns-in_err-read_ahead-clause-rows g c = λ files told end.
    let p = err_from_is_err_and c.from_residual-in_err-read_ahead.result c.from_residual-in_err-read_ahead.ensures.1 in
    let bytes = bytes_of files c.args.name.now in
    rw (p.1, p.2) (
    subst (λ (l : Layout). Refuses c.in_err-read_ahead.field-0.0 (Some (all_rows c.args.version l bytes c.args.at))) (sym c.sizes_of-sizes.ensures)
    (rows_refused (layout g.S.Shape.widths c.sizes_of-sizes.result) bytes c.args.at c.args.version c.in_ok-ahead.ahead c.in_ok-ahead.at (c.in_ok-ahead.ensures.found files told)
    c.in_err-read_ahead.field-0.0 (live_rows c.with_room-store.result) (ap live_rows c.with_room-store.ensures) (c.in_err-read_ahead.ensures.rows files (c.in_ok-ahead.ensures.reads.files ∙ told) end))
    )

pub returns-clause-rows : goal.returns-clause-rows
returns-clause-rows g c = λ files told end.
    let bytes = bytes_of files c.args.name.now in
    ap (λ (l : Layout). all_rows c.args.version l bytes c.args.at) c.sizes_of-sizes.ensures
    ∙ rows_read (layout g.S.Shape.widths c.sizes_of-sizes.result) bytes c.args.at c.args.version c.in_ok-ahead.ahead c.in_ok-ahead.at (c.in_ok-ahead.ensures.found files told)
    (live_rows c.with_room-store.result) (live_rows c.read_ahead.new.store) (ap live_rows c.with_room-store.ensures) (c.in_ok-read_ahead.ensures.rows files (c.in_ok-ahead.ensures.reads.files ∙ told) end)

pub returns-clause-fresh : goal.returns-clause-fresh
returns-clause-fresh g c = is_fresh g.S.Shape.widths c.sizes_of-sizes.result _ c.read_ahead.new.store c.sizes_of-sizes.ensures c.in_ok-read_ahead.ensures.filled c.in_ok-read_ahead.ensures.few
