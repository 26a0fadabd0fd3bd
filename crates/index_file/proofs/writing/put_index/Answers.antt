use Rattle.std.proofs.Common.{[], refl, Ok}
use Rattle.std.proofs.lemmas.List.{append-nil}
use Rattle.std.proofs.lemmas.Result.{err_from_is_err_and}
use Rattle.index_file.specs.Grouped.{body_text, index_text}
use Rattle.index_file.proofs.Adding.{adds_stop, adds_after, adds_stop_after}
use Rattle.index_file.proofs.writing.put_index.Goals as goal

pub returns-in_err-put_front-clause-adds : goal.returns-in_err-put_front-clause-adds
returns-in_err-put_front-clause-adds g c =
    let p = err_from_is_err_and c.from_residual.result c.from_residual.ensures.1 in
    let widths = g.S.Shape.widths in
    rw (p.1, p.2) (adds_stop c.args.name.now c.in_err-put_front.field-0.0 (body_text widths c.args.store.now) (index_text widths c.args.text.now c.args.store.now) c.in_err-put_front.ensures refl)

pub returns-in_err-put_body-clause-adds : goal.returns-in_err-put_body-clause-adds
returns-in_err-put_body-clause-adds g c =
    let p = err_from_is_err_and c.from_residual-in_err-put_body.result c.from_residual-in_err-put_body.ensures.1 in
    let widths = g.S.Shape.widths in
    let text = index_text widths c.args.text.now c.args.store.now in
    rw (p.1, p.2) (adds_stop_after c.args.name.now c.in_err-put_body.field-0.0 [] text c.in_ok-put_front.ensures c.in_err-put_body.ensures (append-nil text))

pub returns-clause-adds : goal.returns-clause-adds
returns-clause-adds g c =
    let widths = g.S.Shape.widths in
    let text = index_text widths c.args.text.now c.args.store.now in
    adds_after c.args.name.now c.flush.result text (adds_after c.args.name.now (Ok tt) text c.in_ok-put_front.ensures c.in_ok-put_body.ensures refl) c.flush.ensures.adds (append-nil text)
