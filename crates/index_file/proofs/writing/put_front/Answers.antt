use Rattle.std.proofs.Common.{◌++◌, length, refl}
use Rattle.std.proofs.lemmas.Result.{err_from_is_err_and}
use Rattle.std.specs.Int.{w32, to_le_bytes}
use Rattle.std.specs.Prelude.{codes}
use Rattle.index_file.proofs.Adding.{adds_stop, adds_after}
use Rattle.index_file.proofs.writing.put_front.Goals as goal

pub returns-in_err-put : goal.returns-in_err-put
returns-in_err-put g c =
    let p = err_from_is_err_and c.from_residual.result c.from_residual.ensures.1 in
    rw (p.1, p.2) (adds_stop c.args.name.now c.in_err-put.field-0.0 ((to_le_bytes w32 (length c.args.text.now) ++ c.args.text.now)) (codes "ADCINDX2" ++ (to_le_bytes w32 (length c.args.text.now) ++ c.args.text.now)) c.in_err-put.ensures refl)

pub returns : goal.returns
returns g c = adds_after c.args.name.now c.put_book.result (codes "ADCINDX2" ++ (to_le_bytes w32 (length c.args.text.now) ++ c.args.text.now)) c.in_ok-put.ensures c.put_book.ensures refl
