use Rattle.std.proofs.Common.{◌++◌, length, refl}
use Rattle.std.proofs.lemmas.Result.{err_from_is_err_and}
use Rattle.std.specs.Int.{w32, to_le_bytes}
use Rattle.index_file.proofs.Adding.{adds_stop, adds_after}
use Rattle.index_file.proofs.writing.put_book.Goals as goal

pub returns-in_err-put_number : goal.returns-in_err-put_number
returns-in_err-put_number g c =
    let p = err_from_is_err_and c.from_residual.result c.from_residual.ensures.1 in
    rw (p.1, p.2) (adds_stop c.args.name.now c.in_err-put_number.field-0.0 (c.args.text.now) (to_le_bytes w32 (length c.args.text.now) ++ c.args.text.now) c.in_err-put_number.ensures refl)

pub returns : goal.returns
returns g c = adds_after c.args.name.now c.put_text.result (to_le_bytes w32 (length c.args.text.now) ++ c.args.text.now) c.in_ok-put_number.ensures c.put_text.ensures refl
