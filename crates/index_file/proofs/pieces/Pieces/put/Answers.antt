use Rattle.std.proofs.Common.{refl}
use Rattle.std.proofs.lemmas.Result.{err_from_is_err_and}
use Rattle.index_file.proofs.Adding.{adds_stop}
use Rattle.index_file.proofs.pieces.Pieces.put.Goals as goal

pub returns-in_err-make_room : goal.returns-in_err-make_room
returns-in_err-make_room g c =
    let p = err_from_is_err_and c.from_residual.result c.from_residual.ensures.1 in
    rw (p.1, p.2) (adds_stop c.args.name.now c.in_err-make_room.field-0.0 c.args.bytes.now c.args.bytes.now c.in_err-make_room.ensures.adds refl)
