use Rattle.std.proofs.Common.{◌∙◌, ◌+◌, ap, Some, sym, refl, arith}
use Rattle.std.proofs.lemmas.List.{take_rest}
use Rattle.std.proofs.lemmas.Result.{err_from_is_err_and}
use Rattle.adc_ports.specs.Files.{bytes_of}
use Rattle.adc_ports.specs.Reading.{bytes_at}
use Rattle.vec_files.proofs.Listing.{is_listed_bvecs, gives_listed, got_bytes, not_there}
use Rattle.vec_files.proofs.rows.read_row.Goals as goal

pub returns-in_err-fetch_row-clause-not_there : goal.returns-in_err-fetch_row-clause-not_there
returns-in_err-fetch_row-clause-not_there g c = λ files told.
    let p = err_from_is_err_and c.from_residual.result c.from_residual.ensures.1 in
    rw (p.1, p.2) (not_there (λ row. row) _ _ c.args.checked.d _ c.in_err-fetch_row.field-0.0 (omega arith) (λ row long. omega (arith, long)) (c.in_err-fetch_row.ensures.not_there files told))

pub returns-in_err-fetch_row-clause-listed : goal.returns-in_err-fetch_row-clause-listed
returns-in_err-fetch_row-clause-listed g c = λ files told d rows is found.
    let p = err_from_is_err_and c.from_residual.result c.from_residual.ensures.1 in
    let row = is_listed_bvecs d (bytes_of files c.args.name.now) rows c.args.checked c.args.row is found c.requires.row in
    rw (p.1, p.2) (gives_listed bytes_at 1 (bytes_of files c.args.name.now) rows c.args.checked.d c.args.row _ _ c.in_err-fetch_row.field-0.0 c.args.into.now (omega arith) row c.in_err-fetch_row.ensures.refusal (c.in_err-fetch_row.ensures.not_there files told))

pub returns-clause-listed : goal.returns-clause-listed
returns-clause-listed g c = λ files told d rows is found.
    let bytes = bytes_of files c.args.name.now in
    let row = is_listed_bvecs d bytes rows c.args.checked c.args.row is found c.requires.row in
    let same = c.copy_from_slice.ensures.after ∙ take_rest c.fetch_row.new.into 4
    ∙ got_bytes bytes c.fetch_row.new.into row.row _ (4 + c.args.checked.d) c.args.checked.d (c.in_ok-fetch_row.ensures.bytes files told) refl row.there in
    row.got ∙ ap Some (sym same)
