use Rattle.std.proofs.Common.{◌∙◌, ℕ, List, take, ap, sym}
use Rattle.std.specs.List.{enumerate_from}
use Rattle.std.proofs.lemmas.Result.{err_from_is_err_and}
use Rattle.adc_ports.specs.Files.{bytes_of}
use Rattle.book_model.specs.Order.{sorted, pair_cmp}
use Rattle.vec_files.specs.Standing.{FirstMissing}
use Rattle.vec_files.proofs.StandingRows.{rows_are, each_is_there}
use Rattle.flat_truth.specs.Flat.{flat_pairs, exact}
use Rattle.flat_truth.proofs.Refusals.{refuses_along}
use Rattle.flat_truth.proofs.flat.exact.Goals as goal

pub returns-in_err-pairs-clause-listed : goal.returns-in_err-pairs-clause-listed
returns-in_err-pairs-clause-listed g c = λ files told d rows read found.
    let p = err_from_is_err_and c.from_residual.result c.from_residual.ensures.1 in
    let bytes = bytes_of files c.args.name.now in
    rw (p.1, p.2) (refuses_along (FirstMissing bytes c.args.checked.d 0 c.args.checked.rows) (λ at. ⊥) c.in_err-pairs.field-0.0
    (λ at gone. gone.missing (each_is_there d bytes rows c.args.checked read found gone.row gone.high)) (c.in_err-pairs.ensures.not_there files told))

pub returns-clause-value : goal.returns-clause-value
unfolding exact
returns-clause-value g c = λ files told. c.of_pairs.ensures ∙ c.in_ok-pairs.ensures.value files told

pub returns-clause-listed : goal.returns-clause-listed
unfolding exact
returns-clause-listed g c = λ files told d rows read found.
    let bytes = bytes_of files c.args.name.now in
    c.of_pairs.ensures ∙ c.in_ok-pairs.ensures.value files told
    ∙ ap (λ (base : List (List ℕ)). take c.args.k (sorted pair_cmp (flat_pairs c.args.query.now (enumerate_from 0 base)))) (sym (rows_are d bytes rows c.args.checked read found))
