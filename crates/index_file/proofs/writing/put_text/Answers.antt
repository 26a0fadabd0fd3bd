use Rattle.std.proofs.Common.{◌+◌, Ok, drop, take, rules}
use Rattle.std.proofs.lemmas.Result.{err_from_is_err_and}
use Rattle.index_file.proofs.Adding.{adds_stop_after, adds_after, pieces_more, pieces_rest}
use Rattle.index_file.proofs.writing.put_text.Goals as goal

pub returns-in_err-put : goal.returns-in_err-put
returns-in_err-put g c =
    let p = err_from_is_err_and c.from_residual.result c.from_residual.ensures.1 in
    let text = c.args.text.now in
    rw (p.1, p.2) (adds_stop_after c.args.name.now c.in_err-put.field-0.0 (drop (c.text.at + c.min-size.result) text) text c.text.invariant.adds c.in_err-put.ensures (pieces_rest text c.text.at c.min-size.result))

pub text-preserved : goal.text-preserved
text-preserved g c = record {
  at = search rules;
  adds = adds_after c.args.name.now (Ok tt) (take (c.text.at + c.min-size.result) c.args.text.now) c.text.invariant.adds c.in_ok-put.ensures (pieces_more c.args.text.now c.text.at c.min-size.result);
}
