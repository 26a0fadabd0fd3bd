use Rattle.std.proofs.lemmas.Result.{err_from_is_err_and}
use Rattle.codebook_core.specs.Reading.{lengths_at}
use Rattle.codebook_core.proofs.Loop.{ends}
use Rattle.codebook_core.proofs.fields.lengths.Goals as goal

pub returns-in_err-n-clause-value : goal.returns-in_err-n-clause-value
returns-in_err-n-clause-value c =
    let p = err_from_is_err_and c.from_residual-in_err-n.result c.from_residual-in_err-n.ensures.1 in
    rw (p.1, p.2) (ends c.loop-i.found.items c.args.count c.loop-i.i c.loop-i.rest c.args.bytes.now c.loop-i.at (lengths_at c.args.count c.args.total c.args.bytes.now c.args.at)
    c.in_err-n.field-0.0 c.loop-i-test.true c.in_err-n.ensures.value c.loop-i.invariant.so_far)
