use Rattle.std.proofs.Common.{◌∙◌, sym, arith}
use Rattle.std.proofs.lemmas.Result.{err_from_is_err_and}
use Rattle.vec_files.proofs.Stretches.{header_inside, refuses_along, still_wanted}
use Rattle.vec_files.proofs.check.over_stretch.Goals as goal

pub loop-now-preserved : goal.loop-now-preserved
loop-now-preserved c =
    let i = c.loop-now.invariant in
    record {
      same_end = omega (arith, c.in_ok-now.ensures.same_end);
      after = omega (arith, c.in_ok-now.ensures.goes_on);
      wanted = still_wanted _ _ _ i.wanted c.in_ok-now.ensures.wanted;
      rest = λ bytes e is. c.in_ok-now.ensures.rest bytes (e ∙ sym i.same_end) (header_inside _ _ _ _ _ i.after is (omega arith) c.number.ensures.value) ∙ i.rest bytes e is;
    }

pub returns-in_err-may_begin-clause-rest : goal.returns-in_err-may_begin-clause-rest
returns-in_err-may_begin-clause-rest c = λ bytes e is.
    let p = err_from_is_err_and c.from_residual.result c.from_residual.ensures.1 in
    rw (p.1, p.2) (refuses_along c.in_err-may_begin.field-0.0 (c.loop-now.invariant.rest bytes e is) (c.in_err-may_begin.ensures.refusal c.args.width bytes (e ∙ sym c.loop-now.invariant.same_end)))

pub returns-in_err-now-clause-rest : goal.returns-in_err-now-clause-rest
returns-in_err-now-clause-rest c = λ bytes e is.
    let p = err_from_is_err_and c.from_residual-in_err-now.result c.from_residual-in_err-now.ensures.1 in
    let i = c.loop-now.invariant in
    rw (p.1, p.2) (refuses_along c.in_err-now.field-0.0 (i.rest bytes e is) (c.in_err-now.ensures.rest bytes (e ∙ sym i.same_end) (header_inside _ _ _ _ _ i.after is (omega arith) c.number.ensures.value)))
