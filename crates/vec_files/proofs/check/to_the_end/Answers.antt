use Rattle.std.proofs.Common.{◌∙◌, ap, Some, sym, arith}
use Rattle.std.proofs.lemmas.Result.{err_from_is_err_and}
use Rattle.adc_ports.proofs.StateLemmas.{reads_on}
use Rattle.vec_files.proofs.Stretches.{still_wanted, refuses_along}
use Rattle.vec_files.proofs.check.to_the_end.Goals as goal

pub loop-now-preserved : goal.loop-now-preserved
loop-now-preserved g c =
    let i = c.loop-now.invariant in
    record {
      reads = reads_on _ _ _ i.reads c.in_ok-now.ensures.reads;
      counts = c.in_ok-now.ensures.counts ∙ i.counts;
      wanted = still_wanted _ _ _ i.wanted c.in_ok-now.ensures.wanted;
      rest = λ files told is.
          let before = i.rest files told is in
          let told_now = i.reads.files ∙ told in
          (c.in_ok-now.ensures.same_end files told_now (before.0 ∙ is) ∙ before.0, c.in_ok-now.ensures.rest files told_now (before.0 ∙ is) ∙ before.1);
    }

pub returns-in_err-now-clause-rest : goal.returns-in_err-now-clause-rest
returns-in_err-now-clause-rest g c = λ files told is.
    let p = err_from_is_err_and c.from_residual.result c.from_residual.ensures.1 in
    let before = c.loop-now.invariant.rest files told is in
    rw (p.1, p.2) (refuses_along c.in_err-now.field-0.0 before.1 (c.in_err-now.ensures.rest files (c.loop-now.invariant.reads.files ∙ told) (before.0 ∙ is)))

pub returns-clause-rest : goal.returns-clause-rest
returns-clause-rest g c = λ files told is.
    let before = c.loop-now.invariant.rest files told is in
    ap Some (sym before.1 ∙ c.checked.ensures.ended c.args.width _ (omega (arith, is, before.0)))
