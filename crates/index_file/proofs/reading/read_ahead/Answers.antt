use Rattle.std.proofs.Common.{◌∙◌, arith}
use Rattle.std.proofs.lemmas.Bool.{OnFalse_at}
use Rattle.std.proofs.lemmas.Result.{err_from_is_err_and}
use Rattle.adc_ports.proofs.StateLemmas.{reads_on}
use Rattle.index_file.proofs.Starting.{refuses_along}
use Rattle.index_file.proofs.reading.read_ahead.Goals as goal

pub returns-in_err-next-clause-rows : goal.returns-in_err-next-clause-rows
returns-in_err-next-clause-rows g c = λ files told end.
    let p = err_from_is_err_and c.from_residual.result c.from_residual.ensures.1 in
    let i = c.stretches.invariant in
    rw (p.1, p.2) (refuses_along c.in_err-next.field-0.0 _ _ (i.rest files told) (c.in_err-next.ensures.rest files (i.reads.files ∙ told)))

pub stretches-preserved : goal.stretches-preserved
stretches-preserved g c =
    let i = c.stretches.invariant in
    let more = c.in_ok-next.ensures.fewer (OnFalse_at c.stretches-test.true c.is_done.ensures.more) in
    record {
      reads = reads_on _ _ _ i.reads c.in_ok-next.ensures.reads;
      counts = c.in_ok-next.ensures.counts ∙ i.counts;
      before = c.in_ok-next.ensures.before;
      at = omega (arith, i.at, more, c.in_ok-next.ensures.within);
      rest = λ files told. c.in_ok-next.ensures.rest files (i.reads.files ∙ told) ∙ i.rest files told;
    }
