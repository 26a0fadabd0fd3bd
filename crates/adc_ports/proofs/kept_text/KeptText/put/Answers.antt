use Rattle.std.proofs.Common.{◌≡◌, arith, subst}
use Rattle.std.specs.Io.KnownBytes.{Appends}
use Rattle.adc_ports.proofs.StepLemmas.{on_err, prefix_behind}
use Rattle.adc_ports.proofs.kept_text.KeptText.put.Goals as goal

pub returns-then-is_err-clause-err : goal.returns-then-is_err-clause-err
returns-then-is_err-clause-err g c =
    let same : c.extend_from_slice.new.self.items ≡ c.args.self.now.kept.items = grind arith in
    let flushed = subst (Appends (g.W.Write.contents c.args.self.now.to) (g.W.Write.contents c.flush.new.self.to)) same c.in_ok-flush.ensures.ok in
    on_err c.write_on.result (prefix_behind _ _ _ _ _ flushed) c.write_on.ensures.err
