use Rattle.std.proofs.Common.{arith, ◌∙◌, ap, drop}
use Rattle.adc_ports.proofs.StepLemmas.{more_read, kept_read}
use Rattle.adc_ports.proofs.system.read_whole.Goals as goal
use Rattle.adc_ports.proofs.system.read_whole.Goals.{in-Ok, in-Err+else-ne}

pub loop-preserved : goal.loop-preserved
loop-preserved g c = elim c.match-read_some.branch [
  | in-Ok w ↦ rw w.filled-is (
    grind arith,
    (λ k far. w.in-Ok.ensures.rest k far ∙ c.loop.invariant.1 k (omega arith)),
    more_read _ _ _ _ _ _ _ w.in-Ok.ensures.front c.loop.invariant.2 w.in-Ok.ensures.bytes,
  )
  | in-Err+else-ne w ↦ rw w.filled-is (
    grind arith,
    (λ k far. ap (drop k) w.in-Err.ensures.err ∙ c.loop.invariant.1 k far),
    kept_read _ _ _ _ _ _ w.in-Err.ensures.err c.loop.invariant.2 w.in-Err.ensures.kept,
  )
]
