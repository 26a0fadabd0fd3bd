use Rattle.std.proofs.Common.{arith}
use Rattle.adc_ports.proofs.StepLemmas.{more_written, kept_written}
use Rattle.adc_ports.proofs.system.write_whole.Goals as goal
use Rattle.adc_ports.proofs.system.write_whole.Goals.{in-Ok, in-Err+else-ne}

pub loop-preserved : goal.loop-preserved
loop-preserved g c = elim c.match-write.branch [
  | in-Ok w ↦ rw w.written-is (grind arith, more_written _ _ _ _ _ _ c.loop.invariant.1 w.in-Ok.ensures.bytes)
  | in-Err+else-ne w ↦ rw w.written-is (c.loop.invariant.0, kept_written _ _ _ _ c.loop.invariant.1 w.in-Err.ensures.bytes)
]
