use Rattle.std.proofs.Common.{arith}
use Rattle.std.proofs.lemmas.Slice.{drop-put_mid}
use Rattle.adc_ports.proofs.system.read_some.Goals as goal

pub returns-clause-rest : goal.returns-clause-rest
returns-clause-rest g c = λ k far. drop-put_mid _ _ _ _ k (omega arith) c.requires.within (grind arith)
