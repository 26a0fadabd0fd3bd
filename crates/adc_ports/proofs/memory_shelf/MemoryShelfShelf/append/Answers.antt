use Rattle.std.proofs.Common.{arith}
use Rattle.adc_ports.proofs.KeptLemmas.{as_before}
use Rattle.adc_ports.proofs.memory_shelf.MemoryShelfShelf.append.Goals as goal

pub returns-in_err-append-in-Some-clause-err : goal.returns-in_err-append-in-Some-clause-err
returns-in_err-append-in-Some-clause-err c = grind (arith, as_before c.args.self.now.files c.args.name.now c.args.bytes.now c.requires)

pub returns-in-None-clause-err : goal.returns-in-None-clause-err
returns-in-None-clause-err c = grind (arith, as_before c.args.self.now.files c.args.name.now c.args.bytes.now c.requires)
