use Rattle.std.proofs.Common.{arith}
use Rattle.adc_ports.proofs.KeptLemmas.{kept_file}
use Rattle.adc_ports.proofs.kept_files.file.Goals as goal

pub returns : goal.returns
returns c = grind (arith, kept_file c.args.kept.now c.args.name.now)
