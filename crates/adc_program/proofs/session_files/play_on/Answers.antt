use Rattle.adc_ports.proofs.StateLemmas.{reads_none}
use Rattle.adc_program.proofs.Playing.{plays_memory}
use Rattle.adc_program.proofs.Faults.{well_none}
use Rattle.adc_program.proofs.session_files.play_on.Goals as goal

pub returns-in_default-clause-plays : goal.returns-in_default-clause-plays
returns-in_default-clause-plays g c = plays_memory (well_none _)
