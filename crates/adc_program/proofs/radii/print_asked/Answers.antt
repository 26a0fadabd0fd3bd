use Rattle.adc_ports.proofs.StateLemmas.{reads_none}
use Rattle.adc_program.proofs.Playing.{plays_memory}
use Rattle.adc_program.proofs.Faults.{well_none}
use Rattle.adc_program.proofs.radii.print_asked.Goals as goal

pub returns-in_default-clause-plays : goal.returns-in_default-clause-plays
returns-in_default-clause-plays g c = plays_memory (well_none _)

pub returns-in_default-with_room-clause-plays : goal.returns-in_default-with_room-clause-plays
returns-in_default-with_room-clause-plays g c = plays_memory (well_none _)
