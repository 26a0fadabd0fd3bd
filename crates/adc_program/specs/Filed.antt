-- Which halt a file is that could not be written.
use Rattle.vec_files.specs.declared.WriteError.{WriteError}
use Rattle.vec_files.specs.declared.WriteError.TheVariants as write
use Rattle.play_script.specs.declared.Role.{Role}
use Rattle.adc_inputs.specs.declared.stop.Stop.TheVariants.{OutOfMemory}
use Rattle.adc_program.specs.declared.halts.Halted.{Halted}
use Rattle.adc_program.specs.declared.halts.Halted.TheVariants.{Stopped, Unsaved}

abbrev pub halted_of : Role → WriteError → Halted
halted_of role write.WriteFault = Unsaved role
halted_of role write.Memory = Stopped OutOfMemory
