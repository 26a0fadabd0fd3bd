-- The script with sessions of an input.
use Rattle.std.specs.Prelude.{List, Result}
use Rattle.adc_ports.specs.Files.{Files}
use Rattle.play_script.specs.declared.SessionCommand.{SessionCommand}
use Rattle.play_script.specs.declared.Role.TheVariants as role
use Rattle.play_script.specs.SessionGrammar.{session_outcome}
use Rattle.adc_inputs.specs.declared.stop.InputError.{InputError}
use Rattle.adc_inputs.specs.Names.{Name}
use Rattle.adc_inputs.specs.Inputs.{◌>>=◌, of_script, bytes_or_missing}

unfoldable pub session_input : Files → Name → Result (List SessionCommand) InputError
session_input files name = bytes_or_missing role.Script (files name) >>= λ bytes. of_script (session_outcome bytes)
