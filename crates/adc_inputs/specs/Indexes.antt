-- The index of an input.
use Rattle.std.specs.Prelude.{Result}
use Rattle.adc_ports.specs.Files.{Files}
use Rattle.play_script.specs.declared.Role.TheVariants as role
use Rattle.index_file.specs.Reading.{Indexed, index_outcome}
use Rattle.index_file.specs.declared.index.IndexError.{IndexError}
use Rattle.index_file.specs.declared.index.IndexError.TheVariants as index
use Rattle.adc_inputs.specs.declared.stop.InputError.{InputError}
use Rattle.adc_inputs.specs.declared.stop.InputError.TheVariants.{Missing, Malformed, Limit}
use Rattle.adc_inputs.specs.declared.stop.Stop.{Stop}
use Rattle.adc_inputs.specs.declared.stop.Stop.TheVariants.{Input, Unread, OutOfMemory}
use Rattle.adc_inputs.specs.Names.{Name}
use Rattle.adc_inputs.specs.Inputs.{◌>>=◌, of_role, bytes_or_missing}

unfoldable pub index_input : Files → Name → Result Indexed InputError
index_input files name = bytes_or_missing role.Index (files name) >>= λ bytes. of_role role.Index (index_outcome bytes)

-- which stop a refusal of an index is
abbrev pub stop_of_index : IndexError → Stop
stop_of_index index.Missing = Input (Missing role.Index)
stop_of_index (index.Malformed at) = Input (Malformed role.Index at)
stop_of_index (index.Limit what value) = Input (Limit role.Index what value)
stop_of_index index.ReadFault = Unread role.Index
stop_of_index index.Memory = OutOfMemory
