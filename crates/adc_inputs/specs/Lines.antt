-- The lines and the statuses of what stops a run.
use Rattle.std.specs.Prelude.{ℕ, List}
use Rattle.play_script.specs.Texts.{stop_missing, stop_malformed, stop_malformed_line, stop_limit, stop_read, stop_memory}
use Rattle.adc_inputs.specs.declared.stop.Status.{Status}
use Rattle.adc_inputs.specs.declared.stop.Status.TheVariants as status
use Rattle.adc_inputs.specs.declared.stop.InputError.{InputError}
use Rattle.adc_inputs.specs.declared.stop.InputError.TheVariants.{Missing, Malformed, BadLine, Limit}
use Rattle.adc_inputs.specs.declared.stop.Stop.{Stop}
use Rattle.adc_inputs.specs.declared.stop.Stop.TheVariants.{Input, Unread, OutOfMemory}

-- the line that tells what is wrong with an input, and the line that tells why a run stopped
abbrev pub error_line : InputError → List ℕ
error_line (Missing role) = stop_missing role
error_line (Malformed role at) = stop_malformed role at
error_line (BadLine line) = stop_malformed_line line
error_line (Limit role what value) = stop_limit role what value

abbrev pub stop_line : Stop → List ℕ
stop_line (Input error) = error_line error
stop_line (Unread role) = stop_read role
stop_line OutOfMemory = stop_memory

-- the statuses that go with them
abbrev pub error_status : InputError → Status
error_status (Missing role) = status.Missing
error_status (Malformed role at) = status.Malformed
error_status (BadLine line) = status.Malformed
error_status (Limit role what value) = status.Limit

abbrev pub stop_status : Stop → Status
stop_status (Input error) = error_status error
stop_status (Unread role) = status.ReadFault
stop_status OutOfMemory = status.Memory
