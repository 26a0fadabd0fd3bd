-- Which stop a refusal of a lower crate is.
use Rattle.adc_ports.specs.declared.Halt.{Halt}
use Rattle.adc_ports.specs.declared.Halt.TheVariants as halt
use Rattle.vec_files.specs.declared.VecError.{VecError}
use Rattle.vec_files.specs.declared.VecError.TheVariants as rows
use Rattle.codebook_core.specs.declared.BookError.{BookError}
use Rattle.codebook_core.specs.declared.BookError.TheVariants as book
use Rattle.play_script.specs.declared.script.ScriptError.{ScriptError}
use Rattle.play_script.specs.declared.script.ScriptError.TheVariants as script
use Rattle.play_script.specs.declared.Role.{Role}
use Rattle.play_script.specs.declared.Role.TheVariants as role
use Rattle.adc_inputs.specs.declared.stop.Stop.{Stop}
use Rattle.adc_inputs.specs.declared.stop.Stop.TheVariants.{Input, Unread, OutOfMemory}
use Rattle.adc_inputs.specs.declared.stop.InputError.TheVariants.{Missing, Malformed, BadLine, Limit}

abbrev pub stop_of_halt : Role → Halt → Stop
stop_of_halt role halt.Failed = Unread role
stop_of_halt role halt.Memory = OutOfMemory

abbrev pub stop_of_rows : Role → VecError → Stop
stop_of_rows role rows.Missing = Input (Missing role)
stop_of_rows role (rows.Malformed at) = Input (Malformed role at)
stop_of_rows role (rows.Limit what value) = Input (Limit role what value)
stop_of_rows role rows.ReadFault = Unread role
stop_of_rows role rows.Memory = OutOfMemory

abbrev pub stop_of_book : BookError → Stop
stop_of_book (book.Malformed at) = Input (Malformed role.Book at)
stop_of_book (book.Limit what value) = Input (Limit role.Book what value)
stop_of_book book.Memory = OutOfMemory

abbrev pub stop_of_script : ScriptError → Stop
stop_of_script (script.Malformed line) = Input (BadLine line)
stop_of_script (script.Limit what value) = Input (Limit role.Script what value)
stop_of_script script.Memory = OutOfMemory
