-- What a call answers where the shelf's own call stopped.
use Rattle.adc_ports.specs.declared.Halt.{Halt}
use Rattle.adc_ports.specs.declared.Halt.TheVariants as halt
use Rattle.vec_files.specs.declared.VecError.{VecError}
use Rattle.vec_files.specs.declared.VecError.TheVariants as vec_error
use Rattle.vec_files.specs.declared.WriteError.{WriteError}
use Rattle.vec_files.specs.declared.WriteError.TheVariants as write_error

abbrev pub stops_reading : Halt → VecError
stops_reading halt.Failed = vec_error.ReadFault
stops_reading halt.Memory = vec_error.Memory

abbrev pub stops_writing : Halt → WriteError
stops_writing halt.Failed = write_error.WriteFault
stops_writing halt.Memory = write_error.Memory
