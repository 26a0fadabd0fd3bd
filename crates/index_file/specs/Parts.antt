-- What is read of a part of a file that was fetched.
use Rattle.std.specs.Prelude.{ℕ, ◌+◌, Result, Ok, Err}
use Rattle.adc_ports.specs.Reading.{Fault, Malformed, Limit}
use Rattle.index_file.specs.declared.fields.PartFault.{PartFault}
use Rattle.index_file.specs.declared.fields.PartFault.TheVariants as part
use Rattle.index_file.specs.declared.index.IndexError.{IndexError}
use Rattle.index_file.specs.declared.index.IndexError.TheVariants as error

-- the fault as that of the part's bytes
abbrev pub fault_of : PartFault → Fault
fault_of (part.Malformed at) = Malformed at
fault_of (part.Limit what value) = Limit what value

-- an answer as reading gives it
abbrev pub found : {X Y : Type 0} → (X → Y) → Result X PartFault → Result Y Fault
found view (Ok x) = Ok (view x)
found view (Err fault) = Err (fault_of fault)

-- the fault as that of a file in which the part begins at an offset
abbrev pub located_fault : PartFault → ℕ → IndexError
located_fault (part.Malformed place) at = error.Malformed (at + place)
located_fault (part.Limit what value) at = error.Limit what value
