-- What is found of the rest of a file by headers and lengths alone, without a look at components.
use Rattle.std.specs.Prelude.{ℕ, zero, suc, ◌+◌, ◌-◌, ◌*◌, ◌/◌, List, length, Option, Some, unwrap_or, Result, Ok, Err, nat_lt, ◌==◌, if◌then◌else◌}
use Rattle.adc_ports.specs.declared.What.TheVariants.{Bytes, Rows}
use Rattle.adc_ports.specs.Reading.{Fault, Malformed, Limit, ◌>>=◌}
use Rattle.vec_files.specs.Rows.{header_at}
use Rattle.vec_files.specs.declared.Checked.{Checked}

-- n components of this many bytes each begin there: where the next row begins
unfoldable pub after_components : ℕ → ℕ → List ℕ → ℕ → Result ℕ Fault
after_components width n bytes at = if nat_lt (length bytes) (at + width * n) then Err (Malformed (at + (length bytes - at) / width * width))
    else Ok (at + width * n)

-- where so many more rows may begin, and so many were seen
abbrev pub found_from : ℕ → ℕ → ℕ → Option ℕ → List ℕ → ℕ → Result Checked Fault
found_from width zero seen wanted bytes at = if at == length bytes then Ok (record { d = unwrap_or wanted 0; rows = seen }) else Err (Limit Rows 4194305)
found_from width (suc left) seen wanted bytes at = if at == length bytes then Ok (record { d = unwrap_or wanted 0; rows = seen }) else do
  d ← header_at wanted bytes at
  next ← after_components width d.0 bytes d.1
  found_from width left (seen + 1) (Some d.0) bytes next

unfoldable pub rest_of : ℕ → ℕ → Option ℕ → List ℕ → ℕ → Result Checked Fault
rest_of width seen wanted bytes at = found_from width (4194304 - seen) seen wanted bytes at

-- of a whole file
unfoldable pub whole_of : ℕ → Option ℕ → List ℕ → Result Checked Fault
whole_of width wanted bytes = if nat_lt 2147483648 (length bytes) then Err (Limit Bytes (length bytes)) else rest_of width 0 wanted bytes 0
