-- Input files as a run sees them.
use Rattle.std.specs.Prelude.{◌≡◌, ℕ, List, [], length, Option, Some, None, Result, Ok, Err, nat_lt, if◌then◌else◌}
use Rattle.std.specs.Result.{result_unwrap_or}
use Rattle.adc_ports.specs.Files.{Files, bytes_of}
use Rattle.adc_ports.specs.Reading as fields
use Rattle.adc_ports.specs.declared.What.TheVariants.{Bytes}
use Rattle.vec_files.specs.Rows.{bvecs_outcome}
use Rattle.vec_files.specs.Found.{found}
use Rattle.vec_files.specs.declared.Checked.{Checked}
use Rattle.codebook_core.specs.Reading.{book_outcome}
use Rattle.book_model.specs.Book.{Book}
use Rattle.play_script.specs.declared.Command.{Command}
use Rattle.play_script.specs.declared.Role.{Role}
use Rattle.play_script.specs.declared.Role.TheVariants as role
use Rattle.play_script.specs.Grammar as script
use Rattle.play_script.specs.Grammar.{script_outcome}
use Rattle.adc_inputs.specs.Names.{Name}
use Rattle.adc_inputs.specs.declared.stop.InputError.{InputError}
use Rattle.adc_inputs.specs.declared.stop.InputError.TheVariants.{Missing, Malformed, BadLine, Limit}

infixl 10 ◌>>=◌
abbrev pub ◌>>=◌ : {A B : Type 0} → Result A InputError → (A → Result B InputError) → Result B InputError
(Ok x) >>= f = f x
(Err e) >>= f = Err e

-- the first fault of a file, with its role
abbrev pub of_role : {A : Type 0} → Role → Result A fields.Fault → Result A InputError
of_role role (Ok x) = Ok x
of_role role (Err (fields.Malformed at)) = Err (Malformed role at)
of_role role (Err (fields.Limit what value)) = Err (Limit role what value)

-- the first fault of a script: a line, or a limit
abbrev pub of_script : {A : Type 0} → Result A script.Fault → Result A InputError
of_script (Ok x) = Ok x
of_script (Err (script.BadLine n)) = Err (BadLine n)
of_script (Err (script.Limit what value)) = Err (Limit role.Script what value)

-- the bytes of an input, if it is there
abbrev pub bytes_or_missing : Role → Option (List ℕ) → Result (List ℕ) InputError
bytes_or_missing role None = Err (Missing role)
bytes_or_missing role (Some bytes) = Ok bytes

-- the book of an input
unfoldable pub book_input : Files → Name → Result Book InputError
book_input files name = bytes_or_missing role.Book (files name) >>= λ bytes. of_role role.Book (book_outcome bytes)

-- the rows of an input, each of d components
unfoldable pub rows_input : Files → Role → Name → ℕ → Result (List (List ℕ)) InputError
rows_input files role name d = bytes_or_missing role (files name) >>= λ bytes. of_role role (bvecs_outcome (Some d) bytes)

-- the commands of an input
unfoldable pub script_input : Files → Name → Result (List Command) InputError
script_input files name = bytes_or_missing role.Script (files name) >>= λ bytes. of_script (script_outcome bytes)

-- the rows of a good input
abbrev pub rows_held : Files → Role → Name → ℕ → List (List ℕ)
rows_held files role name d = result_unwrap_or (rows_input files role name d) []

-- the bytes of an input that has at most this many
unfoldable pub sized_input : Files → Role → Name → ℕ → Result (List ℕ) InputError
sized_input files role name most = bytes_or_missing role (files name) >>= λ bytes. if nat_lt most (length bytes) then Err (Limit role Bytes (length bytes)) else Ok bytes

-- what a check found is the rows of the input, each of d components
pub record IsCheckOf (files : Files) (role : Role) (name : Name) (d : ℕ) (checked : Checked) : Type 0 where
  pub input : rows_input files role name d ≡ Ok (rows_held files role name d)
  pub outcome : bvecs_outcome (Some d) (bytes_of files name) ≡ Ok (rows_held files role name d)
  pub finds : found (Some d) (rows_held files role name d) ≡ checked
  pub rows : checked.rows ≡ length (rows_held files role name d)
