-- What reading a script answers, against its outcome.
use Rattle.std.specs.Prelude.{◌≡◌, List, ◌++◌, Result, Ok, Err}
use Rattle.play_script.specs.declared.script.ScriptError.{ScriptError}
use Rattle.play_script.specs.declared.script.ScriptError.TheVariants as error
use Rattle.play_script.specs.Grammar.{Fault, BadLine, Limit}

-- the outcome is the fault that an error names; memory may run out at any outcome
abbrev pub Fails : {Y : Type 0} → ScriptError → Result Y Fault → Type 0
Fails error.Memory outcome = Unit {0}
Fails (error.Malformed n) outcome = outcome ≡ Err (BadLine n)
Fails (error.Limit what value) outcome = outcome ≡ Err (Limit what value)

-- what was read, seen by view, is the outcome, unless memory ran out
abbrev pub Gives : {X Y : Type 0} → (X → Y) → Result X ScriptError → Result Y Fault → Type 0
Gives view (Ok x) outcome = outcome ≡ Ok (view x)
Gives view (Err e) outcome = Fails e outcome

-- commands that were read before, and what is still read
abbrev pub with_front : {C : Type 0} → List C → Result (List C) Fault → Result (List C) Fault
with_front front (Ok commands) = Ok (front ++ commands)
with_front front (Err e) = Err e
