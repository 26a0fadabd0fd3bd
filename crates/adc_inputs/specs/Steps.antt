-- What one call that reads did, as one fact.
use Rattle.std.specs.Prelude.{◌≡◌, Result, Ok, Err, IfErr, OnOk, MatchResult}
use Rattle.std.specs.Option.{ForSome}
use Rattle.adc_ports.specs.Files.{Files, Rose}
use Rattle.adc_ports.specs.States.{ShelfState, OnlyReads, SameReads, SameWrites}
use Rattle.adc_inputs.specs.declared.stop.InputError.{InputError}
use Rattle.adc_inputs.specs.declared.stop.Stop.{Stop}
use Rattle.adc_inputs.specs.declared.stop.Stop.TheVariants.{Input, Unread, OutOfMemory}

-- the cause of a stop, over any shelf: an input is unread only if the count of read faults rose, and memory ran out only if
-- no count of faults did
abbrev pub Stops : Stop → ShelfState → ShelfState → Type 0
Stops (Input error) old new = Unit {0}
Stops (Unread role) old new = Rose old.read_faults new.read_faults
Stops OutOfMemory old new = SameReads old new × SameWrites old new

-- a stop is due where this is to be found: what it says of an input is what is wrong
abbrev pub IsDue : {Y : Type 0} → Stop → Result Y InputError → Type 0
IsDue (Input error) wanted = wanted ≡ Err error
IsDue (Unread role) wanted = Unit {0}
IsDue OutOfMemory wanted = Unit {0}

-- what bytes are read as, seen by view, is what is to be found, or a stop that no read caused is due
abbrev pub Decodes : {X Y : Type 0} → (X → Y) → Result X Stop → Result Y InputError → Type 0
Decodes view (Ok x) wanted = wanted ≡ Ok (view x)
Decodes view (Err (Input error)) wanted = wanted ≡ Err error
Decodes view (Err (Unread role)) wanted = ⊥
Decodes view (Err OutOfMemory) wanted = Unit {0}

-- a call that reads gave what is good by these files and counted no fault, or stopped with its cause where that is due. It
-- changes no file
pub record Reads {X Y : Type 0} (result : Result X Stop) (Good : Files → X → Type 0) (wanted : Files → Result Y InputError) (old new : ShelfState) : Type 0 where
  pub only : OnlyReads old new
  pub counts : OnOk result (SameReads old new)
  pub cause : IfErr result (λ stop. Stops stop old new)
  pub found : ForSome old.files (λ files. MatchResult result (Good files) (λ stop. IsDue stop (wanted files)))

-- the same of a call that gives what is to be found, seen by view
abbrev pub Finds : {X Y : Type 0} → (X → Y) → Result X Stop → (Files → Result Y InputError) → ShelfState → ShelfState → Type 0
Finds view result wanted old new = Reads result (λ files x. wanted files ≡ Ok (view x)) wanted old new

-- nothing is wrong with the inputs
abbrev pub nothing_wrong : Files → Result (Unit {0}) InputError
nothing_wrong files = Ok tt
