-- Calls that read, one after another.
use Rattle.std.proofs.Common.{◌≡◌, ◌∙◌, ℕ, ◌≤◌, Ok, Err, sym, ap, arith}
use Rattle.std.specs.Prelude.{Some, Result}
use Rattle.adc_ports.specs.Files.{Files, Rose}
use Rattle.adc_ports.specs.States.{ShelfState, OnlyReads, SameReads}
use Rattle.adc_ports.proofs.StateLemmas.{reads_on}
use Rattle.adc_inputs.specs.declared.stop.InputError.{InputError}
use Rattle.adc_inputs.specs.declared.stop.Stop.{Stop}
use Rattle.adc_inputs.specs.declared.stop.Stop.TheVariants.{Input, Unread, OutOfMemory}
use Rattle.adc_inputs.specs.Steps.{Stops, IsDue, Decodes, Reads, nothing_wrong}

-- a count that rose since then rose since before
pub rose_since : (old mid new : ℕ) → old ≤ mid → Rose mid new → Rose old new
rose_since old mid new le h = omega (arith, le, h)

pub stops_since : (stop : Stop) (a b c : ShelfState) → OnlyReads a b → SameReads a b → Stops stop b c → Stops stop a c
stops_since (Input error) a b c only same h = tt
stops_since (Unread role) a b c only same h = rose_since a.read_faults b.read_faults c.read_faults only.reads h
stops_since OutOfMemory a b c only same h = (h.0 ∙ same, h.1 ∙ only.writes)

-- a stop that is due for one input is due for all that are read with it
pub due_on : {X Y : Type 0} (stop : Stop) (first : Result X InputError) (all : Result Y InputError) → ((error : InputError) → first ≡ Err error → all ≡ Err error) → IsDue stop first → IsDue stop all
due_on (Input error) first all on h = on error h
due_on (Unread role) first all on h = tt
due_on OutOfMemory first all on h = tt

-- a call that stopped, after others
pub reads_stop : {X X1 Y Y1 : Type 0} {Good : Files → X → Type 0} {Good1 : Files → X1 → Type 0} {first : Files → Result Y InputError} {all : Files → Result Y1 InputError} {a b c : ShelfState} (stop : Stop)
    → OnlyReads a b → SameReads a b → Reads {X = X} (Err stop) Good first b c → ((files : Files) (error : InputError) → a.files ≡ Some files → first files ≡ Err error → all files ≡ Err error) → Reads {X = X1} (Err stop) Good1 all a c
reads_stop {first = first} {all = all} {a = a} {b = b} {c = c} stop only same h on = record {
  only = reads_on a b c only h.only;
  counts = tt;
  cause = stops_since stop a b c only same h.cause;
  found = λ files told. due_on stop (first files) (all files) (λ error e. on files error told e) (h.found files (only.files ∙ told));
}

-- bytes that were read, after others
pub reads_decoded : {X Y : Type 0} (view : X → Y) (result : Result X Stop) (inner : Result Y InputError) (wanted : Files → Result Y InputError) (a b : ShelfState)
    → OnlyReads a b → SameReads a b → Decodes view result inner → ((files : Files) → a.files ≡ Some files → wanted files ≡ inner) → Reads result (λ files x. wanted files ≡ Ok (view x)) wanted a b
reads_decoded view (Ok x) inner wanted a b only same h is = record { only = only; counts = same; cause = tt; found = λ files told. is files told ∙ h }
reads_decoded view (Err (Input error)) inner wanted a b only same h is = record { only = only; counts = tt; cause = tt; found = λ files told. is files told ∙ h }
reads_decoded view (Err (Unread role)) inner wanted a b only same h is = elim h [ ]
reads_decoded view (Err OutOfMemory) inner wanted a b only same h is = record { only = only; counts = tt; cause = (same, only.writes); found = λ files told. tt }

-- what was read of an input with which nothing is wrong
due_sound : {Y : Type 0} (stop : Stop) (files : Files) (wanted : Result Y InputError) → IsDue stop (nothing_wrong files) → IsDue stop wanted
due_sound (Input error) files wanted due = cc
due_sound (Unread role) files wanted due = tt
due_sound OutOfMemory files wanted due = tt

pub reads_sound : {X Y : Type 0} (view : X → Y) (result : Result X Stop) (held : Files → Y) (wanted : Files → Result Y InputError) (a b c : ShelfState) → OnlyReads a b → SameReads a b
    → ((files : Files) → a.files ≡ Some files → wanted files ≡ Ok (held files)) → Reads result (λ files x. view x ≡ held files) nothing_wrong b c → Reads result (λ files x. wanted files ≡ Ok (view x)) wanted a c
reads_sound view (Ok x) held wanted a b c only same is h = record {
  only = reads_on a b c only h.only;
  counts = h.counts ∙ same;
  cause = tt;
  found = λ files told. is files told ∙ ap Ok (sym (h.found files (only.files ∙ told)));
}
reads_sound view (Err stop) held wanted a b c only same is h = record {
  only = reads_on a b c only h.only;
  counts = tt;
  cause = stops_since stop a b c only same h.cause;
  found = λ files told. due_sound stop files (wanted files) (h.found files (only.files ∙ told));
}
