-- Calls on the outside, one after another.
use Rattle.std.proofs.Common.{◌≡◌, ◌∙◌, ℕ, List, [], ◌++◌, Ok, Err, refl, sym, subst, arith}
use Rattle.std.specs.Prelude.{Option, Some, Result, IfErr}
use Rattle.std.specs.Result.{result_unwrap_or}
use Rattle.std.proofs.KnownBytes.{Appends-nil}
use Rattle.adc_ports.specs.Files.{Files}
use Rattle.adc_ports.specs.States.{ShelfState, SinkState}
use Rattle.adc_ports.proofs.StateLemmas.{reads_none, reads_on, puts_none, puts_on}
use Rattle.adc_inputs.specs.declared.stop.InputError.{InputError}
use Rattle.adc_inputs.specs.declared.stop.Stop.{Stop}
use Rattle.adc_inputs.specs.declared.stop.Stop.TheVariants.{Input, Unread, OutOfMemory}
use Rattle.adc_program.specs.declared.halts.Halted.{Halted}
use Rattle.adc_program.specs.declared.halts.Halted.TheVariants.{Stopped, Unsaved, Unwritten}
use Rattle.adc_program.specs.Ends.{IsGood, Writes, Ends}
use Rattle.adc_inputs.specs.Steps.{Reads}
use Rattle.adc_inputs.proofs.Reading.{due_on}
use Rattle.adc_program.specs.Steps.{ReadsWell, Puts, Plays}
use Rattle.adc_program.proofs.Faults.{no_fault_none, no_fault_read, causes_on, stop_halts, put_halts}
use Rattle.adc_program.proofs.Writing.{writes_after, writes_before}

good_of : (wanted : Result (List (List ℕ)) InputError) (lines : List (List ℕ)) → wanted ≡ Ok lines → IsGood wanted
good_of wanted lines e = subst (λ (w : Result (List (List ℕ)) InputError). IsGood w) (sym e) tt

writes_as : (result : Result (Unit {0}) Halted) (old new : Option (List ℕ)) (wanted wanted1 : Result (List (List ℕ)) InputError) → wanted ≡ wanted1
    → Writes result old new (result_unwrap_or wanted1 []) → Writes result old new (result_unwrap_or wanted [])
writes_as result old new wanted wanted1 e h = subst (λ (w : Result (List (List ℕ)) InputError). Writes result old new (result_unwrap_or w [])) (sym e) h

-- lines that were put, after reads
pub plays_puts : {lines : List (List ℕ)} {wanted : Files → Result (List (List ℕ)) InputError} {a b : ShelfState} {o p : SinkState} (result : Result (Unit {0}) Halted)
    → ReadsWell a b → Puts result lines o p → ((files : Files) → a.files ≡ Some files → wanted files ≡ Ok lines) → Plays result wanted a b o p
plays_puts {lines = lines} {wanted = wanted} {a = a} {b = b} {o = o} {p = p} (Ok x) reads puts is = record {
  reads = reads.only;
  puts = puts.only;
  cause = record { reads = reads.same; writes = reads.only.writes; puts = puts.counts };
  saves = tt;
  written = λ files told. writes_as (Ok x) o.written p.written (wanted files) (Ok lines) (is files told) puts.written;
  ends = λ files told. good_of (wanted files) lines (is files told);
}
plays_puts (Err (Stopped stop)) reads puts is = elim puts.unwritten [ ]
plays_puts (Err (Unsaved role)) reads puts is = elim puts.unwritten [ ]
plays_puts {lines = lines} {wanted = wanted} {a = a} {b = b} {o = o} {p = p} (Err (Unwritten halt)) reads puts is = record {
  reads = reads.only;
  puts = puts.only;
  cause = put_halts halt a b o o p (no_fault_read a b o reads) puts.unwritten;
  saves = tt;
  written = λ files told. writes_as (Err (Unwritten halt)) o.written p.written (wanted files) (Ok lines) (is files told) puts.written;
  ends = λ files told. good_of (wanted files) lines (is files told);
}

-- a stop before anything is written
pub plays_stop : {X Y : Type 0} {Good : Files → X → Type 0} {first : Files → Result Y InputError} {wanted : Files → Result (List (List ℕ)) InputError} {a b : ShelfState} {o : SinkState} (stop : Stop)
    → Reads {X = X} (Err stop) Good first a b → ((files : Files) (error : InputError) → a.files ≡ Some files → first files ≡ Err error → wanted files ≡ Err error) → Plays (Err (Stopped stop)) wanted a b o o
plays_stop {first = first} {wanted = wanted} {a = a} {b = b} {o = o} stop h on = record {
  reads = h.only;
  puts = puts_none o;
  cause = stop_halts stop a b o h.cause;
  saves = tt;
  written = λ files told. record { front = []; rest = result_unwrap_or (wanted files) []; are = refl; added = Appends-nil o.written };
  ends = λ files told. due_on stop (first files) (wanted files) (λ error e. on files error told e) (h.found files told);
}

-- an input is at fault, which was found without a further call
pub plays_due : {wanted : Files → Result (List (List ℕ)) InputError} {a b : ShelfState} {o : SinkState} (error : InputError)
    → ReadsWell a b → ((files : Files) → a.files ≡ Some files → wanted files ≡ Err error) → Plays (Err (Stopped (Input error))) wanted a b o o
plays_due {wanted = wanted} {o = o} error only is = record {
  reads = only.only;
  puts = puts_none o;
  cause = tt;
  saves = tt;
  written = λ files told. record { front = []; rest = result_unwrap_or (wanted files) []; are = refl; added = Appends-nil o.written };
  ends = λ files told. is files told;
}

-- memory ran out before anything was written
pub plays_memory : {wanted : Files → Result (List (List ℕ)) InputError} {a b : ShelfState} {o : SinkState} → ReadsWell a b → Plays (Err (Stopped OutOfMemory)) wanted a b o o
plays_memory {wanted = wanted} {a = a} {b = b} {o = o} only = record {
  reads = only.only;
  puts = puts_none o;
  cause = no_fault_read a b o only;
  saves = tt;
  written = λ files told. record { front = []; rest = result_unwrap_or (wanted files) []; are = refl; added = Appends-nil o.written };
  ends = λ files told. tt;
}

-- the same play in other words, after reads
pub plays_as : {first wanted : Files → Result (List (List ℕ)) InputError} {a b c : ShelfState} {o p : SinkState} (result : Result (Unit {0}) Halted)
    → ReadsWell a b → Plays result first b c o p → ((files : Files) → a.files ≡ Some files → wanted files ≡ first files) → Plays result wanted a c o p
plays_as {first = first} {wanted = wanted} {a = a} {b = b} {c = c} {o = o} {p = p} result only h is = record {
  reads = reads_on a b c only.only h.reads;
  puts = h.puts;
  cause = causes_on result a b c o o p (no_fault_read a b o only) h.cause;
  saves = h.saves;
  written = λ files told. writes_as result o.written p.written (wanted files) (first files) (is files told) (h.written files (only.only.files ∙ told));
  ends = λ files told. subst (λ (w : Result (List (List ℕ)) InputError). Ends result w) (sym (is files told)) (h.ends files (only.only.files ∙ told));
}

-- nothing was to be played
pub plays_none : (a : ShelfState) (o : SinkState) → Plays (Ok tt) (λ _. Ok []) a a o o
plays_none a o = record { reads = reads_none a; puts = puts_none o; cause = no_fault_none a o; saves = tt; written = λ files told. Appends-nil o.written; ends = λ files told. tt }

-- how a play of good lines ends does not depend on the lines
ends_any : (result : Result (Unit {0}) Halted) (lines more : List (List ℕ)) → Ends result (Ok lines) → Ends result (Ok more)
ends_any (Ok x) lines more h = tt
ends_any (Err (Stopped (Input error))) lines more h = cc
ends_any (Err (Stopped (Unread role))) lines more h = tt
ends_any (Err (Stopped OutOfMemory)) lines more h = tt
ends_any (Err (Unsaved role)) lines more h = tt
ends_any (Err (Unwritten halt)) lines more h = tt

-- lines that were played, and then more of them
pub plays_after : {first more : Files → List (List ℕ)} {a b c : ShelfState} {o p q : SinkState} (result : Result (Unit {0}) Halted)
    → Plays (Ok tt) (λ files. Ok (first files)) a b o p → Plays result (λ files. Ok (more files)) b c p q → Plays result (λ files. Ok (first files ++ more files)) a c o q
plays_after {first = first} {more = more} {a = a} {b = b} {c = c} {o = o} {p = p} {q = q} result h next = record {
  reads = reads_on a b c h.reads next.reads;
  puts = puts_on o p q h.puts next.puts;
  cause = causes_on result a b c o p q h.cause next.cause;
  saves = next.saves;
  written = λ files told. writes_after result o.written p.written q.written (first files) (more files) (h.written files told) (next.written files (h.reads.files ∙ told));
  ends = λ files told. ends_any result (more files) (first files ++ more files) (next.ends files (h.reads.files ∙ told));
}

-- a halt within the first of the lines is one within all
pub plays_cut : {first : Files → List (List ℕ)} {a b : ShelfState} {o p : SinkState} (halted : Halted) (more : Files → List (List ℕ))
    → Plays (Err halted) (λ files. Ok (first files)) a b o p → Plays (Err halted) (λ files. Ok (first files ++ more files)) a b o p
plays_cut {first = first} {o = o} {p = p} halted more h = record {
  reads = h.reads;
  puts = h.puts;
  cause = h.cause;
  saves = h.saves;
  written = λ files told. writes_before halted o.written p.written (first files) (more files) (h.written files told);
  ends = λ files told. ends_any (Err halted) (first files) (first files ++ more files) (h.ends files told);
}
