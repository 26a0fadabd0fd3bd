-- Jobs that write a file: reads, then writes of the file, then lines.
use Rattle.std.proofs.Common.{◌≡◌, ◌∙◌, ℕ, List, [], length, take, None, Some, Ok, Err, is_some, IfSome, inl, inr, refl, sym, ap, subst, arith}
use Rattle.std.specs.Prelude.{Option, Result, ◌⊎◌}
use Rattle.std.proofs.KnownBytes.{Appends-nil}
use Rattle.std.proofs.lemmas.List.{take_all}
use Rattle.adc_ports.specs.Files.{Files, Rose, OthersStay}
use Rattle.adc_ports.specs.States.{ShelfState, SinkState, OnlyReads, OnlyWrites, SameWrites, Has}
use Rattle.adc_ports.proofs.StateLemmas.{reads_on, puts_none}
use Rattle.vec_files.specs.declared.WriteError.{WriteError}
use Rattle.vec_files.specs.declared.WriteError.TheVariants as write
use Rattle.play_script.specs.declared.Role.{Role}
use Rattle.play_script.specs.Play.{Counts}
use Rattle.adc_inputs.specs.declared.stop.InputError.{InputError}
use Rattle.adc_inputs.specs.declared.stop.Stop.{Stop}
use Rattle.adc_inputs.specs.declared.stop.Stop.TheVariants.{OutOfMemory}
use Rattle.adc_inputs.specs.Names.{Name}
use Rattle.adc_inputs.specs.Steps.{Reads}
use Rattle.adc_inputs.proofs.Reading.{due_on}
use Rattle.adc_program.specs.declared.halts.Halted.{Halted}
use Rattle.adc_program.specs.declared.halts.Halted.TheVariants.{Stopped, Unsaved, Unwritten}
use Rattle.adc_program.specs.Outputs.{OutFile, role_of, Output}
use Rattle.adc_program.specs.Ends.{IsGood, HasFile, HasFront, Leaves, Writes, WritesText, Saves, Ends}
use Rattle.adc_program.specs.Steps.{ReadsWell, Puts, OnlyChanges, Makes, lines_wanted, file_wanted}
use Rattle.adc_program.specs.Filed.{halted_of}
use Rattle.adc_program.proofs.Faults.{no_fault_read, causes_on, stop_halts, put_halts}

same_files : (name : Name) (o : Option Files) → IfSome o (λ before. IfSome o (λ after. OthersStay before after name))
same_files name None = tt
same_files name (Some f) = λ other apart. refl

-- reads alone, and reads before writes
pub changes_read : (name : Name) (a b : ShelfState) → OnlyReads a b → OnlyChanges name a b
changes_read name a b reads = record {
  told = ap is_some reads.files;
  others = subst (λ (f : Option Files). IfSome a.files (λ before. IfSome f (λ after. OthersStay before after name))) (sym reads.files) (same_files name a.files);
  reads = reads.reads;
  writes = omega (arith, reads.writes);
}

pub changes_on : (name : Name) (a b c : ShelfState) → OnlyReads a b → OnlyWrites name b c → OnlyChanges name a c
changes_on name a b c reads writes = record {
  told = writes.told ∙ ap is_some reads.files;
  others = subst (λ (f : Option Files). IfSome f (λ before. IfSome c.files (λ after. OthersStay before after name))) reads.files writes.others;
  reads = omega (arith, reads.reads, writes.reads);
  writes = omega (arith, reads.writes, writes.writes);
}

has_told : (name : Name) (files : Files) (state : ShelfState) → state.files ≡ Some files → Has state name (files name)
has_told name files state told = subst (λ (f : Option Files). IfSome f (λ fs. fs name ≡ files name)) (sym told) refl

front_same : (file : Option OutFile) (files : Files) (state : ShelfState) → state.files ≡ Some files → HasFront file files state
front_same None files state told = tt
front_same (Some file) files state told = inl (has_told file.name files state told)

-- a stop before anything is written
pub makes_stop : {X Y : Type 0} {Good : Files → X → Type 0} {first : Files → Result Y InputError} {wanted : Files → Result Output InputError} {a b : ShelfState} {o : SinkState} (name : Name) (stop : Stop)
    → Reads {X = X} (Err stop) Good first a b → ((files : Files) (error : InputError) → a.files ≡ Some files → first files ≡ Err error → wanted files ≡ Err error) → Makes (Some name) (Err (Stopped stop)) wanted a b o o
makes_stop {first = first} {wanted = wanted} {a = a} {b = b} {o = o} name stop h on = record {
  changes = changes_read name a b h.only;
  puts = puts_none o;
  cause = stop_halts stop a b o h.cause;
  saves = λ files told. tt;
  written = λ files told. record { adds = record { front = []; rest = lines_wanted (wanted files); are = refl; added = Appends-nil o.written }; more = λ filed left. left };
  ends = λ files told. due_on stop (first files) (wanted files) (λ error e. on files error told e) (h.found files told);
  leaves = λ files told. front_same (file_wanted (wanted files)) files b (h.only.files ∙ told);
  stays = λ files told none. h.only;
}

-- memory ran out before anything was written
pub makes_memory : {wanted : Files → Result Output InputError} {a b : ShelfState} {o : SinkState} (name : Name) → ReadsWell a b → Makes (Some name) (Err (Stopped OutOfMemory)) wanted a b o o
makes_memory {wanted = wanted} {a = a} {b = b} {o = o} name only = record {
  changes = changes_read name a b only.only;
  puts = puts_none o;
  cause = no_fault_read a b o only;
  saves = λ files told. tt;
  written = λ files told. record { adds = record { front = []; rest = lines_wanted (wanted files); are = refl; added = Appends-nil o.written }; more = λ filed left. left };
  ends = λ files told. tt;
  leaves = λ files told. front_same (file_wanted (wanted files)) files b (only.only.files ∙ told);
  stays = λ files told none. only.only;
}

-- the same job, after reads, by what it is to write
pub makes_as : {first wanted : Files → Result Output InputError} {a b : ShelfState} {o p : SinkState} (out : Option Name) (result : Result (Unit {0}) Halted)
    → Makes out result first a b o p → ((files : Files) → a.files ≡ Some files → wanted files ≡ first files) → Makes out result wanted a b o p
makes_as {first = first} {wanted = wanted} {a = a} {b = b} {o = o} {p = p} out result h is = record {
  changes = h.changes;
  puts = h.puts;
  cause = h.cause;
  saves = λ files told. subst (λ (w : Result Output InputError). Saves result (role_of (file_wanted w))) (sym (is files told)) (h.saves files told);
  written = λ files told. subst (λ (w : Result Output InputError). WritesText (is_some (file_wanted w)) result o.written p.written (lines_wanted w)) (sym (is files told)) (h.written files told);
  ends = λ files told. subst (λ (w : Result Output InputError). Ends result w) (sym (is files told)) (h.ends files told);
  leaves = λ files told. subst (λ (w : Result Output InputError). Leaves result (file_wanted w) files b) (sym (is files told)) (h.leaves files told);
  stays = λ files told none. h.stays files told (ap file_wanted (sym (is files told)) ∙ none);
}

changes_more : (name : Name) (a b c : ShelfState) → OnlyReads a b → OnlyChanges name b c → OnlyChanges name a c
changes_more name a b c reads h = record {
  told = h.told ∙ ap is_some reads.files;
  others = subst (λ (f : Option Files). IfSome f (λ before. IfSome c.files (λ after. OthersStay before after name))) reads.files h.others;
  reads = omega (arith, reads.reads, h.reads);
  writes = omega (arith, reads.writes, h.writes);
}

-- the same job after reads, by what it is to write
pub makes_after : {first wanted : Files → Result Output InputError} {a b c : ShelfState} {o p : SinkState} (name : Name) (result : Result (Unit {0}) Halted)
    → ReadsWell a b → Makes (Some name) result first b c o p → ((files : Files) → a.files ≡ Some files → wanted files ≡ first files) → Makes (Some name) result wanted a c o p
makes_after {first = first} {wanted = wanted} {a = a} {b = b} {c = c} {o = o} {p = p} name result only h is = record {
  changes = changes_more name a b c only.only h.changes;
  puts = h.puts;
  cause = causes_on result a b c o o p (no_fault_read a b o only) h.cause;
  saves = λ files told. subst (λ (w : Result Output InputError). Saves result (role_of (file_wanted w))) (sym (is files told)) (h.saves files (only.only.files ∙ told));
  written = λ files told. subst (λ (w : Result Output InputError). WritesText (is_some (file_wanted w)) result o.written p.written (lines_wanted w)) (sym (is files told)) (h.written files (only.only.files ∙ told));
  ends = λ files told. subst (λ (w : Result Output InputError). Ends result w) (sym (is files told)) (h.ends files (only.only.files ∙ told));
  leaves = λ files told. subst (λ (w : Result Output InputError). Leaves result (file_wanted w) files c) (sym (is files told)) (h.leaves files (only.only.files ∙ told));
  stays = λ files told none. reads_on a b c only.only (h.stays files (only.only.files ∙ told) (ap file_wanted (sym (is files told)) ∙ none));
}

-- an output with a file wants one
is_filed : (part : Role) (name : Name) (lines : List (List ℕ)) (bytes : List ℕ) (queries : List Counts) (w : Result Output InputError) → w ≡ Ok (record { lines = lines; file = Some (record { role = part; name = name; bytes = bytes }); queries = queries }) → file_wanted w ≡ None → ⊥
is_filed part name lines bytes queries w e none =
    let filed : file_wanted w ≡ Some (record { role = part; name = name; bytes = bytes }) = ap file_wanted e in
    let two : ◌≡◌ {A = Option OutFile} None (Some (record { role = part; name = name; bytes = bytes })) = sym none ∙ filed in
    cc

-- a file that was written whole has the first of its bytes
front_whole : (part : Role) (name : Name) (bytes : List ℕ) (files : Files) (state : ShelfState) → Has state name (Some bytes) → HasFront (Some (record { role = part; name = name; bytes = bytes })) files state
front_whole part name bytes files state has = inr (length bytes, subst (λ (l : List ℕ). Has state name (Some l)) (sym (take_all (length bytes) bytes (omega arith))) has)

-- the file that is written after reads, where this is the output
module _ {wanted : Files → Result Output InputError} {a b c : ShelfState} {o : SinkState} (part : Role) (name : Name) (lines : List (List ℕ)) (bytes : List ℕ) (queries : List Counts)
    (reads : ReadsWell a b) (writes : OnlyWrites name b c)
    (is : (files : Files) → a.files ≡ Some files → wanted files ≡ Ok (record { lines = lines; file = Some (record { role = part; name = name; bytes = bytes }); queries = queries })) where
  -- it was not written whole
  pub makes_unsaved : (error : WriteError) → ((file : Option (List ℕ)) → Has b name file → Has c name file ⊎ ((n : ℕ) × Has c name (Some (take n bytes))))
      → (error ≡ write.WriteFault → Rose b.write_faults c.write_faults) → (error ≡ write.Memory → SameWrites b c) → Makes (Some name) (Err (halted_of part error)) wanted a c o o
  makes_unsaved write.WriteFault front failed memory = record {
    changes = changes_on name a b c reads.only writes;
    puts = puts_none o;
    cause = subst (λ (n : ℕ). Rose n c.write_faults) reads.only.writes (failed refl);
    saves = λ files told. ap (λ (w : Result Output InputError). role_of (file_wanted w)) (is files told);
    written = λ files told. record { adds = record { front = []; rest = lines_wanted (wanted files); are = refl; added = Appends-nil o.written }; more = λ filed left. left };
    ends = λ files told. subst (λ (w : Result Output InputError). IsGood w) (sym (is files told)) tt;
    leaves = λ files told. subst (λ (w : Result Output InputError). HasFront (file_wanted w) files c) (sym (is files told)) (front (files name) (has_told name files b (reads.only.files ∙ told)));
    stays = λ files told none. absurd (is_filed part name lines bytes queries (wanted files) (is files told) none);
  }
  makes_unsaved write.Memory front failed memory = record {
    changes = changes_on name a b c reads.only writes;
    puts = puts_none o;
    cause = record { reads = writes.reads ∙ reads.same; writes = memory refl ∙ reads.only.writes; puts = refl };
    saves = λ files told. tt;
    written = λ files told. record { adds = record { front = []; rest = lines_wanted (wanted files); are = refl; added = Appends-nil o.written }; more = λ filed left. left };
    ends = λ files told. tt;
    leaves = λ files told. subst (λ (w : Result Output InputError). HasFront (file_wanted w) files c) (sym (is files told)) (front (files name) (has_told name files b (reads.only.files ∙ told)));
    stays = λ files told none. absurd (is_filed part name lines bytes queries (wanted files) (is files told) none);
  }

  -- it was, and then lines were put
  pub makes_filed : {p : SinkState} (result : Result (Unit {0}) Halted) → Has c name (Some bytes) → SameWrites b c → Puts result lines o p → Makes (Some name) result wanted a c o p
  makes_filed {p} (Ok x) has same puts = record {
    changes = changes_on name a b c reads.only writes;
    puts = puts.only;
    cause = record { reads = writes.reads ∙ reads.same; writes = same ∙ reads.only.writes; puts = puts.counts };
    saves = λ files told. tt;
    written = λ files told. subst (λ (w : Result Output InputError). Writes {X = Unit {0}} (Ok x) o.written p.written (lines_wanted w)) (sym (is files told)) puts.written;
    ends = λ files told. subst (λ (w : Result Output InputError). IsGood w) (sym (is files told)) tt;
    leaves = λ files told. subst (λ (w : Result Output InputError). HasFile (file_wanted w) c) (sym (is files told)) has;
    stays = λ files told none. absurd (is_filed part name lines bytes queries (wanted files) (is files told) none);
  }
  makes_filed (Err (Stopped stop)) has same puts = elim puts.unwritten [ ]
  makes_filed (Err (Unsaved role)) has same puts = elim puts.unwritten [ ]
  makes_filed {p} (Err (Unwritten halt)) has same puts = record {
    changes = changes_on name a b c reads.only writes;
    puts = puts.only;
    cause = put_halts halt a c o o p (record { reads = writes.reads ∙ reads.same; writes = same ∙ reads.only.writes; puts = refl }) puts.unwritten;
    saves = λ files told. tt;
    written = λ files told. subst (λ (w : Result Output InputError). Writes {X = Unit {0}} (Err (Unwritten halt)) o.written p.written (lines_wanted w)) (sym (is files told)) puts.written;
    ends = λ files told. subst (λ (w : Result Output InputError). IsGood w) (sym (is files told)) tt;
    leaves = λ files told. subst (λ (w : Result Output InputError). HasFront (file_wanted w) files c) (sym (is files told)) (front_whole part name bytes files c has);
    stays = λ files told none. absurd (is_filed part name lines bytes queries (wanted files) (is files told) none);
  }
