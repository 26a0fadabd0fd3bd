-- Jobs that write a file row by row: what was added so far, and what the job then makes.
use Rattle.std.proofs.Common.{◌≡◌, ◌∙◌, ℕ, ◌+◌, true, List, [], ◌++◌, length, take, None, Some, Ok, Err, is_some, IfSome, inl, inr, refl, sym, ap, subst, append_assoc, arith}
use Rattle.std.specs.Prelude.{Option, Result, ◌⊎◌, IfErr, unwrap_or}
use Rattle.std.specs.Option.{IsSome}
use Rattle.std.specs.Result.{result_unwrap_or}
use Rattle.std.proofs.KnownBytes.{Appends-nil}
use Rattle.std.proofs.lemmas.Bool.{false≢true}
use Rattle.std.proofs.lemmas.List.{append-nil}
use Rattle.std.proofs.Math.Seq.{take-append-add}
use Rattle.adc_ports.specs.Files.{Files, Rose, OthersStay}
use Rattle.adc_ports.specs.States.{ShelfState, SinkState, OnlyReads, OnlyWrites, OnlyPuts, Has, IsThere}
use Rattle.adc_ports.proofs.StateLemmas.{reads_none, puts_none, puts_on}
use Rattle.vec_files.specs.Rows.{bvecs_outcome}
use Rattle.vec_files.specs.Found.{found}
use Rattle.vec_files.specs.declared.Checked.{Checked}
use Rattle.play_script.specs.declared.Role.{Role}
use Rattle.play_script.specs.declared.Role.TheVariants.{Out}
use Rattle.play_script.specs.Play.{Counts}
use Rattle.adc_inputs.specs.declared.stop.InputError.{InputError}
use Rattle.adc_inputs.specs.declared.stop.Stop.{Stop}
use Rattle.adc_inputs.specs.declared.stop.Stop.TheVariants.{Input, Unread, OutOfMemory}
use Rattle.adc_inputs.specs.Names.{Name}
use Rattle.adc_inputs.specs.Inputs.{rows_input, rows_held, IsCheckOf}
use Rattle.adc_inputs.specs.Steps.{Reads, nothing_wrong}
use Rattle.adc_program.specs.declared.halts.Halted.{Halted}
use Rattle.adc_program.specs.declared.halts.Halted.TheVariants.{Stopped, Unsaved, Unwritten}
use Rattle.adc_program.specs.Outputs.{OutFile, role_of, Output}
use Rattle.adc_program.specs.Ends.{IsGood, NoFault, WritesText, Saves, Ends, HasFile, HasFront, Leaves}
use Rattle.adc_program.specs.Steps.{ReadsWell, Puts, OnlyChanges, Makes, lines_wanted, file_wanted}
use Rattle.adc_program.specs.Rowing.{Begins, Grows, Adds}
use Rattle.adc_program.proofs.Faults.{well_none, no_fault_none, no_fault_read, no_fault_on, causes_on, stop_halts, put_halts}
use Rattle.adc_program.proofs.Filing.{changes_read, changes_on}
use Rattle.adc_program.proofs.Writing.{text_after, text_before, longer}

-- what does not depend on the file of a name
abbrev pub Ignores : {A : Type 0} → Name → (Files → A) → Type 0
Ignores name f = (files files1 : Files) → OthersStay files files1 name → f files1 ≡ f files

-- what a shelf that tells has of a name
has_at : (state : ShelfState) (files : Files) (name : Name) (file : Option (List ℕ)) → state.files ≡ Some files → files name ≡ file → Has state name file
has_at state files name file told is = subst (λ (f : Option Files). IfSome f (λ fs. fs name ≡ file)) (sym told) is

file_at : (state : ShelfState) (files : Files) (name : Name) (file : Option (List ℕ)) → state.files ≡ Some files → Has state name file → files name ≡ file
file_at state files name file told has = subst (λ (f : Option Files). IfSome f (λ fs. fs name ≡ file)) told has

-- a shelf that tells goes on to tell, and its other files stay
told_of : (name : Name) (x y : Option Files) (files : Files) → is_some y ≡ is_some x → IfSome x (λ before. IfSome y (λ after. OthersStay before after name)) → x ≡ Some files
    → (files1 : Files) × (y ≡ Some files1) × OthersStay files files1 name
told_of name x None files told others is = absurd (false≢true (told ∙ ap is_some is))
told_of name x (Some g) files told others is = (g, refl, subst (λ (f : Option Files). IfSome f (λ before. OthersStay before g name)) is others)

pub told_on : (name : Name) (a b : ShelfState) (files : Files) → OnlyChanges name a b → a.files ≡ Some files → (files1 : Files) × (b.files ≡ Some files1) × OthersStay files files1 name
told_on name a b files changes told = told_of name a.files b.files files changes.told changes.others told

told_back_of : (name : Name) (x y : Option Files) (files1 : Files) → is_some y ≡ is_some x → IfSome x (λ before. IfSome y (λ after. OthersStay before after name)) → y ≡ Some files1
    → (files : Files) × (x ≡ Some files) × OthersStay files files1 name
told_back_of name None y files1 told others is = absurd (false≢true (sym told ∙ ap is_some is))
told_back_of name (Some f) y files1 told others is = (f, refl, subst (λ (g : Option Files). IfSome g (λ after. OthersStay f after name)) is others)

pub told_back : (name : Name) (a b : ShelfState) (files1 : Files) → OnlyChanges name a b → b.files ≡ Some files1 → (files : Files) × (a.files ≡ Some files) × OthersStay files files1 name
told_back name a b files1 changes told = told_back_of name a.files b.files files1 changes.told changes.others told

-- changes of one file, one after another
changes_again : (name : Name) (a b c : ShelfState) → OnlyChanges name a b → OnlyChanges name b c → OnlyChanges name a c
changes_again name a b c p q = record {
  told = q.told ∙ p.told;
  others = both a.files b.files c.files p.told p.others q.others;
  reads = omega (arith, p.reads, q.reads);
  writes = omega (arith, p.writes, q.writes);
}
  where
    both : (x y z : Option Files) → is_some y ≡ is_some x
        → IfSome x (λ before. IfSome y (λ after. OthersStay before after name))
        → IfSome y (λ before. IfSome z (λ after. OthersStay before after name))
        → IfSome x (λ before. IfSome z (λ after. OthersStay before after name))
    both None y z told first next = tt
    both (Some f) None z told first next = absurd (false≢true told)
    both (Some f) (Some g) None told first next = tt
    both (Some f) (Some g) (Some h) told first next = λ other apart. next other apart ∙ first other apart

pub changes_write : (name : Name) (a b : ShelfState) → OnlyWrites name a b → OnlyChanges name a b
changes_write name a b writes = changes_on name a a b (reads_none a) writes

-- bytes that were added, and then more or the first of them
grows_after : (result : Result (Unit {0}) Halted) (name : Name) (held bytes more : List ℕ) (c : ShelfState) → Grows result name (held ++ bytes) more c → Grows result name held (bytes ++ more) c
grows_after (Ok x) name held bytes more c h = subst (λ (l : List ℕ). Has c name (Some l)) (append_assoc held bytes more) h
grows_after (Err halted) name held bytes more c h =
    (length bytes + h.0, subst (λ (l : List ℕ). Has c name (Some l)) (append_assoc held bytes (take h.0 more) ∙ ap (λ (l : List ℕ). held ++ l) (sym (take-append-add bytes more h.0))) h.1)

grows_before : (halted : Halted) (name : Name) (held bytes more : List ℕ) (c : ShelfState) → Grows {X = Unit {0}} (Err halted) name held bytes c → Grows {X = Unit {0}} (Err halted) name held (bytes ++ more) c
grows_before halted name held bytes more c h =
    let m = longer h.0 bytes more in
    (m.0, subst (λ (l : List ℕ). Has c name (Some (held ++ l))) m.1 h.1)

-- reads, and then lines
pub adds_read : {a b : ShelfState} {o : SinkState} (name : Name) → ReadsWell a b → Adds name (Ok tt) (λ files. []) (λ files. []) a b o o
adds_read {a} {b} {o} name reads = record {
  changes = changes_read name a b reads.only;
  puts = puts_none o;
  cause = no_fault_read a b o reads;
  saves = tt;
  ends = λ files told. tt;
  written = λ files told. Appends-nil o.written;
  grown = λ files told held is. has_at b files name (Some (held ++ [])) (reads.only.files ∙ told) (is ∙ ap Some (sym (append-nil held)));
}

pub adds_none : (name : Name) (a : ShelfState) (o : SinkState) → Adds name (Ok tt) (λ files. []) (λ files. []) a a o o
adds_none name a o = adds_read name (well_none a)

-- a stop, and running out of memory, before anything was added
pub adds_stop : {X : Type 0} {Good : Files → X → Type 0} {lines : Files → List (List ℕ)} {bytes : Files → List ℕ} {a b : ShelfState} {o : SinkState} (name : Name) (stop : Stop)
    → Reads {X = X} (Err stop) Good nothing_wrong a b → Adds name (Err (Stopped stop)) lines bytes a b o o
adds_stop {lines = lines} {bytes = bytes} {a = a} {b = b} {o = o} name stop h = record {
  changes = changes_read name a b h.only;
  puts = puts_none o;
  cause = stop_halts stop a b o h.cause;
  saves = tt;
  ends = λ files told. h.found files told;
  written = λ files told. record { adds = record { front = []; rest = lines files; are = refl; added = Appends-nil o.written }; more = λ filed left. left };
  grown = λ files told held is. (0, has_at b files name (Some (held ++ [])) (h.only.files ∙ told) (is ∙ ap Some (sym (append-nil held))));
}

pub adds_memory : {lines : Files → List (List ℕ)} {bytes : Files → List ℕ} {a b : ShelfState} {o : SinkState} (name : Name) → ReadsWell a b → Adds name (Err (Stopped OutOfMemory)) lines bytes a b o o
adds_memory {lines = lines} {bytes = bytes} {a = a} {b = b} {o = o} name only = record {
  changes = changes_read name a b only.only;
  puts = puts_none o;
  cause = no_fault_read a b o only;
  saves = tt;
  ends = λ files told. tt;
  written = λ files told. record { adds = record { front = []; rest = lines files; are = refl; added = Appends-nil o.written }; more = λ filed left. left };
  grown = λ files told held is. (0, has_at b files name (Some (held ++ [])) (only.only.files ∙ told) (is ∙ ap Some (sym (append-nil held))));
}

-- lines that were put
pub adds_lines : {lines : List (List ℕ)} {a : ShelfState} {o p : SinkState} (name : Name) (result : Result (Unit {0}) Halted) → Puts result lines o p → Adds name result (λ files. lines) (λ files. []) a a o p
adds_lines {lines = lines} {a = a} {o = o} {p = p} name (Ok x) puts = record {
  changes = changes_read name a a (reads_none a);
  puts = puts.only;
  cause = record { reads = refl; writes = refl; puts = puts.counts };
  saves = tt;
  ends = λ files told. tt;
  written = λ files told. puts.written;
  grown = λ files told held is. has_at a files name (Some (held ++ [])) told (is ∙ ap Some (sym (append-nil held)));
}
adds_lines name (Err (Stopped stop)) puts = elim puts.unwritten [ ]
adds_lines name (Err (Unsaved role)) puts = elim puts.unwritten [ ]
adds_lines {lines = lines} {a = a} {o = o} {p = p} name (Err (Unwritten halt)) puts = record {
  changes = changes_read name a a (reads_none a);
  puts = puts.only;
  cause = put_halts halt a a o o p (no_fault_none a o) puts.unwritten;
  saves = tt;
  ends = λ files told. tt;
  written = λ files told. puts.written;
  grown = λ files told held is. (0, has_at a files name (Some (held ++ [])) told (is ∙ ap Some (sym (append-nil held))));
}

-- what was added, and then more
pub adds_after : {lines more : Files → List (List ℕ)} {bytes rest : Files → List ℕ} {a b c : ShelfState} {o p q : SinkState} (name : Name) (result : Result (Unit {0}) Halted)
    → Ignores name more → Ignores name rest → ((files : Files) → more files ≡ [] → lines files ≡ []) → Adds name (Ok tt) lines bytes a b o p → Adds name result more rest b c p q
    → Adds name result (λ files. lines files ++ more files) (λ files. bytes files ++ rest files) a c o q
adds_after {lines = lines} {more = more} {bytes = bytes} {rest = rest} {a = a} {b = b} {c = c} {o = o} {p = p} {q = q} name result same same1 none h next = record {
  changes = changes_again name a b c h.changes next.changes;
  puts = puts_on o p q h.puts next.puts;
  cause = causes_on result a b c o p q h.cause next.cause;
  saves = next.saves;
  ends = λ files told. (let on = told_on name a b files h.changes told in next.ends on.0 on.1);
  written = λ files told.
      let on = told_on name a b files h.changes told in
      subst (λ (l : List (List ℕ)). WritesText true result o.written q.written (lines files ++ l)) (same files on.0 on.2)
      (text_after result o.written p.written q.written (lines files) (more on.0) (λ gone. none files (sym (same files on.0 on.2) ∙ gone)) (h.written files told) (next.written on.0 on.1));
  grown = λ files told held is.
      let on = told_on name a b files h.changes told in
      let has : on.0 name ≡ Some (held ++ bytes files) = file_at b on.0 name (Some (held ++ bytes files)) on.1 (h.grown files told held is) in
      subst (λ (l : List ℕ). Grows result name held (bytes files ++ l) c) (same1 files on.0 on.2)
      (grows_after result name held (bytes files) (rest on.0) c (next.grown on.0 on.1 (held ++ bytes files) has));
}

-- a halt within the first of it is one within all
pub adds_cut : {lines : Files → List (List ℕ)} {bytes : Files → List ℕ} {a b : ShelfState} {o p : SinkState} (name : Name) (halted : Halted) (more : Files → List (List ℕ)) (rest : Files → List ℕ)
    → Adds name (Err halted) lines bytes a b o p → Adds name (Err halted) (λ files. lines files ++ more files) (λ files. bytes files ++ rest files) a b o p
adds_cut {lines = lines} {bytes = bytes} {a = a} {b = b} {o = o} {p = p} name halted more rest h = record {
  changes = h.changes;
  puts = h.puts;
  cause = h.cause;
  saves = h.saves;
  ends = λ files told. h.ends files told;
  written = λ files told. text_before halted o.written p.written (lines files) (more files) (h.written files told);
  grown = λ files told held is. grows_before halted name held (bytes files) (rest files) b (h.grown files told held is);
}

-- the same by other words for what was to be added
pub adds_as : {lines more : Files → List (List ℕ)} {bytes rest : Files → List ℕ} {a b : ShelfState} {o p : SinkState} (name : Name) (result : Result (Unit {0}) Halted)
    → ((files : Files) → a.files ≡ Some files → lines files ≡ more files) → ((files : Files) → a.files ≡ Some files → bytes files ≡ rest files)
    → Adds name result more rest a b o p → Adds name result lines bytes a b o p
adds_as {lines = lines} {more = more} {bytes = bytes} {rest = rest} {a = a} {b = b} {o = o} {p = p} name result same same1 h = record {
  changes = h.changes;
  puts = h.puts;
  cause = h.cause;
  saves = h.saves;
  ends = λ files told. h.ends files told;
  written = λ files told. subst (λ (l : List (List ℕ)). WritesText true result o.written p.written l) (sym (same files told)) (h.written files told);
  grown = λ files told held is. subst (λ (l : List ℕ). Grows result name held l b) (sym (same1 files told)) (h.grown files told held is);
}

-- the file stays there
some_of : (o : Option (List ℕ)) → IsSome o → (held : List ℕ) × (o ≡ Some held)
some_of None there = absurd (false≢true there)
some_of (Some held) there = (held, refl)

there_of : (name : Name) (x y : Option Files) → is_some y ≡ is_some x → IfSome x (λ files. IsSome (files name))
    → ((files : Files) (held : List ℕ) → x ≡ Some files → files name ≡ Some held → (all : List ℕ) × IfSome y (λ files. files name ≡ Some all)) → IfSome y (λ files. IsSome (files name))
there_of name x None told there grown = tt
there_of name None (Some g) told there grown = absurd (false≢true (sym told))
there_of name (Some f) (Some g) told there grown =
    let held = some_of (f name) there in
    let all = grown f held.0 refl held.1 in
    ap is_some all.1

pub there_on : {lines : Files → List (List ℕ)} {bytes : Files → List ℕ} {a b : ShelfState} {o p : SinkState} (name : Name) → IsThere a name → Adds name (Ok tt) lines bytes a b o p → IsThere b name
there_on {bytes = bytes} {a = a} {b = b} name there h =
    there_of name a.files b.files h.changes.told there (λ files held told is. (held ++ bytes files, h.grown files told held is))

-- a file of another name stays, and so do its rows and what a check found of them
module _ (files files1 : Files) (role : Role) (name out : Name) (stay : OthersStay files files1 out) (apart : name ≡ out → ⊥) where
  pub input_stays : (d : ℕ) → rows_input files1 role name d ≡ rows_input files role name d
  unfolding rows_input
  input_stays d = rw (stay name apart) refl

  pub held_stays : (d : ℕ) → rows_held files1 role name d ≡ rows_held files role name d
  held_stays d = ap (λ (r : Result (List (List ℕ)) InputError). result_unwrap_or r []) (input_stays d)

  pub check_stays : (d : ℕ) (checked : Checked) → IsCheckOf files role name d checked → IsCheckOf files1 role name d checked
  check_stays d checked h =
      let held = held_stays d in
      record {
        input = input_stays d ∙ h.input ∙ ap Ok (sym held);
        outcome = ap (λ (o : Option (List ℕ)). bvecs_outcome (Some d) (unwrap_or o [])) (stay name apart) ∙ h.outcome ∙ ap Ok (sym held);
        finds = ap (found (Some d)) held ∙ h.finds;
        rows = h.rows ∙ ap length (sym held);
      }

-- what a check found is there after changes of another file
pub check_after : (role : Role) (name out : Name) (d : ℕ) (checked : Checked) (a b : ShelfState) → (name ≡ out → ⊥) → OnlyChanges out a b
    → ((files : Files) → a.files ≡ Some files → IsCheckOf files role name d checked) → (files : Files) → b.files ≡ Some files → IsCheckOf files role name d checked
check_after role name out d checked a b apart changes check files told =
    let on = told_back out a b files changes told in
    check_stays on.0 files role name out on.2 apart d checked (check on.0 on.1)

-- a file that was begun is there
had : (name : Name) (o : Option Files) → (file : Option (List ℕ)) × IfSome o (λ files. files name ≡ file)
had name None = (None, tt)
had name (Some f) = (f name, refl)

there_has : (name : Name) (bytes : List ℕ) (o : Option Files) → IfSome o (λ files. files name ≡ Some bytes) → IfSome o (λ files. IsSome (files name))
there_has name bytes None h = tt
there_has name bytes (Some f) h = ap is_some h

pub begun_there : (role : Role) (name : Name) (a b : ShelfState) → Begins role name (Ok tt) a b → IsThere b name
begun_there role name a b h =
    let before = had name a.files in
    there_has name [] b.files (h.begun before.0 before.1)

-- how a job ends for which nothing is wrong does not depend on its output
ends_good : (result : Result (Unit {0}) Halted) (output : Output) → Ends {Y = Unit {0}} result (Ok tt) → Ends result (Ok output)
ends_good (Ok x) output h = tt
ends_good (Err (Stopped (Input error))) output h = cc
ends_good (Err (Stopped (Unread role))) output h = tt
ends_good (Err (Stopped OutOfMemory)) output h = tt
ends_good (Err (Unsaved role)) output h = tt
ends_good (Err (Unwritten halt)) output h = tt

-- a file that is begun after reads, and what is then added to it, where this is the output
module _ {wanted : Files → Result Output InputError} (a : ShelfState) (name : Name) (lines : Files → List (List ℕ)) (bytes : Files → List ℕ) (queries : Files → List Counts)
    (is : (files : Files) → a.files ≡ Some files → wanted files ≡ Ok (record { lines = lines files; file = Some (record { role = Out; name = name; bytes = bytes files }); queries = queries files })) where
  -- there is a file to write
  is_filed : (files : Files) → a.files ≡ Some files → file_wanted (wanted files) ≡ None → ⊥
  is_filed files told none =
      let filed : file_wanted (wanted files) ≡ Some (record { role = Out; name = name; bytes = bytes files }) = ap file_wanted (is files told) in
      let two : ◌≡◌ {A = Option OutFile} None (Some (record { role = Out; name = name; bytes = bytes files })) = sym none ∙ filed in
      cc

  front_begun : (files : Files) (c : ShelfState) → a.files ≡ Some files → Has c name (files name) ⊎ Has c name (Some []) → HasFront (file_wanted (wanted files)) files c
  front_begun files c told (inl same) = subst (λ (w : Result Output InputError). HasFront (file_wanted w) files c) (sym (is files told)) (inl same)
  front_begun files c told (inr empty) = subst (λ (w : Result Output InputError). HasFront (file_wanted w) files c) (sym (is files told)) (inr (0, empty))

  leaves_grown : (result : Result (Unit {0}) Halted) (files : Files) (d : ShelfState) → a.files ≡ Some files → Grows result name [] (bytes files) d → Leaves result (file_wanted (wanted files)) files d
  leaves_grown (Ok x) files d told grown = subst (λ (w : Result Output InputError). HasFile (file_wanted w) d) (sym (is files told)) grown
  leaves_grown (Err halted) files d told grown = subst (λ (w : Result Output InputError). HasFront (file_wanted w) files d) (sym (is files told)) (inr grown)

  -- it was not begun
  pub makes_unbegun : {b c : ShelfState} {o : SinkState} (halted : Halted) → ReadsWell a b → Begins Out name (Err halted) b c → Makes (Some name) (Err halted) wanted a c o o
  makes_unbegun {b} {c} {o} (Stopped OutOfMemory) reads h = record {
    changes = changes_on name a b c reads.only h.only;
    puts = puts_none o;
    cause = record { reads = h.cause.0 ∙ reads.same; writes = h.cause.1 ∙ reads.only.writes; puts = refl };
    saves = λ files told. tt;
    written = λ files told. record { adds = record { front = []; rest = lines_wanted (wanted files); are = refl; added = Appends-nil o.written }; more = λ filed left. left };
    ends = λ files told. tt;
    leaves = λ files told. front_begun files c told (h.begun (files name) (has_at b files name (files name) (reads.only.files ∙ told) refl));
    stays = λ files told none. absurd (is_filed files told none);
  }
  makes_unbegun (Stopped (Input error)) reads h = elim h.cause [ ]
  makes_unbegun (Stopped (Unread part)) reads h = elim h.cause [ ]
  makes_unbegun {b} {c} {o} (Unsaved part) reads h = record {
    changes = changes_on name a b c reads.only h.only;
    puts = puts_none o;
    cause = subst (λ (n : ℕ). Rose n c.write_faults) reads.only.writes h.cause.1;
    saves = λ files told. ap (λ (w : Result Output InputError). role_of (file_wanted w)) (is files told) ∙ ap Some (sym h.cause.0);
    written = λ files told. record { adds = record { front = []; rest = lines_wanted (wanted files); are = refl; added = Appends-nil o.written }; more = λ filed left. left };
    ends = λ files told. subst (λ (w : Result Output InputError). IsGood w) (sym (is files told)) tt;
    leaves = λ files told. front_begun files c told (h.begun (files name) (has_at b files name (files name) (reads.only.files ∙ told) refl));
    stays = λ files told none. absurd (is_filed files told none);
  }
  makes_unbegun (Unwritten halt) reads h = elim h.cause [ ]

  -- it was, and all was added or the first of it
  pub makes_added : {b c d : ShelfState} {o p : SinkState} (result : Result (Unit {0}) Halted) → ReadsWell a b → Begins Out name (Ok tt) b c → Ignores name lines → Ignores name bytes
      → Adds name result lines bytes c d o p → Makes (Some name) result wanted a d o p
  makes_added {b} {c} {d} {o} {p} result reads h same same1 adds =
      let begun : OnlyChanges name a c = changes_on name a b c reads.only h.only in
      record {
        changes = changes_again name a c d begun adds.changes;
        puts = adds.puts;
        cause = causes_on result a c d o o p (record { reads = h.cause.0 ∙ reads.same; writes = h.cause.1 ∙ reads.only.writes; puts = refl }) adds.cause;
        saves = λ files told. subst (λ (w : Result Output InputError). Saves result (role_of (file_wanted w))) (sym (is files told)) adds.saves;
        written = λ files told.
            let on = told_on name a c files begun told in
            subst (λ (w : Result Output InputError). WritesText (is_some (file_wanted w)) result o.written p.written (lines_wanted w)) (sym (is files told))
            (subst (λ (l : List (List ℕ)). WritesText true result o.written p.written l) (same files on.0 on.2) (adds.written on.0 on.1));
        ends = λ files told.
            let on = told_on name a c files begun told in
            subst (λ (w : Result Output InputError). Ends result w) (sym (is files told)) (ends_good result _ (adds.ends on.0 on.1));
        leaves = λ files told.
            let on = told_on name a c files begun told in
            let has : on.0 name ≡ Some [] = file_at c on.0 name (Some []) on.1 (h.begun (files name) (has_at b files name (files name) (reads.only.files ∙ told) refl)) in
            leaves_grown result files d told (subst (λ (l : List ℕ). Grows result name [] l d) (same1 files on.0 on.2) (adds.grown on.0 on.1 [] has));
        stays = λ files told none. absurd (is_filed files told none);
      }
