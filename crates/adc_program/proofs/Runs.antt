-- How a run ends, and what it then wrote.
use Rattle.std.proofs.Common.{◌≡◌, ◌≢◌, ℕ, ◌≤◌, is_some, inl, inr, List, [], ◌∷◌, ◌++◌, length, Some, None, Ok, Err, refl, sym, ap, ◌∙◌, arith, subst}
use Rattle.std.specs.Prelude.{◌⊎◌, Option, Result}
use Rattle.std.specs.Io.KnownBytes.{Appends}
use Rattle.std.proofs.KnownBytes.{Appends-trans}
use Rattle.std.proofs.lemmas.List.{append-nil}
use Rattle.adc_ports.specs.Files.{Files, Rose, AddsPrefix}
use Rattle.adc_ports.specs.States.{ShelfState, SinkState}
use Rattle.play_script.specs.declared.Role.{Role}
use Rattle.play_script.specs.Texts.{stop_write}
use Rattle.adc_inputs.specs.declared.stop.Status.{Status}
use Rattle.adc_inputs.specs.declared.stop.Status.TheVariants as status
use Rattle.adc_inputs.specs.declared.stop.InputError.{InputError}
use Rattle.adc_inputs.specs.declared.stop.InputError.TheVariants.{Missing, Malformed, BadLine, Limit}
use Rattle.adc_inputs.specs.declared.stop.Stop.{Stop}
use Rattle.adc_inputs.specs.declared.stop.Stop.TheVariants.{Input, Unread, OutOfMemory}
use Rattle.adc_inputs.specs.Names.{Name}
use Rattle.adc_inputs.specs.Words.{Job, job_of, out_of, out_name}
use Rattle.adc_inputs.specs.Lines.{stop_line, error_status, stop_status}
use Rattle.adc_inputs.specs.Steps.{IsDue}
use Rattle.adc_program.specs.declared.halts.Halted.TheVariants.{Stopped}
use Rattle.adc_program.specs.Outputs.{OutFile, role_of, Output, Verdict, Usage, Wrong, Good, verdict_of, lines_of_verdict, status_of_verdict, text_lines, file_of, counts_of_verdict}
use Rattle.adc_program.specs.Verdict.{output_of, verdict}
use Rattle.adc_program.specs.Steps.{lines_wanted, file_wanted, counts_wanted}
use Rattle.adc_program.specs.Ends.{text_of, IsStill, NothingFails, Halts, AddsText, IsGood, HasFile, HasOutput, Comes, IsWhole, IsStopLine, OfVerdict, OfRead, OfWrite, OfMemory, IsStopText, IsCut, out_of_memory, IsStopCut, Wrote, All, ToStop, CutText, CutStop, Tells}
use Rattle.adc_program.proofs.Writing.{more_bytes, none_of}

not_still : (old new : ℕ) → Rose old new → IsStill old new → ⊥
not_still old new rose still = omega (arith, rose, still.same, still.below)

cut_since : (end goes : Status) (old mid new : SinkState) → old.faults ≤ mid.faults → IsStopCut end goes mid new → IsStopCut end goes old new
cut_since end goes old mid new le cut = elim cut [
  | inl memory ↦ inl memory
  | inr rose ↦ inr (rose.0, omega (arith, le, rose.1))
]

-- a stop line, after whole lines
pub wrote_stop : (end : Status) (line : List ℕ) (goes : Status) (shelf shelf1 : ShelfState) (old mid new : SinkState) (come : Verdict)
    → IsStopLine line goes come shelf shelf1 → AddsText (is_some (file_of come)) old.written mid.written (text_lines come) → old.faults ≤ mid.faults → Tells end line goes mid new
    → Wrote end come shelf shelf1 old new
wrote_stop end line goes shelf shelf1 old mid new come cause lines le tells =
    let text : List ℕ = text_of lines.adds.front ++ line in
    let stops : IsStopText text goes come shelf shelf1 = record { line = line; cause = cause; front = lines.adds.front; rest = lines.adds.rest; are = lines.adds.are; more = lines.more; is = refl } in
    elim tells [
      | inl told ↦ ToStop text (subst (λ (s : Status). IsStopText text s come shelf shelf1) (sym told.0) stops) (Appends-trans old.written mid.written new.written _ _ lines.adds.added told.1)
      | inr cut ↦ CutStop text goes stops (more_bytes old.written mid.written new.written _ _ lines.adds.added cut.0) (cut_since end goes old mid new le cut.1)
    ]

-- where no count rose and memory did not run out, a stop line is that of the verdict
whole_stop : (end : Status) (shelf shelf1 : ShelfState) (out out1 : SinkState) (come : Verdict) (text line : List ℕ) (front rest : List (List ℕ)) → front ++ rest ≡ text_lines come
    → text ≡ text_of front ++ line → Appends out.written out1.written text → NothingFails shelf shelf1 out out1 → end ≢ status.Memory → IsStopLine line end come shelf shelf1 → IsWhole end come shelf1 out out1
whole_stop end shelf shelf1 out out1 come text line front rest are is added fine enough (OfVerdict lines none file goes) = record {
  text = subst (Appends out.written out1.written) (is ∙ ap (λ (f : List (List ℕ)). text_of f ++ line) (none_of front rest (are ∙ none)).0 ∙ sym (append-nil line) ∙ ap text_of (sym lines)) added;
  file = subst (λ (f : Option OutFile). HasFile f shelf1) (sym file) tt;
  goes = goes;
}
whole_stop end shelf shelf1 out out1 come text line front rest are is added fine enough (OfRead role e goes rose) = elim (not_still shelf.read_faults shelf1.read_faults rose fine.reads) [ ]
whole_stop end shelf shelf1 out out1 come text line front rest are is added fine enough (OfWrite role e goes good rose) = elim (not_still shelf.write_faults shelf1.write_faults rose fine.writes) [ ]
whole_stop end shelf shelf1 out out1 come text line front rest are is added fine enough (OfMemory e goes same same1) = elim (enough goes) [ ]

whole_all : (end : Status) (come : Verdict) (shelf1 : ShelfState) (out out1 : SinkState) → HasOutput come → end ≡ status.Done → Appends out.written out1.written (text_of (text_lines come))
    → HasFile (file_of come) shelf1 → IsWhole end come shelf1 out out1
whole_all end Usage shelf1 out out1 good goes text file = elim good [ ]
whole_all end (Wrong error) shelf1 out out1 good goes text file = elim good [ ]
whole_all end (Good output) shelf1 out out1 good goes text file = record { text = text; file = file; goes = goes }

-- a verdict is no fault
error_no_fault : (error : InputError) → out_of_memory (error_status error) ≡ status.Memory
error_no_fault (Missing role) = refl
error_no_fault (Malformed role at) = refl
error_no_fault (BadLine line) = refl
error_no_fault (Limit role what value) = refl

verdict_no_fault : (come : Verdict) → out_of_memory (status_of_verdict come) ≡ status.Memory
verdict_no_fault Usage = refl
verdict_no_fault (Wrong error) = error_no_fault error
verdict_no_fault (Good output) = refl

-- where nothing failed, a stop line goes with no status of a fault
unfaulted : (goes : Status) (come : Verdict) (shelf shelf1 : ShelfState) (out out1 : SinkState) (line : List ℕ) → IsStopLine line goes come shelf shelf1 → NothingFails shelf shelf1 out out1
    → out_of_memory goes ≡ status.Memory
unfaulted goes come shelf shelf1 out out1 line (OfVerdict lines none file is) fine = ap out_of_memory is ∙ verdict_no_fault come
unfaulted goes come shelf shelf1 out out1 line (OfRead role e is rose) fine = absurd (not_still shelf.read_faults shelf1.read_faults rose fine.reads)
unfaulted goes come shelf shelf1 out out1 line (OfWrite role e is saved rose) fine = absurd (not_still shelf.write_faults shelf1.write_faults rose fine.writes)
unfaulted goes come shelf shelf1 out out1 line (OfMemory e is same same1) fine = ap out_of_memory is

-- where nothing failed, the whole text was written
pub whole_of : (end : Status) (come : Verdict) (shelf shelf1 : ShelfState) (out out1 : SinkState) → (end ≡ status.Done → HasFile (file_of come) shelf1)
    → Wrote end come shelf shelf1 out out1 → NothingFails shelf shelf1 out out1 → end ≢ status.Memory → IsWhole end come shelf1 out out1
whole_of end come shelf shelf1 out out1 file (All good goes text) fine enough = whole_all end come shelf1 out out1 good goes text (file goes)
whole_of end come shelf shelf1 out out1 file (CutText cut (inl memory)) fine enough = elim (enough memory.0) [ ]
whole_of end come shelf shelf1 out out1 file (CutText cut (inr rose)) fine enough = elim (not_still out.faults out1.faults rose.1 fine.puts) [ ]
whole_of end come shelf shelf1 out out1 file (CutStop text goes stops cut (inl memory)) fine enough = absurd (enough (memory ∙ unfaulted goes come shelf shelf1 out out1 stops.line stops.cause fine))
whole_of end come shelf shelf1 out out1 file (CutStop text goes stops cut (inr rose)) fine enough = elim (not_still out.faults out1.faults rose.1 fine.puts) [ ]
whole_of end come shelf shelf1 out out1 file (ToStop text stops added) fine enough =
    whole_stop end shelf shelf1 out out1 come text stops.line stops.front stops.rest stops.are stops.is added fine enough stops.cause

-- the line of a stop that is due has its cause
pub stop_line_of : (stop : Stop) (wanted : Result Output InputError) (old new : ShelfState) (out out1 : SinkState) → IsDue stop wanted → Halts (Stopped stop) old new out out1
    → IsStopLine (stop_line stop) (stop_status stop) (verdict_of wanted) old new
stop_line_of (Input error) wanted old new out out1 due cause =
    OfVerdict (ap (λ w. lines_of_verdict (verdict_of w)) due) (ap (λ w. text_lines (verdict_of w)) due) (ap (λ w. file_of (verdict_of w)) due) (sym (ap (λ w. status_of_verdict (verdict_of w)) due))
stop_line_of (Unread role) wanted old new out out1 due cause = OfRead role refl refl cause
stop_line_of OutOfMemory wanted old new out out1 due cause = OfMemory refl refl cause.reads cause.writes

-- the parts of a verdict are those that were wanted
pub lines_are : (wanted : Result Output InputError) → lines_wanted wanted ≡ text_lines (verdict_of wanted)
lines_are (Ok output) = refl
lines_are (Err error) = refl

pub file_is : (wanted : Result Output InputError) → file_wanted wanted ≡ file_of (verdict_of wanted)
file_is (Ok output) = refl
file_is (Err error) = refl

-- the text of a verdict is that of what was wanted
pub text_is : (wanted : Result Output InputError) (old new : Option (List ℕ)) → AddsText (is_some (file_wanted wanted)) old new (lines_wanted wanted)
    → AddsText (is_some (file_of (verdict_of wanted))) old new (text_lines (verdict_of wanted))
text_is (Ok output) old new h = h
text_is (Err error) old new h = h

pub counts_are : (wanted : Result Output InputError) → counts_wanted wanted ≡ counts_of_verdict (verdict_of wanted)
counts_are (Ok output) = refl
counts_are (Err error) = refl

pub has_output : (wanted : Result Output InputError) → IsGood wanted → HasOutput (verdict_of wanted)
has_output (Ok output) good = tt
has_output (Err error) good = good

-- the line of an output file that could not be written
pub unsaved_line_of : (role : Role) (wanted : Result Output InputError) (old new : ShelfState) → role_of (file_wanted wanted) ≡ Some role → Rose old.write_faults new.write_faults
    → IsStopLine (stop_write role) status.WriteFault (verdict_of wanted) old new
unsaved_line_of role wanted old new saved rose = OfWrite role refl refl (ap role_of (sym (file_is wanted)) ∙ saved) rose

-- the status of a stop that is due, of an output, and of one whose line could not be written since memory ran out
pub comes_due : (stop : Stop) (wanted : Result Output InputError) → IsDue stop wanted → Comes (stop_status stop) (verdict_of wanted)
comes_due (Input (Missing role)) wanted due = ap (λ w. status_of_verdict (verdict_of w)) due
comes_due (Input (Malformed role at)) wanted due = ap (λ w. status_of_verdict (verdict_of w)) due
comes_due (Input (BadLine line)) wanted due = ap (λ w. status_of_verdict (verdict_of w)) due
comes_due (Input (Limit role what value)) wanted due = ap (λ w. status_of_verdict (verdict_of w)) due
comes_due (Unread role) wanted due = tt
comes_due OutOfMemory wanted due = tt

pub comes_done : (wanted : Result Output InputError) → IsGood wanted → status_of_verdict (verdict_of wanted) ≡ status.Done
comes_done (Ok output) good = refl
comes_done (Err error) good = elim good [ ]

pub comes_told : (end goes : Status) (come : Verdict) → (end ≡ goes) ⊎ (end ≡ status.Memory) → Comes goes come → Comes end come
comes_told end goes come told h = elim told [
  | inl same ↦ subst (λ (s : Status). Comes s come) (sym same) h
  | inr memory ↦ subst (λ (s : Status). Comes s come) (sym memory) tt
]

-- the whole text, and the first bytes of it
pub wrote_all : (shelf shelf1 : ShelfState) (out out1 : SinkState) (wanted : Result Output InputError)
    → IsGood wanted → Appends out.written out1.written (text_of (lines_wanted wanted)) → Wrote status.Done (verdict_of wanted) shelf shelf1 out out1
wrote_all shelf shelf1 out out1 wanted good text =
    All (has_output wanted good) refl (subst (λ (l : List (List ℕ)). Appends out.written out1.written (text_of l)) (lines_are wanted) text)

pub wrote_cut : (end : Status) (shelf shelf1 : ShelfState) (out out1 : SinkState) (wanted : Result Output InputError)
    → AddsPrefix out.written out1.written (text_of (lines_wanted wanted)) → IsCut end shelf shelf1 out out1 → Wrote end (verdict_of wanted) shelf shelf1 out out1
wrote_cut end shelf shelf1 out out1 wanted text cut =
    CutText (subst (λ (l : List (List ℕ)). AddsPrefix out.written out1.written (text_of l)) (lines_are wanted) text) cut

-- the verdict of words that ask for a job, and of words that fit none
pub verdict_job : (words : List Name) (files : Files) (job : Job) → job_of words ≡ Some job → verdict words files ≡ verdict_of (output_of files job)
unfolding verdict
verdict_job words files job e = rw e refl

pub verdict_usage : (words : List Name) (files : Files) → job_of words ≡ None → verdict words files ≡ Usage
unfolding verdict
verdict_usage words files e = rw e refl

-- the output's name of such words
pub out_job : (words : List Name) (job : Job) → job_of words ≡ Some job → out_name words ≡ out_of job
unfolding out_name
out_job words job e = rw e refl

pub out_usage : (words : List Name) → job_of words ≡ None → out_name words ≡ None
unfolding out_name
out_usage words e = rw e refl

-- no stop ends as done
error_not_done : (error : InputError) → error_status error ≡ status.Done → ⊥
error_not_done (Missing role) e = cc
error_not_done (Malformed role at) e = cc
error_not_done (BadLine line) e = cc
error_not_done (Limit role what value) e = cc

pub stop_not_done : (stop : Stop) → stop_status stop ≡ status.Done → ⊥
stop_not_done (Input error) e = error_not_done error e
stop_not_done (Unread role) e = cc
stop_not_done OutOfMemory e = cc

pub told_not_done : (end goes : Status) → (end ≡ goes) ⊎ (end ≡ status.Memory) → (goes ≡ status.Done → ⊥) → end ≡ status.Done → ⊥
told_not_done end goes told not done = elim told [
  | inl same ↦ not (sym same ∙ done)
  | inr memory ↦ cc
]
