-- Jobs that print alone are jobs.
use Rattle.std.proofs.Common.{◌≡◌, ℕ, List, [], None, Ok, Err, refl, sym, ap, subst}
use Rattle.std.specs.Prelude.{Option, Result, OnOk, is_some}
use Rattle.std.specs.Result.{result_unwrap_or}
use Rattle.adc_ports.specs.Files.{Files}
use Rattle.adc_ports.specs.States.{ShelfState, SinkState}
use Rattle.play_script.specs.Play.{Counts}
use Rattle.adc_inputs.specs.declared.stop.InputError.{InputError}
use Rattle.adc_inputs.specs.declared.stop.Stop.TheVariants.{Input, Unread, OutOfMemory}
use Rattle.adc_inputs.specs.Inputs.{◌>>=◌}
use Rattle.adc_program.specs.declared.halts.Halted.{Halted}
use Rattle.adc_program.specs.declared.halts.Halted.TheVariants.{Stopped, Unsaved, Unwritten}
use Rattle.adc_inputs.specs.Names.{Name}
use Rattle.adc_inputs.specs.Words.{Play, Sample}
use Rattle.prune_scan.specs.declared.meters.Meters.{Meters}
use Rattle.adc_program.specs.Plays.{play_lines, play_counts}
use Rattle.adc_program.specs.Samples.{lines_of_sample, counts_of_sample}
use Rattle.adc_program.specs.Work.{Works}
use Rattle.adc_program.specs.Outputs.{OutFile, role_of, Output, printed}
use Rattle.adc_program.specs.Verdict.{output_of}
use Rattle.adc_program.specs.Ends.{Ends, Writes, WritesText, Saves, Leaves}
use Rattle.adc_program.specs.Steps.{Plays, Makes, lines_wanted, file_wanted, counts_wanted}
use Rattle.adc_program.proofs.Writing.{text_unfiled}

-- lines that were to come, as an output
abbrev pub output_by : Result (List (List ℕ)) InputError → List Counts → Result Output InputError
output_by lines queries = lines >>= λ l. Ok (printed l queries)

lines_same : (lines : Result (List (List ℕ)) InputError) (queries : List Counts) → lines_wanted (output_by lines queries) ≡ result_unwrap_or lines []
lines_same (Ok l) queries = refl
lines_same (Err e) queries = refl

file_none : (lines : Result (List (List ℕ)) InputError) (queries : List Counts) → file_wanted (output_by lines queries) ≡ None
file_none (Ok l) queries = refl
file_none (Err e) queries = refl

ends_same : (result : Result (Unit {0}) Halted) (lines : Result (List (List ℕ)) InputError) (queries : List Counts) → Ends result lines → Ends result (output_by lines queries)
ends_same (Ok x) (Ok l) queries h = tt
ends_same (Ok x) (Err e) queries h = h
ends_same (Err (Stopped (Input error))) (Ok l) queries h = cc
ends_same (Err (Stopped (Unread role))) (Ok l) queries h = tt
ends_same (Err (Stopped OutOfMemory)) (Ok l) queries h = tt
ends_same (Err (Stopped (Input error))) (Err e) queries h = (let same : e ≡ error = cc in ap Err same)
ends_same (Err (Stopped (Unread role))) (Err e) queries h = tt
ends_same (Err (Stopped OutOfMemory)) (Err e) queries h = tt
ends_same (Err (Unsaved role)) (Ok l) queries h = tt
ends_same (Err (Unsaved role)) (Err e) queries h = h
ends_same (Err (Unwritten halt)) (Ok l) queries h = tt
ends_same (Err (Unwritten halt)) (Err e) queries h = h

leaves_none : (result : Result (Unit {0}) Halted) (before : Files) (new : ShelfState) → Leaves result None before new
leaves_none (Ok x) before new = tt
leaves_none (Err halted) before new = tt

pub makes_plays : {lines : Files → Result (List (List ℕ)) InputError} {wanted : Files → Result Output InputError} {a b : ShelfState} {o p : SinkState} (queries : Files → List Counts) (result : Result (Unit {0}) Halted)
    → Plays result lines a b o p → ((files : Files) → wanted files ≡ output_by (lines files) (queries files)) → Makes None result wanted a b o p
makes_plays {lines = lines} {wanted = wanted} {a = a} {b = b} {o = o} {p = p} queries result h is = record {
  changes = h.reads;
  puts = h.puts;
  cause = h.cause;
  saves = λ files told. subst (λ (w : Result Output InputError). Saves result (role_of (file_wanted w))) (sym (is files))
      (subst (λ (f : Option OutFile). Saves result (role_of f)) (sym (file_none (lines files) (queries files))) h.saves);
  written = λ files told. subst (λ (w : Result Output InputError). WritesText (is_some (file_wanted w)) result o.written p.written (lines_wanted w)) (sym (is files))
      (subst (λ (f : Option OutFile). WritesText (is_some f) result o.written p.written (lines_wanted (output_by (lines files) (queries files)))) (sym (file_none (lines files) (queries files)))
      (text_unfiled result o.written p.written (lines_wanted (output_by (lines files) (queries files)))
      (subst (λ (l : List (List ℕ)). Writes result o.written p.written l) (sym (lines_same (lines files) (queries files))) (h.written files told))));
  ends = λ files told. subst (λ (w : Result Output InputError). Ends result w) (sym (is files)) (ends_same result (lines files) (queries files) (h.ends files told));
  leaves = λ files told. subst (λ (w : Result Output InputError). Leaves result (file_wanted w) files b) (sym (is files))
      (subst (λ (f : Option OutFile). Leaves result f files b) (sym (file_none (lines files) (queries files))) (leaves_none result files b));
  stays = λ files told none. h.reads;
}

-- the counts of lines that were written
pub counts_of_lines : (a b : Meters) (result : Result (Unit {0}) Halted) (lines : Result (List (List ℕ)) InputError) (queries : List Counts) → Ends result lines → OnOk result (Works queries a b)
    → OnOk result (Works (counts_wanted (output_by lines queries)) a b)
counts_of_lines a b (Ok x) (Ok l) queries ends h = h
counts_of_lines a b (Ok x) (Err e) queries ends h = elim ends [ ]
counts_of_lines a b (Err halted) lines queries ends h = tt

-- what the jobs that print are to write
pub play_is : (files : Files) (book base queries script : Name) → output_of files (Play book base queries script) ≡ output_by (play_lines files book base queries script) (play_counts files book base queries script)
unfolding output_of
play_is files book base queries script = refl

pub sample_is : (files : Files) (start rows : ℕ) → output_of files (Sample start rows) ≡ output_by (lines_of_sample (record { start = start; rows = rows })) (counts_of_sample (record { start = start; rows = rows }))
unfolding output_of
sample_is files start rows = refl
