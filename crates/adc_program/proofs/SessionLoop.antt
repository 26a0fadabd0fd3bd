-- A play with sessions before its first line, and after one more line.
use Rattle.std.proofs.Common.{◌≡◌, ℕ, ◌+◌, ◌*◌, List, [], ◌++◌, map, take, Some, Ok, Err, slice_get, refl, sym, ap, ap₂, ◌∙◌, subst, arith}
use Rattle.std.specs.Prelude.{Option, Result, IfErr, OnOk}
use Rattle.std.specs.Option.{ForSome}
use Rattle.std.specs.List.{AllByRecursion, IsDistinct}
use Rattle.std.proofs.lemmas.Option.{same_Some}
use Rattle.adc_ports.specs.Files.{Files}
use Rattle.adc_ports.specs.States.{ShelfState, SinkState, OnlyPuts}
use Rattle.book_model.specs.Book.{Book}
use Rattle.book_model.specs.declared.limits.TheConstants.{MAX_ROWS}
use Rattle.cell_store.specs.State.{Store, empty}
use Rattle.cell_store.specs.Held.{KeepsAs}
use Rattle.cell_store.proofs.StoreLemmas.{keeps_same}
use Rattle.play_script.specs.declared.SessionCommand.{SessionCommand}
use Rattle.play_script.specs.Play.{Stage, Counts}
use Rattle.play_script.specs.Sessions.{Standing, SessionReply, session_reply, session_replies, store_of, no_changes}
use Rattle.query_engine.specs.State.{State}
use Rattle.prune_scan.specs.declared.meters.Meters.{Meters}
use Rattle.adc_program.specs.declared.halts.Halted.{Halted}
use Rattle.adc_program.specs.declared.halts.Halted.TheVariants.{Stopped, Unsaved, Unwritten}
use Rattle.adc_program.specs.declared.opened.HeldSession.{HeldSession}
use Rattle.adc_program.specs.declared.player.Inputs.{Inputs}
use Rattle.adc_program.specs.Ends.{IsUnwritten}
use Rattle.adc_program.specs.Stages.{stage_of}
use Rattle.adc_program.specs.Steps.{ReadsWell, Puts, Plays}
use Rattle.adc_program.specs.SessionStates.{known, stamp_of, IsOpen, AreOpen, Ascending, StandsAs, IsNext, Spends, open_counts}
use Rattle.adc_program.proofs.Faults.{no_fault_read, put_halts}
use Rattle.adc_program.proofs.SessionScripts.{next_visits, next_after}
use Rattle.adc_program.proofs.SessionStands.{spends_on}

pub next_step : {S : Type 0} (stage now : Stage) (standing : Standing) (commands : List SessionCommand) (n : ℕ) (command : SessionCommand) → slice_get commands n ≡ Some command → now ≡ stage
    → (store store1 : Store) (held held1 : List (HeldSession S)) (a b c : Meters)
    → IsNext stage standing (session_replies stage standing (take n commands)) store held a b
    → IsNext now (session_replies stage standing (take n commands)).after (session_reply now (session_replies stage standing (take n commands)).after command) store1 held1 b c
    → IsNext stage standing (session_replies stage standing (take (n + 1) commands)) store1 held1 a c
next_step stage now standing commands n command is same store store1 held held1 a b c h next =
    let so_far : SessionReply = session_replies stage standing (take n commands) in
    let reply : SessionReply = session_reply stage so_far.after command in
    let next1 : IsNext stage so_far.after reply store1 held1 b c = subst (λ (s : Stage). IsNext s so_far.after (session_reply s so_far.after command) store1 held1 b c) same next in
    let after : reply.after ≡ (session_replies stage standing (take (n + 1) commands)).after = next_after stage stage standing commands n command is refl in
    let visits : so_far.visits ++ reply.visits ≡ (session_replies stage standing (take (n + 1) commands)).visits = next_visits stage stage standing commands n command is refl in
    record {
      stands = subst (λ (s : Standing). StandsAs stage s store1 held1) after next1.stands;
      spends = subst (λ (cs : List Counts). Spends (open_counts stage standing) cs a c) (ap₂ (λ (v : List Counts) (s : Standing). v ++ open_counts stage s) visits after)
          (spends_on so_far.visits reply.visits (open_counts stage standing) (open_counts stage so_far.after) (open_counts stage reply.after) a b c h.spends next1.spends);
    }

-- ---- before the first line

module _ {S : Type 0} (store : Store) (held : List (HeldSession S)) (none : held ≡ []) where
  pub fresh_open : (ws : List ℕ) (engine : State) → engine.store.pins ≡ [] → AreOpen ws engine held
  fresh_open ws engine pins = record {
    pins = pins ∙ sym (ap (map (stamp_of {S = S})) none);
    rising = subst Ascending (sym pins) tt;
    each = subst (AllByRecursion (IsOpen ws engine)) (sym none) tt;
  }

  pub fresh_stands : (stage : Stage) → store ≡ empty stage.book.g (stage.book.k0 * stage.book.k1) MAX_ROWS → StandsAs stage no_changes store held
  unfolding IsDistinct
  fresh_stands stage fresh = record {
    model = record { timed = record { stamp = omega arith; pins = tt; dated = tt }; most = refl; stamp = refl; now = refl; pinned = tt; apart = tt };
    keeps = subst (λ (s : Store). KeepsAs s (store_of stage no_changes)) (sym fresh) (keeps_same (store_of stage no_changes));
    sessions = ap (map (known {S = S})) none;
  }

-- what stands by some files stands by those that are told
pub stands_by : {S : Type 0} (told_files : Option Files) (files : Files) (standing : Standing) (store : Store) (held : List (HeldSession S)) (inputs : Inputs) (book : Book) → told_files ≡ Some files
    → StandsAs (stage_of files inputs book) standing store held → ForSome told_files (λ files. StandsAs (stage_of files inputs book) standing store held)
stands_by told_files files standing store held inputs book told stands = λ others told1.
    subst (λ (f : Files). StandsAs (stage_of f inputs book) standing store held) (same_Some files others (sym told ∙ told1)) stands

-- lines that were put, which the files tell
pub plays_put_by : {lines : Files → List (List ℕ)} {a b : ShelfState} {o p : SinkState} (result : Result (Unit {0}) Halted)
    → ReadsWell a b → OnlyPuts o p → IfErr result (λ halted. IsUnwritten halted o p) → OnOk result (p.faults ≡ o.faults) → ((files : Files) → a.files ≡ Some files → Puts result (lines files) o p) → Plays result (λ files. Ok (lines files)) a b o p
plays_put_by (Ok x) reads only unwritten counts puts = record { reads = reads.only; puts = only; cause = record { reads = reads.same; writes = reads.only.writes; puts = counts }; saves = tt; written = λ files told. (puts files told).written; ends = λ files told. tt }
plays_put_by (Err (Stopped stop)) reads only unwritten counts puts = elim unwritten [ ]
plays_put_by (Err (Unsaved role)) reads only unwritten counts puts = elim unwritten [ ]
plays_put_by {a = a} {b = b} {o = o} {p = p} (Err (Unwritten halt)) reads only unwritten counts puts = record { reads = reads.only; puts = only; cause = put_halts halt a b o o p (no_fault_read a b o reads) unwritten; saves = tt; written = λ files told. (puts files told).written; ends = λ files told. tt }
