-- Calls on the outside one after another: which counts of faults rose.
use Rattle.std.proofs.Common.{◌≡◌, ◌∙◌, ℕ, Ok, Err, refl, subst}
use Rattle.std.specs.Prelude.{Result}
use Rattle.adc_ports.specs.Files.{Files, Rose}
use Rattle.adc_ports.specs.States.{ShelfState, SinkState}
use Rattle.adc_ports.specs.declared.Halt.{Halt}
use Rattle.adc_ports.specs.declared.Halt.TheVariants as halt
use Rattle.adc_ports.proofs.StateLemmas.{reads_none, reads_on}
use Rattle.adc_inputs.specs.declared.stop.InputError.{InputError}
use Rattle.adc_inputs.specs.declared.stop.Stop.{Stop}
use Rattle.adc_inputs.specs.declared.stop.Stop.TheVariants.{Input, Unread, OutOfMemory}
use Rattle.adc_inputs.specs.Steps.{Stops, Reads}
use Rattle.adc_program.specs.declared.halts.Halted.{Halted}
use Rattle.adc_program.specs.declared.halts.Halted.TheVariants.{Stopped, Unsaved, Unwritten}
use Rattle.adc_program.specs.Ends.{NoFault, PutFails, Halts, Causes}
use Rattle.adc_program.specs.Steps.{ReadsWell}

pub well_none : (a : ShelfState) → ReadsWell a a
well_none a = record { only = reads_none a; same = refl }

pub well_on : (a b c : ShelfState) → ReadsWell a b → ReadsWell b c → ReadsWell a c
well_on a b c h next = record { only = reads_on a b c h.only next.only; same = next.same ∙ h.same }

pub well_of : {X Y : Type 0} {x : X} {Good : Files → X → Type 0} {wanted : Files → Result Y InputError} {a b : ShelfState} → Reads {X = X} (Ok x) Good wanted a b → ReadsWell a b
well_of h = record { only = h.only; same = h.counts }

pub no_fault_none : (a : ShelfState) (o : SinkState) → NoFault a a o o
no_fault_none a o = record { reads = refl; writes = refl; puts = refl }

pub no_fault_read : (a b : ShelfState) (o : SinkState) → ReadsWell a b → NoFault a b o o
no_fault_read a b o h = record { reads = h.same; writes = h.only.writes; puts = refl }

pub no_fault_on : (a b c : ShelfState) (o p q : SinkState) → NoFault a b o p → NoFault b c p q → NoFault a c o q
no_fault_on a b c o p q h next = record { reads = next.reads ∙ h.reads; writes = next.writes ∙ h.writes; puts = next.puts ∙ h.puts }

-- what a call did is its cause after calls that counted no fault
pub causes_on : (result : Result (Unit {0}) Halted) (a b c : ShelfState) (o p q : SinkState) → NoFault a b o p → Causes result b c p q → Causes result a c o q
causes_on (Ok x) a b c o p q h next = no_fault_on a b c o p q h next
causes_on (Err (Stopped (Input error))) a b c o p q h next = tt
causes_on (Err (Stopped (Unread role))) a b c o p q h next = subst (λ (n : ℕ). Rose n c.read_faults) h.reads next
causes_on (Err (Stopped OutOfMemory)) a b c o p q h next = no_fault_on a b c o p q h next
causes_on (Err (Unsaved role)) a b c o p q h next = subst (λ (n : ℕ). Rose n c.write_faults) h.writes next
causes_on (Err (Unwritten halt.Failed)) a b c o p q h next = subst (λ (n : ℕ). Rose n q.faults) h.puts next
causes_on (Err (Unwritten halt.Memory)) a b c o p q h next = no_fault_on a b c o p q h next

-- a stop of a call that reads
pub stop_halts : (stop : Stop) (a b : ShelfState) (o : SinkState) → Stops stop a b → Halts (Stopped stop) a b o o
stop_halts (Input error) a b o h = tt
stop_halts (Unread role) a b o h = h
stop_halts OutOfMemory a b o h = record { reads = h.0; writes = h.1; puts = refl }

-- a put that failed after calls that counted no fault
pub put_halts : (halt : Halt) (a b : ShelfState) (o p q : SinkState) → NoFault a b o p → PutFails halt p q → Halts (Unwritten halt) a b o q
put_halts halt.Failed a b o p q h fails = subst (λ (n : ℕ). Rose n q.faults) h.puts fails
put_halts halt.Memory a b o p q h same = record { reads = h.reads; writes = h.writes; puts = same ∙ h.puts }

pub fails_on : (halt : Halt) (o p q : SinkState) → p.faults ≡ o.faults → PutFails halt p q → PutFails halt o q
fails_on halt.Failed o p q h fails = subst (λ (n : ℕ). Rose n q.faults) h fails
fails_on halt.Memory o p q h same = same ∙ h
