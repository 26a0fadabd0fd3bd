-- Lines that are put, one call after another.
use Rattle.std.proofs.Common.{◌≡◌, ◌∙◌, ℕ, List, [], ◌++◌, Ok, Err, refl, sym, subst}
use Rattle.std.specs.Prelude.{Result}
use Rattle.std.proofs.KnownBytes.{Appends-nil}
use Rattle.adc_ports.specs.States.{SinkState}
use Rattle.adc_ports.proofs.StateLemmas.{puts_none as only_none, puts_on}
use Rattle.adc_program.specs.declared.halts.Halted.{Halted}
use Rattle.adc_program.specs.declared.halts.Halted.TheVariants.{Stopped, Unsaved, Unwritten}
use Rattle.adc_program.specs.Steps.{Puts}
use Rattle.adc_program.proofs.Faults.{fails_on}
use Rattle.adc_program.proofs.Writing.{writes_after, writes_before}

pub puts_none : (o : SinkState) → Puts (Ok tt) [] o o
puts_none o = record { only = only_none o; written = Appends-nil o.written; unwritten = tt; counts = refl }

-- lines that were put, and then more of them
pub puts_after : {first more : List (List ℕ)} {o p q : SinkState} (result : Result (Unit {0}) Halted) → Puts (Ok tt) first o p → Puts result more p q → Puts result (first ++ more) o q
puts_after {first} {more} {o} {p} {q} (Ok x) h next = record {
  only = puts_on o p q h.only next.only;
  written = writes_after (Ok x) o.written p.written q.written first more h.written next.written;
  unwritten = tt;
  counts = next.counts ∙ h.counts;
}
puts_after {first} {more} {o} {p} {q} (Err (Stopped stop)) h next = elim next.unwritten [ ]
puts_after {first} {more} {o} {p} {q} (Err (Unsaved role)) h next = elim next.unwritten [ ]
puts_after {first} {more} {o} {p} {q} (Err (Unwritten halt)) h next = record {
  only = puts_on o p q h.only next.only;
  written = writes_after {X = Unit {0}} (Err (Unwritten halt)) o.written p.written q.written first more h.written next.written;
  unwritten = fails_on halt o p q h.counts next.unwritten;
  counts = tt;
}

-- a put that failed within the first of the lines failed within all
pub puts_cut : {first : List (List ℕ)} {o p : SinkState} (halted : Halted) (more : List (List ℕ)) → Puts (Err halted) first o p → Puts (Err halted) (first ++ more) o p
puts_cut {first} {o} {p} halted more h = record { only = h.only; written = writes_before halted o.written p.written first more h.written; unwritten = h.unwritten; counts = tt }

pub puts_as : {lines more : List (List ℕ)} {o p : SinkState} (result : Result (Unit {0}) Halted) → lines ≡ more → Puts result more o p → Puts result lines o p
puts_as {o = o} {p = p} result e h = subst (λ (l : List (List ℕ)). Puts result l o p) (sym e) h
