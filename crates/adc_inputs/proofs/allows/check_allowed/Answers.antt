use Rattle.std.proofs.Common.{refl, ap₂, arith}
use Rattle.std.proofs.Common.{ℕ, ◌*◌}
use Rattle.adc_ports.proofs.StateLemmas.{reads_none}
use Rattle.adc_inputs.proofs.AllowLemmas.{allow_at, allow_many, allow_few}
use Rattle.adc_inputs.proofs.Reading.{reads_stop}
use Rattle.adc_inputs.proofs.allows.check_allowed.Goals as goal

pub returns-in-Err-clause-reads : goal.returns-in-Err-clause-reads
returns-in-Err-clause-reads g c = reads_stop c.in-Err.stop (reads_none _) refl c.in-Err.ensures.reads (λ files error told e. allow_at files c.args.name.now error e)

pub returns-then-numbers-gt-MAX_NUMBERS-clause-reads : goal.returns-then-numbers-gt-MAX_NUMBERS-clause-reads
returns-then-numbers-gt-MAX_NUMBERS-clause-reads g c = record {
  only = c.in-Ok.ensures.reads.only;
  counts = tt;
  cause = tt;
  found = λ files told. allow_many files c.args.name.now c.in-Ok.checked (c.in-Ok.ensures.reads.found files told) (c.from.result * c.from-2.result)
      (ap₂ (λ (a b : ℕ). a * b) c.from.ensures c.from-2.ensures) (omega arith);
}

pub returns-clause-reads : goal.returns-clause-reads
returns-clause-reads g c = record {
  only = c.in-Ok.ensures.reads.only;
  counts = c.in-Ok.ensures.reads.counts;
  cause = tt;
  found = λ files told. allow_few files c.args.name.now c.in-Ok.checked (c.in-Ok.ensures.reads.found files told) (c.from.result * c.from-2.result)
      (ap₂ (λ (a b : ℕ). a * b) c.from.ensures c.from-2.ensures) (omega arith);
}
