use Rattle.std.proofs.Common.{rules, ◌∙◌, sym, ap, Err, arith, ℕ}
use Rattle.std.specs.Global.{Vec}
use Rattle.adc_ports.specs.Files.{bytes_of}
use Rattle.adc_inputs.specs.Inputs.{sized_input}
use Rattle.adc_inputs.proofs.CheckLemmas.{halt_cause, halt_due}
use Rattle.adc_inputs.proofs.InputLemmas.{missing, above, within, its_size}
use Rattle.adc_inputs.proofs.Reading.{reads_sound}
use Rattle.adc_inputs.proofs.inputs.whole_input.Goals as goal

pub returns-in-Err : goal.returns-in-Err
returns-in-Err g c = record {
  reads = rw c.of_halt.ensures (record {
    only = c.in-Err.ensures.reads;
    counts = tt;
    cause = halt_cause c.args.role c.in-Err.halt _ _ c.in-Err.ensures.reads (λ e. c.in-Err.ensures.failed (ap Err e)) (λ e. c.in-Err.ensures.memory (ap Err e));
    found = λ files told. halt_due c.args.role c.in-Err.halt _;
  });
}

pub returns-in-Ok-None : goal.returns-in-Ok-None
unfolding sized_input
returns-in-Ok-None g c = record {
  reads = record {
    only = search rules;
    counts = tt;
    cause = tt;
    found = λ files told. missing c.args.role c.args.most _ (sym c.in-Ok-None.field-0-is ∙ c.in-Ok-None.ensures.value files told);
  };
}

pub returns-then-size-most : goal.returns-then-size-most
unfolding sized_input
returns-then-size-most g c = record {
  reads = record {
    only = search rules;
    counts = tt;
    cause = tt;
    found = λ files told. above c.args.role c.args.most c.in-Ok-Some.size _ (sym c.in-Ok-Some.field-0-is ∙ c.in-Ok-Some.ensures.value files told) c.if-size-most.true;
  };
}

pub fetch_whole-requires : goal.fetch_whole-requires
fetch_whole-requires g c = λ files told.
    its_size c.in-Ok-Some.size (files c.args.name.now) (sym c.in-Ok-Some.field-0-is ∙ c.in-Ok-Some.ensures.value files (sym c.in-Ok-Some.ensures.reads.files ∙ told))

pub returns : goal.returns
unfolding sized_input
returns g c = record {
  reads = reads_sound (λ (bytes : Vec ℕ). bytes.items) c.fetch_whole.result (λ files. bytes_of files c.args.name.now) (λ files. sized_input files c.args.role c.args.name.now c.args.most) _ _ _
      c.in-Ok-Some.ensures.reads c.in-Ok-Some.ensures.counts
      (λ files told. within c.args.role c.args.most c.in-Ok-Some.size _ (sym c.in-Ok-Some.field-0-is ∙ c.in-Ok-Some.ensures.value files told) (omega arith))
      c.fetch_whole.ensures.reads;
}
