use Rattle.std.proofs.Common.{refl, ◌∙◌, ap, sym, List, ℕ}
use Rattle.adc_ports.proofs.StateLemmas.{reads_none}
use Rattle.play_script.specs.Grammar.{script_outcome}
use Rattle.play_script.specs.declared.Role.TheVariants as role
use Rattle.adc_inputs.specs.Inputs.{script_input, of_script, sized_input}
use Rattle.adc_inputs.proofs.InputLemmas.{input_err, input_ok}
use Rattle.adc_inputs.proofs.LongInputs.{script_long}
use Rattle.adc_inputs.proofs.Reading.{reads_stop, reads_decoded}
use Rattle.adc_inputs.proofs.inputs.read_script.Goals as goal

pub returns-in-Err : goal.returns-in-Err
unfolding script_input sized_input
returns-in-Err g c = record {
  reads = reads_stop c.in-Err.stop (reads_none _) refl c.in-Err.ensures.reads
      (λ files error told e. input_err role.Script 268435456 (λ bytes. of_script (script_outcome bytes)) script_long (files c.args.name.now) error e);
}

pub returns-in-Ok : goal.returns-in-Ok
unfolding script_input sized_input
returns-in-Ok g c = record {
  reads = reads_decoded (λ script. script) c.script_of.result _ _ _ _ c.in-Ok.ensures.reads.only c.in-Ok.ensures.reads.counts c.script_of.ensures
      (λ files told. input_ok role.Script 268435456 (λ bytes. of_script (script_outcome bytes)) script_long (files c.args.name.now) c.in-Ok.bytes.items (c.in-Ok.ensures.reads.found files told)
      ∙ ap (λ (bytes : List ℕ). of_script (script_outcome bytes)) (sym c.deref.ensures.value));
}
