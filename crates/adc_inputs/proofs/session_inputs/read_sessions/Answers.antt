use Rattle.std.proofs.Common.{refl, ◌∙◌, ap, sym, List, ℕ}
use Rattle.adc_ports.proofs.StateLemmas.{reads_none}
use Rattle.play_script.specs.SessionGrammar.{session_outcome}
use Rattle.play_script.specs.declared.Role.TheVariants as role
use Rattle.adc_inputs.specs.Inputs.{of_script, sized_input}
use Rattle.adc_inputs.specs.SessionInputs.{session_input}
use Rattle.adc_inputs.proofs.InputLemmas.{input_err, input_ok}
use Rattle.adc_inputs.proofs.LongInputs.{sessions_long}
use Rattle.adc_inputs.proofs.Reading.{reads_stop, reads_decoded}
use Rattle.adc_inputs.proofs.session_inputs.read_sessions.Goals as goal

pub returns-in-Err : goal.returns-in-Err
unfolding session_input sized_input
returns-in-Err g c = record {
  reads = reads_stop c.in-Err.stop (reads_none _) refl c.in-Err.ensures.reads
      (λ files error told e. input_err role.Script 268435456 (λ bytes. of_script (session_outcome bytes)) sessions_long (files c.args.name.now) error e);
}

pub returns-in-Ok : goal.returns-in-Ok
unfolding session_input sized_input
returns-in-Ok g c = record {
  reads = reads_decoded (λ script. script) c.sessions_in.result _ _ _ _ c.in-Ok.ensures.reads.only c.in-Ok.ensures.reads.counts c.sessions_in.ensures
      (λ files told. input_ok role.Script 268435456 (λ bytes. of_script (session_outcome bytes)) sessions_long (files c.args.name.now) c.in-Ok.bytes.items (c.in-Ok.ensures.reads.found files told)
      ∙ ap (λ (bytes : List ℕ). of_script (session_outcome bytes)) (sym c.deref.ensures.value));
}
