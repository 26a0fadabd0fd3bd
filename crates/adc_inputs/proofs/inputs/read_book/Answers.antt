use Rattle.std.proofs.Common.{refl, ◌∙◌, ap, sym, List, ℕ}
use Rattle.adc_ports.proofs.StateLemmas.{reads_none}
use Rattle.codebook_core.specs.Reading.{book_outcome}
use Rattle.codebook_core.specs.Any.{view_any}
use Rattle.play_script.specs.declared.Role.TheVariants as role
use Rattle.adc_inputs.specs.Inputs.{book_input, of_role, sized_input}
use Rattle.adc_inputs.proofs.InputLemmas.{input_err, input_ok}
use Rattle.adc_inputs.proofs.LongInputs.{book_long}
use Rattle.adc_inputs.proofs.Reading.{reads_stop, reads_decoded}
use Rattle.adc_inputs.proofs.inputs.read_book.Goals as goal

pub returns-in-Err : goal.returns-in-Err
unfolding book_input sized_input
returns-in-Err g c = record {
  reads = reads_stop c.in-Err.stop (reads_none _) refl c.in-Err.ensures.reads
      (λ files error told e. input_err role.Book 4194304 (λ bytes. of_role role.Book (book_outcome bytes)) book_long (files c.args.name.now) error e);
}

pub returns-in-Ok : goal.returns-in-Ok
unfolding book_input sized_input
returns-in-Ok g c = record {
  reads = reads_decoded view_any c.book_of.result _ _ _ _ c.in-Ok.ensures.reads.only c.in-Ok.ensures.reads.counts c.book_of.ensures.decodes
      (λ files told. input_ok role.Book 4194304 (λ bytes. of_role role.Book (book_outcome bytes)) book_long (files c.args.name.now) c.in-Ok.bytes.items (c.in-Ok.ensures.reads.found files told)
      ∙ ap (λ (bytes : List ℕ). of_role role.Book (book_outcome bytes)) (sym c.deref.ensures.value));
}
