use Rattle.std.proofs.Common.{◌∙◌, List, ℕ, [], ◌∷◌, Ok, sym, ap}
use Rattle.adc_ports.proofs.StateLemmas.{reads_on}
use Rattle.adc_program.proofs.Playing.{plays_puts}
use Rattle.adc_program.proofs.Recalling.{compared_is}
use Rattle.adc_program.proofs.Faults.{well_of, well_on}
use Rattle.adc_program.proofs.recalls.print_recall.Goals as goal

pub returns-in-Ok-hits_of : goal.returns-in-Ok-hits_of
returns-in-Ok-hits_of g c =
    let job = c.args.job.now in
    let both = c.in-Ok.both in
    record {
      plays = plays_puts c.write_line.result (well_on _ _ _ (well_of c.in-Ok.ensures.reads) (well_of c.in-Ok-hits_of.ensures.reads)) c.write_line.ensures.puts (λ files told.
          compared_is files job.found.now job.truth.now job.k c.in-Ok-hits_of.hits both.found both.truth (c.in-Ok.ensures.reads.found files told) both.paired (c.in-Ok-hits_of.ensures.reads.found files (c.in-Ok.ensures.reads.only.files ∙ told))
          ∙ ap (λ (l : List ℕ). Ok (l ∷ [])) (sym c.recall_done.ensures));
    }
