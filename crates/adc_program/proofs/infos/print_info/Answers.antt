use Rattle.index_file.specs.View.{view_index}
use Rattle.adc_program.proofs.IndexTexts.{info_at, info_by}
use Rattle.adc_program.proofs.Playing.{plays_puts, plays_stop}
use Rattle.adc_program.proofs.Faults.{well_of}
use Rattle.adc_program.proofs.infos.print_info.Goals as goal

pub returns-in-Ok : goal.returns-in-Ok
returns-in-Ok g c = record {
  plays = plays_puts c.write_any.result (well_of c.in-Ok.ensures.reads) c.write_any.ensures.puts (λ files told. info_by files c.args.name.now (view_index c.in-Ok.index) (c.in-Ok.ensures.reads.found files told));
}

pub returns-in-Err : goal.returns-in-Err
returns-in-Err g c = record { plays = plays_stop c.in-Err.stop c.in-Err.ensures.reads (λ files error told e. info_at files c.args.name.now error e) }
