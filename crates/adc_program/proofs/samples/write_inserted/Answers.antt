use Rattle.std.proofs.Common.{◌≡◌, ◌∙◌, Ok, sym, ap, subst}
use Rattle.std.specs.Prelude.{OnOk}
use Rattle.book_model.specs.Book.{Book}
use Rattle.query_engine.specs.Parts.{HasRoomFor}
use Rattle.adc_ports.proofs.StateLemmas.{reads_none}
use Rattle.adc_program.specs.Samples.{sample_rows, sample_lines, sample_counts}
use Rattle.adc_program.specs.Work.{Works}
use Rattle.adc_program.proofs.Playing.{plays_memory, plays_puts}
use Rattle.adc_program.proofs.Faults.{well_none}
use Rattle.adc_program.proofs.samples.write_inserted.Goals as goal

pub returns-in-Err-clause-plays : goal.returns-in-Err-clause-plays
returns-in-Err-clause-plays g c = λ shelf. plays_memory (well_none shelf)

pub write_sample-requires : goal.write_sample-requires
write_sample-requires g c =
    let same : c.insert_rows.new.engine.book ≡ c.args.engine.now.book = c.insert_rows.ensures.book in
    record {
      sample = c.requires.sample;
      d = ap (λ (b : Book). b.d) same ∙ c.requires.d;
      rows = c.in-Ok.ensures.rows ∙ ap (λ (b : Book). sample_rows b c.args.sample.now) (sym same);
      room = subst (λ (b : Book). HasRoomFor b c.args.scratch.now) (sym same) c.requires.room;
      best = c.requires.best;
      stamp = c.insert_rows.ensures.stamp;
      meters = c.requires.meters;
    }

pub returns-in-Ok-clause-plays : goal.returns-in-Ok-clause-plays
returns-in-Ok-clause-plays g c = λ shelf.
    plays_puts c.write_sample.result (well_none shelf) c.write_sample.ensures.puts (λ files told. ap (λ (b : Book). Ok (sample_lines b c.args.sample.now)) (sym c.insert_rows.ensures.book))

pub returns-in-Ok-clause-works : goal.returns-in-Ok-clause-works
returns-in-Ok-clause-works g c =
    subst (λ (b : Book). OnOk c.write_sample.result (Works (sample_counts b c.args.sample.now) c.args.meters.now c.write_sample.new.meters)) c.insert_rows.ensures.book c.write_sample.ensures.works
