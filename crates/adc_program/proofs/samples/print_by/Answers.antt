use Rattle.std.proofs.Common.{◌≡◌, Ok, sym, ap, subst}
use Rattle.std.specs.Prelude.{OnOk}
use Rattle.book_model.specs.Book.{Book}
use Rattle.query_engine.specs.State.{State}
use Rattle.adc_ports.proofs.StateLemmas.{reads_none}
use Rattle.adc_program.specs.Samples.{sample_lines, sample_counts}
use Rattle.adc_program.specs.Work.{Works}
use Rattle.adc_program.proofs.Playing.{plays_memory, plays_as}
use Rattle.adc_program.proofs.Faults.{well_none}
use Rattle.adc_program.proofs.samples.print_by.Goals as goal

pub returns-in_default-clause-plays : goal.returns-in_default-clause-plays
returns-in_default-clause-plays g c = λ shelf. plays_memory (well_none shelf)

pub returns-clause-plays : goal.returns-clause-plays
returns-clause-plays g c = λ shelf.
    let same : c.in-Ok.made.engine.book ≡ c.args.book = ap (λ (s : State). s.book) c.in-Ok.ensures.engine in
    plays_as c.write_inserted.result (well_none shelf) (c.write_inserted.ensures.plays shelf) (λ files told. ap (λ (b : Book). Ok (sample_lines b c.args.sample.now)) (sym same))

pub returns-clause-works : goal.returns-clause-works
returns-clause-works g c =
    let same : c.in-Ok.made.engine.book ≡ c.args.book = ap (λ (s : State). s.book) c.in-Ok.ensures.engine in
    subst (λ (b : Book). OnOk c.write_inserted.result (Works (sample_counts b c.args.sample.now) c.args.meters.now c.write_inserted.new.meters)) same c.write_inserted.ensures.works
