use Rattle.std.proofs.Common.{List, [], ◌∷◌, Ok, Err, flat_map, refl, sym, ap, subst}
use Rattle.book_model.specs.Sums.{numbers_below}
use Rattle.play_script.specs.Play.{Counts}
use Rattle.play_script.specs.Stream.{Drawn}
use Rattle.play_script.specs.Texts.{sample_end}
use Rattle.query_engine.specs.State.{rows_of}
use Rattle.adc_program.specs.Samples.{asked_lines}
use Rattle.adc_program.specs.Work.{Works}
use Rattle.adc_program.proofs.Putting.{puts_after, puts_cut, puts_as}
use Rattle.adc_program.proofs.SampleQueries.{sample_lines_are, sample_counts_are}
use Rattle.adc_program.proofs.Writing.{on_ok}
use Rattle.adc_program.proofs.samples.write_sample.Goals as goal

pub returns-in-Err-clause-puts : goal.returns-in-Err-clause-puts
returns-in-Err-clause-puts g c =
    let engine = c.args.engine.now in
    let sample = c.args.sample.now in
    let h = c.in-Err.halted in
    puts_as (Err h)
    (sample_lines_are engine.book sample (rows_of engine) c.requires.rows c.args.job.start c.args.job.rows sample_end (sym (ap (λ (s : Drawn). s.start) c.requires.sample)) (sym (ap (λ (s : Drawn). s.rows) c.requires.sample)) refl)
    (puts_cut h (sample_end ∷ []) (puts_cut h (flat_map (asked_lines engine.book sample (rows_of engine)) (numbers_below 16)) c.in-Err.ensures.puts))

pub returns-in-Err-write_queries-clause-puts : goal.returns-in-Err-write_queries-clause-puts
returns-in-Err-write_queries-clause-puts g c =
    let engine = c.args.engine.now in
    let sample = c.args.sample.now in
    let h = c.in-Err-write_queries.halted in
    puts_as (Err h)
    (sample_lines_are engine.book sample (rows_of engine) c.requires.rows c.args.job.start c.args.job.rows sample_end (sym (ap (λ (s : Drawn). s.start) c.requires.sample)) (sym (ap (λ (s : Drawn). s.rows) c.requires.sample)) refl)
    (puts_cut h (sample_end ∷ []) (puts_after (Err h) c.in-Ok.ensures.puts c.in-Err-write_queries.ensures.puts))

pub returns-in-Ok-write_queries-clause-puts : goal.returns-in-Ok-write_queries-clause-puts
returns-in-Ok-write_queries-clause-puts g c =
    let engine = c.args.engine.now in
    let sample = c.args.sample.now in
    puts_as c.write_line.result
    (sample_lines_are engine.book sample (rows_of engine) c.requires.rows c.args.job.start c.args.job.rows c.sample_end.result (sym (ap (λ (s : Drawn). s.start) c.requires.sample)) (sym (ap (λ (s : Drawn). s.rows) c.requires.sample)) c.sample_end.ensures)
    (puts_after c.write_line.result (puts_after (Ok tt) c.in-Ok.ensures.puts c.in-Ok-write_queries.ensures.puts) c.write_line.ensures.puts)

pub returns-in-Ok-write_queries-clause-works : goal.returns-in-Ok-write_queries-clause-works
returns-in-Ok-write_queries-clause-works g c =
    let engine = c.args.engine.now in
    on_ok c.write_line.result (subst (λ (q : List Counts). Works q c.args.meters.now c.write_queries.new.meters) (sym (sample_counts_are engine.book c.args.sample.now (rows_of engine) c.requires.rows)) c.in-Ok-write_queries.ensures.works)
