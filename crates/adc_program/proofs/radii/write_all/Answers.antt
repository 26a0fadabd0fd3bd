use Rattle.std.proofs.Common.{◌∙◌, ℕ, List, [], ◌∷◌, ◌++◌, flat_map, Ok, Err, refl, sym, ap}
use Rattle.adc_ports.proofs.StateLemmas.{reads_none}
use Rattle.book_model.specs.Sums.{numbers_below}
use Rattle.play_script.specs.Texts.{radius_done}
use Rattle.query_engine.specs.State.{rows_of}
use Rattle.adc_program.specs.Asking.{rows_in}
use Rattle.adc_program.specs.Radii.{lines_of_query}
use Rattle.adc_program.proofs.Playing.{plays_puts, plays_as, plays_after, plays_cut}
use Rattle.adc_program.proofs.WithinRadius.{lines_all}
use Rattle.adc_program.proofs.Writing.{on_ok}
use Rattle.adc_program.proofs.Faults.{well_none}
use Rattle.adc_program.proofs.radii.write_all.Goals as goal

pub returns-in-Ok-clause-plays : goal.returns-in-Ok-clause-plays
returns-in-Ok-clause-plays g c =
    let asked = c.args.asked.now in
    let count = asked.queries.checked.rows in
    plays_as c.write_line.result (well_none _)
    (plays_after {more = λ files. c.radius_done.result ∷ []} c.write_line.result c.in-Ok.ensures.plays (plays_puts c.write_line.result (well_none _) c.write_line.ensures.puts (λ files told. refl)))
    (λ files told. ap Ok (sym (lines_all asked.engine.book (rows_of asked.engine) asked.radius asked.wanted (rows_in files asked.queries) count (c.requires.check files told).rows)
    ∙ ap (λ (l : List ℕ). flat_map (lines_of_query asked.engine.book (rows_of asked.engine) asked.radius asked.wanted (rows_in files asked.queries)) (numbers_below count) ++ l ∷ []) (sym c.radius_done.ensures)))

pub returns-in-Ok-clause-works : goal.returns-in-Ok-clause-works
returns-in-Ok-clause-works g c = λ files told. on_ok c.write_line.result (c.in-Ok.ensures.works files told)

pub returns-in-Err-clause-plays : goal.returns-in-Err-clause-plays
returns-in-Err-clause-plays g c =
    let asked = c.args.asked.now in
    let count = asked.queries.checked.rows in
    plays_as (Err c.in-Err.halted) (well_none _) (plays_cut c.in-Err.halted (λ files. radius_done count ∷ []) c.in-Err.ensures.plays)
    (λ files told. ap Ok (sym (lines_all asked.engine.book (rows_of asked.engine) asked.radius asked.wanted (rows_in files asked.queries) count (c.requires.check files told).rows)))
