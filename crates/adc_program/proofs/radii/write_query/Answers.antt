use Rattle.std.proofs.Common.{[], slice_index_or, Ok, ap}
use Rattle.adc_program.specs.Asking.{rows_in}
use Rattle.adc_program.specs.Radii.{radius_asked}
use Rattle.adc_program.proofs.Playing.{plays_puts, plays_stop}
use Rattle.adc_program.proofs.WithinRadius.{lines_are, works_radius}
use Rattle.adc_program.proofs.Writing.{on_ok}
use Rattle.adc_program.proofs.Faults.{well_of}
use Rattle.adc_program.proofs.radii.write_query.Goals as goal

pub returns-in-Ok-clause-plays : goal.returns-in-Ok-clause-plays
returns-in-Ok-clause-plays g c =
    let asked = c.args.asked.now in
    plays_puts c.write_found.result (well_of c.in-Ok.ensures.found) c.write_found.ensures.puts (λ files told.
    ap Ok (lines_are asked.engine.book (radius_asked asked.wanted (slice_index_or (rows_in files asked.queries) c.args.number [])) asked.radius asked.engine.store c.find.new.scratch.pairs c.in-Ok.report c.args.meters.now c.find.new.meters
    (c.in-Ok.ensures.found.found files told) c.args.number c.pairs.result.now c.pairs.ensures))

pub returns-in-Ok-clause-works : goal.returns-in-Ok-clause-works
returns-in-Ok-clause-works g c = λ files told.
    let asked = c.args.asked.now in
    on_ok c.write_found.result (works_radius asked.engine.book (radius_asked asked.wanted (slice_index_or (rows_in files asked.queries) c.args.number [])) asked.radius asked.engine.store c.find.new.scratch.pairs c.in-Ok.report c.args.meters.now c.find.new.meters
    (c.in-Ok.ensures.found.found files told))

pub returns-in-Err-clause-plays : goal.returns-in-Err-clause-plays
returns-in-Err-clause-plays g c = plays_stop c.in-Err.stop c.in-Err.ensures.found (λ files error told e. absurd (cc))
