use Rattle.std.proofs.Common.{◌≡◌, ◌∙◌, ℕ, List, Ok, sym, ap₂, subst}
use Rattle.std.specs.Prelude.{OnOk}
use Rattle.cell_store.specs.State.{live_rows}
use Rattle.index_file.specs.Reading.{Indexed}
use Rattle.play_script.specs.declared.Role.TheVariants as role
use Rattle.play_script.specs.Play.{Counts}
use Rattle.query_engine.specs.State.{State, rows_of}
use Rattle.adc_inputs.specs.Inputs.{rows_held, IsCheckOf}
use Rattle.adc_program.specs.Radii.{lines_of_radius, counts_of_radius}
use Rattle.adc_program.specs.Work.{Works}
use Rattle.adc_program.proofs.Outcomes.{checked_at, error_at}
use Rattle.adc_program.proofs.Playing.{plays_stop, plays_as}
use Rattle.adc_program.proofs.WithinRadius.{at_queries, by_queries, counts_over_are}
use Rattle.adc_program.proofs.Faults.{well_of}
use Rattle.adc_program.proofs.radii.print_by.Goals as goal

pub returns-in-Err-clause-plays : goal.returns-in-Err-clause-plays
returns-in-Err-clause-plays g c =
    let job = c.args.job.now in
    let index : Indexed = record { book = c.args.index.book; rows = live_rows c.args.index.store } in
    plays_stop c.in-Err.stop c.in-Err.ensures.reads (λ files error told e. at_queries files job.queries.now job.radius job.wanted index error (error_at files role.Queries job.queries.now _ _ error c.d.ensures.value e))

pub print_asked-requires-clause-check : goal.print_asked-requires-clause-check
print_asked-requires-clause-check g c = λ files told.
    checked_at files role.Queries c.args.job.now.queries.now _ _ _ (sym c.in-Ok.ensures.size) (c.in-Ok.ensures.reads.found files (sym c.in-Ok.ensures.reads.only.files ∙ told))

pub returns-clause-plays : goal.returns-clause-plays
returns-clause-plays g c =
    let job = c.args.job.now in
    let index : Indexed = record { book = c.args.index.book; rows = live_rows c.args.index.store } in
    plays_as c.print_asked.result (well_of c.in-Ok.ensures.reads) c.print_asked.ensures.plays (λ files told.
    let check : IsCheckOf files role.Queries job.queries.now index.book.d c.in-Ok.checked = checked_at files role.Queries job.queries.now _ _ _ c.d.ensures.value (c.in-Ok.ensures.reads.found files told) in
    let size : index.book.d ≡ c.in-Ok.checked.d = sym (c.in-Ok.ensures.size ∙ c.d.ensures.value) in
    by_queries files job.queries.now job.radius job.wanted index _ check.input
    ∙ ap₂ (λ (s : State) (n : ℕ). Ok (lines_of_radius s.book (rows_of s) job.radius job.wanted (rows_held files role.Queries job.queries.now n))) (sym c.from_parts.ensures) size)

pub returns-clause-works : goal.returns-clause-works
returns-clause-works g c = λ files told.
    let job = c.args.job.now in
    let index : Indexed = record { book = c.args.index.book; rows = live_rows c.args.index.store } in
    let size : index.book.d ≡ c.in-Ok.checked.d = sym (c.in-Ok.ensures.size ∙ c.d.ensures.value) in
    subst (λ (counts : List Counts). OnOk c.print_asked.result (Works counts c.args.meters.now c.print_asked.new.meters))
    (sym (counts_over_are files job.queries.now job.radius job.wanted index
    ∙ ap₂ (λ (s : State) (n : ℕ). counts_of_radius s.book (rows_of s) job.radius job.wanted (rows_held files role.Queries job.queries.now n)) (sym c.from_parts.ensures) size))
    (c.print_asked.ensures.works files (c.in-Ok.ensures.reads.only.files ∙ told))
