use Rattle.std.proofs.Common.{◌≡◌, ◌∙◌, ℕ, List, Ok, Err, sym, ap, subst}
use Rattle.std.specs.Prelude.{OnOk}
use Rattle.adc_ports.proofs.StateLemmas.{reads_none}
use Rattle.book_model.specs.Book.{IsGood}
use Rattle.codebook_core.specs.Any.{view_any}
use Rattle.codebook_core.specs.Reading.{book_outcome}
use Rattle.codebook_core.specs.Spelling.{book_bytes}
use Rattle.codebook_core.specs.declared.reading.AnyBook.{AnyBook}
use Rattle.play_script.specs.Play.{Counts}
use Rattle.play_script.specs.Stream.{Drawn, sample_book}
use Rattle.play_script.specs.declared.Role.TheVariants as role
use Rattle.adc_inputs.specs.Inputs.{of_role}
use Rattle.adc_inputs.specs.Steps.{Decodes}
use Rattle.adc_program.specs.Samples.{sample_lines, sample_counts, book_of_sample}
use Rattle.adc_program.specs.Work.{Works}
use Rattle.adc_program.proofs.Playing.{plays_memory, plays_as}
use Rattle.adc_program.proofs.SampleBook.{sample_d}
use Rattle.adc_program.proofs.SampleQueries.{sample_stops, lines_by_book, counts_by_book}
use Rattle.adc_program.proofs.Faults.{well_none}
use Rattle.adc_program.proofs.samples.print_sample.Goals as goal

pub returns-in_default-clause-plays : goal.returns-in_default-clause-plays
returns-in_default-clause-plays g c = λ shelf. plays_memory (well_none shelf)

pub returns-in-Err-clause-plays : goal.returns-in-Err-clause-plays
returns-in-Err-clause-plays g c = λ shelf.
    sample_stops view_any (record { start = c.args.job.start; rows = c.args.job.rows }) c.in-Err.stop shelf _
    (subst (λ (bytes : List ℕ). Decodes view_any (Err c.in-Err.stop) (of_role role.Book (book_outcome bytes))) (c.book.ensures.bytes ∙ ap sample_book c.in-Ok.ensures) c.in-Err.ensures.decodes)

pub print_by-requires-clause-d : goal.print_by-requires-clause-d
print_by-requires-clause-d g c =
    let spelled = c.in-Ok-book_of.ensures.spelled in
    sample_d c.in-Ok.sample c.in-F4444.book (subst (λ (b : AnyBook). IsGood (view_any b)) c.in-F4444.is spelled.0) (sym c.book.ensures.bytes ∙ spelled.1 ∙ ap (λ (b : AnyBook). book_bytes (view_any b)) c.in-F4444.is)

pub returns-in-F4444-clause-plays : goal.returns-in-F4444-clause-plays
returns-in-F4444-clause-plays g c = λ shelf.
    let sample : Drawn = record { start = c.args.job.start; rows = c.args.job.rows } in
    let is : book_of_sample sample ≡ Ok c.in-F4444.book =
    ap (λ (s : Drawn). book_of_sample s) (sym c.in-Ok.ensures) ∙ ap (λ (bytes : List ℕ). of_role role.Book (book_outcome bytes)) (sym c.book.ensures.bytes) ∙ c.in-Ok-book_of.ensures.decodes ∙ ap (λ (b : AnyBook). Ok (view_any b)) c.in-F4444.is in
    plays_as c.print_by.result (well_none shelf) (c.print_by.ensures.plays shelf) (λ files told. lines_by_book sample c.in-F4444.book is ∙ ap (λ (s : Drawn). Ok (sample_lines c.in-F4444.book s)) (sym c.in-Ok.ensures))

pub returns-in-F4444-clause-works : goal.returns-in-F4444-clause-works
returns-in-F4444-clause-works g c =
    let sample : Drawn = record { start = c.args.job.start; rows = c.args.job.rows } in
    let is : book_of_sample sample ≡ Ok c.in-F4444.book =
    ap (λ (s : Drawn). book_of_sample s) (sym c.in-Ok.ensures) ∙ ap (λ (bytes : List ℕ). of_role role.Book (book_outcome bytes)) (sym c.book.ensures.bytes) ∙ c.in-Ok-book_of.ensures.decodes ∙ ap (λ (b : AnyBook). Ok (view_any b)) c.in-F4444.is in
    subst (λ (counts : List Counts). OnOk c.print_by.result (Works counts c.args.meters.now c.print_by.new.meters))
    (sym (counts_by_book sample c.in-F4444.book is ∙ ap (λ (s : Drawn). sample_counts c.in-F4444.book s) (sym c.in-Ok.ensures))) c.print_by.ensures.works

pub print_by-requires-in-F555-clause-d : goal.print_by-requires-in-F555-clause-d
print_by-requires-in-F555-clause-d g c =
    let spelled = c.in-Ok-book_of.ensures.spelled in
    sample_d c.in-Ok.sample c.in-F555.book (subst (λ (b : AnyBook). IsGood (view_any b)) c.in-F555.is spelled.0) (sym c.book.ensures.bytes ∙ spelled.1 ∙ ap (λ (b : AnyBook). book_bytes (view_any b)) c.in-F555.is)

pub returns-in-F555-clause-plays : goal.returns-in-F555-clause-plays
returns-in-F555-clause-plays g c = λ shelf.
    let sample : Drawn = record { start = c.args.job.start; rows = c.args.job.rows } in
    let is : book_of_sample sample ≡ Ok c.in-F555.book =
    ap (λ (s : Drawn). book_of_sample s) (sym c.in-Ok.ensures) ∙ ap (λ (bytes : List ℕ). of_role role.Book (book_outcome bytes)) (sym c.book.ensures.bytes) ∙ c.in-Ok-book_of.ensures.decodes ∙ ap (λ (b : AnyBook). Ok (view_any b)) c.in-F555.is in
    plays_as c.print_by-in-F555.result (well_none shelf) (c.print_by-in-F555.ensures.plays shelf) (λ files told. lines_by_book sample c.in-F555.book is ∙ ap (λ (s : Drawn). Ok (sample_lines c.in-F555.book s)) (sym c.in-Ok.ensures))

pub returns-in-F555-clause-works : goal.returns-in-F555-clause-works
returns-in-F555-clause-works g c =
    let sample : Drawn = record { start = c.args.job.start; rows = c.args.job.rows } in
    let is : book_of_sample sample ≡ Ok c.in-F555.book =
    ap (λ (s : Drawn). book_of_sample s) (sym c.in-Ok.ensures) ∙ ap (λ (bytes : List ℕ). of_role role.Book (book_outcome bytes)) (sym c.book.ensures.bytes) ∙ c.in-Ok-book_of.ensures.decodes ∙ ap (λ (b : AnyBook). Ok (view_any b)) c.in-F555.is in
    subst (λ (counts : List Counts). OnOk c.print_by-in-F555.result (Works counts c.args.meters.now c.print_by-in-F555.new.meters))
    (sym (counts_by_book sample c.in-F555.book is ∙ ap (λ (s : Drawn). sample_counts c.in-F555.book s) (sym c.in-Ok.ensures))) c.print_by-in-F555.ensures.works

pub print_by-requires-in-F664-clause-d : goal.print_by-requires-in-F664-clause-d
print_by-requires-in-F664-clause-d g c =
    let spelled = c.in-Ok-book_of.ensures.spelled in
    sample_d c.in-Ok.sample c.in-F664.book (subst (λ (b : AnyBook). IsGood (view_any b)) c.in-F664.is spelled.0) (sym c.book.ensures.bytes ∙ spelled.1 ∙ ap (λ (b : AnyBook). book_bytes (view_any b)) c.in-F664.is)

pub returns-in-F664-clause-plays : goal.returns-in-F664-clause-plays
returns-in-F664-clause-plays g c = λ shelf.
    let sample : Drawn = record { start = c.args.job.start; rows = c.args.job.rows } in
    let is : book_of_sample sample ≡ Ok c.in-F664.book =
    ap (λ (s : Drawn). book_of_sample s) (sym c.in-Ok.ensures) ∙ ap (λ (bytes : List ℕ). of_role role.Book (book_outcome bytes)) (sym c.book.ensures.bytes) ∙ c.in-Ok-book_of.ensures.decodes ∙ ap (λ (b : AnyBook). Ok (view_any b)) c.in-F664.is in
    plays_as c.print_by-in-F664.result (well_none shelf) (c.print_by-in-F664.ensures.plays shelf) (λ files told. lines_by_book sample c.in-F664.book is ∙ ap (λ (s : Drawn). Ok (sample_lines c.in-F664.book s)) (sym c.in-Ok.ensures))

pub returns-in-F664-clause-works : goal.returns-in-F664-clause-works
returns-in-F664-clause-works g c =
    let sample : Drawn = record { start = c.args.job.start; rows = c.args.job.rows } in
    let is : book_of_sample sample ≡ Ok c.in-F664.book =
    ap (λ (s : Drawn). book_of_sample s) (sym c.in-Ok.ensures) ∙ ap (λ (bytes : List ℕ). of_role role.Book (book_outcome bytes)) (sym c.book.ensures.bytes) ∙ c.in-Ok-book_of.ensures.decodes ∙ ap (λ (b : AnyBook). Ok (view_any b)) c.in-F664.is in
    subst (λ (counts : List Counts). OnOk c.print_by-in-F664.result (Works counts c.args.meters.now c.print_by-in-F664.new.meters))
    (sym (counts_by_book sample c.in-F664.book is ∙ ap (λ (s : Drawn). sample_counts c.in-F664.book s) (sym c.in-Ok.ensures))) c.print_by-in-F664.ensures.works

pub print_by-requires-in-F88-clause-d : goal.print_by-requires-in-F88-clause-d
print_by-requires-in-F88-clause-d g c =
    let spelled = c.in-Ok-book_of.ensures.spelled in
    sample_d c.in-Ok.sample c.in-F88.book (subst (λ (b : AnyBook). IsGood (view_any b)) c.in-F88.is spelled.0) (sym c.book.ensures.bytes ∙ spelled.1 ∙ ap (λ (b : AnyBook). book_bytes (view_any b)) c.in-F88.is)

pub returns-clause-plays : goal.returns-clause-plays
returns-clause-plays g c = λ shelf.
    let sample : Drawn = record { start = c.args.job.start; rows = c.args.job.rows } in
    let is : book_of_sample sample ≡ Ok c.in-F88.book =
    ap (λ (s : Drawn). book_of_sample s) (sym c.in-Ok.ensures) ∙ ap (λ (bytes : List ℕ). of_role role.Book (book_outcome bytes)) (sym c.book.ensures.bytes) ∙ c.in-Ok-book_of.ensures.decodes ∙ ap (λ (b : AnyBook). Ok (view_any b)) c.in-F88.is in
    plays_as c.print_by-in-F88.result (well_none shelf) (c.print_by-in-F88.ensures.plays shelf) (λ files told. lines_by_book sample c.in-F88.book is ∙ ap (λ (s : Drawn). Ok (sample_lines c.in-F88.book s)) (sym c.in-Ok.ensures))

pub returns-clause-works : goal.returns-clause-works
returns-clause-works g c =
    let sample : Drawn = record { start = c.args.job.start; rows = c.args.job.rows } in
    let is : book_of_sample sample ≡ Ok c.in-F88.book =
    ap (λ (s : Drawn). book_of_sample s) (sym c.in-Ok.ensures) ∙ ap (λ (bytes : List ℕ). of_role role.Book (book_outcome bytes)) (sym c.book.ensures.bytes) ∙ c.in-Ok-book_of.ensures.decodes ∙ ap (λ (b : AnyBook). Ok (view_any b)) c.in-F88.is in
    subst (λ (counts : List Counts). OnOk c.print_by-in-F88.result (Works counts c.args.meters.now c.print_by-in-F88.new.meters))
    (sym (counts_by_book sample c.in-F88.book is ∙ ap (λ (s : Drawn). sample_counts c.in-F88.book s) (sym c.in-Ok.ensures))) c.print_by-in-F88.ensures.works
