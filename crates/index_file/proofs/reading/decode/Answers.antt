use Rattle.std.proofs.Common.{sym, ◌∙◌}
use Rattle.std.proofs.lemmas.Result.{err_from_is_err_and}
use Rattle.index_file.proofs.Starting.{answers_long, its_size, answers_unread, answers_rows}
use Rattle.index_file.proofs.reading.decode.Goals as goal

pub returns-then-size-gt-MAX_BYTES-clause-answers : goal.returns-then-size-gt-MAX_BYTES-clause-answers
returns-then-size-gt-MAX_BYTES-clause-answers g c = λ files told.
    answers_long (files c.args.name.now) c.in-Some.size (sym c.in-Some.is ∙ c.in_ok-size.ensures.value files told) c.if-size-gt-MAX_BYTES.true

pub returns-in_err-version-clause-answers : goal.returns-in_err-version-clause-answers
returns-in_err-version-clause-answers g c = λ files told.
    let p = err_from_is_err_and c.from_residual-in_err-version.result c.from_residual-in_err-version.ensures.1 in
    rw (p.1, p.2) (answers_unread (files c.args.name.now) c.in-Some.size c.in_err-version.field-0.0 (sym c.in-Some.is ∙ c.in_ok-size.ensures.value files told) c.if-size-gt-MAX_BYTES.false
    (c.in_err-version.ensures.found files (c.in_ok-size.ensures.reads.files ∙ told)))

pub returns-clause-answers : goal.returns-clause-answers
returns-clause-answers g c = λ files told.
    let is = sym c.in-Some.is ∙ c.in_ok-size.ensures.value files told in
    let told1 = c.in_ok-size.ensures.reads.files ∙ told in
    answers_rows (files c.args.name.now) c.in-Some.size c.in_ok-version.version _ c.in_ok-version.at c.read_any.result is c.if-size-gt-MAX_BYTES.false
    (c.in_ok-version.ensures.found files told1) c.read_any.ensures.book (c.read_any.ensures.rows files (c.in_ok-version.ensures.reads.files ∙ told1) (its_size (files c.args.name.now) c.in-Some.size is))
