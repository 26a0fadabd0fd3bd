use Rattle.std.proofs.Common.{List, ℕ, Some, subst, sym, ap, ◌∙◌}
use Rattle.adc_ports.specs.Reading.{Read}
use Rattle.book_model.specs.Book.{Book}
use Rattle.index_file.specs.declared.version.Version.{Version}
use Rattle.std.proofs.lemmas.Result.{err_from_is_err_and}
use Rattle.codebook_core.specs.Gives.{Fails}
use Rattle.codebook_core.specs.Reading.{book_at}
use Rattle.index_file.proofs.Starting.{front_ok, front_long, front_refused}
use Rattle.index_file.proofs.reading.read_inner.Goals as goal

pub returns-in_err-book-clause-found : goal.returns-in_err-book-clause-found
returns-in_err-book-clause-found c = λ bytes start is.
    let p = err_from_is_err_and c.from_residual.result c.from_residual.ensures.1 in
    rw (p.1, p.2) (front_refused bytes c.args.version c.args.size start c.in_err-book.field-0.0 (subst (λ (xs : List ℕ). Fails c.in_err-book.field-0.0 (book_at xs 12)) is c.in_err-book.ensures.exact))

pub returns-then-at-size-clause-found : goal.returns-then-at-size-clause-found
returns-then-at-size-clause-found c = λ bytes start is.
    ap (λ (r : Read (Version × Book)). Some r) (front_long bytes c.args.version c.args.size start _ c.in_ok-book.at (ap (λ (xs : List ℕ). book_at xs 12) (sym is) ∙ c.in_ok-book.ensures.exact) c.if-at-size.true)

pub returns-clause-found : goal.returns-clause-found
returns-clause-found c = λ bytes start is.
    front_ok bytes c.args.version c.args.size start _ c.in_ok-book.at (ap (λ (xs : List ℕ). book_at xs 12) (sym is) ∙ c.in_ok-book.ensures.exact) c.if-at-size.false
