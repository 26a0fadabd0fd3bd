-- The book of any shape as a value.
use Rattle.std.specs.Prelude.{ℕ}
use Rattle.book_model.specs.Book.{Book}
use Rattle.codebook_core.specs.declared.reading.AnyBook.{AnyBook}
use Rattle.codebook_core.specs.declared.reading.AnyBook.TheVariants.{F4444, F555, F664, F88}

abbrev pub view_any : AnyBook → Book
view_any (F4444 book) = book
view_any (F555 book) = book
view_any (F664 book) = book
view_any (F88 book) = book

-- the same beside where the next field begins
abbrev pub view_any_at : AnyBook × ℕ → Book × ℕ
view_any_at x = (view_any x.0, x.1)
