-- The words of a book by column.
use Rattle.std.specs.Prelude.{◌≡◌, ℕ, List}
use Rattle.book_model.specs.Book.{Book}
use Rattle.codebook_core.specs.View.{view_of, IsKept}
use Rattle.codebook_core.specs.declared.parts.Parts.{Parts}
use Rattle.codebook_core.specs.declared.columns.Columns.{Columns}

-- each list of words of the book
pub record KeepWords (book : Book) (columns : Columns) : Type 0 where
  pub coarse0 : columns.coarse0 ≡ book.coarse0
  pub coarse1 : columns.coarse1 ≡ book.coarse1
  pub subs : columns.subs.items ≡ book.subs

-- a good book that is laid out, and its words by column
pub record IsBook (widths : List ℕ) (parts : Parts) (columns : Columns) : Type 0 where
  pub kept : IsKept widths parts
  pub words : KeepWords (view_of widths parts) columns
