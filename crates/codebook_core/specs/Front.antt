-- The bounds of the numbers at the front of a book.
use Rattle.std.specs.Prelude.{ℕ, ◌<◌, ◌≤◌, List, length}
use Rattle.std.specs.List.{AllByRecursion, Contains}
use Rattle.book_model.specs.Book.{shapes}
use Rattle.codebook_core.specs.declared.fields.Front.{Front}

pub record IsFront (front : Front) : Type 0 where
  pub versions : (1 ≤ front.version) × (front.version ≤ 2)
  pub dims : (2 ≤ front.d) × (front.d ≤ 1024)
  pub halves : (1 ≤ front.h) × (front.h < front.d)
  pub words0 : (1 ≤ front.k0) × (front.k0 ≤ 1024)
  pub words1 : (1 ≤ front.k1) × (front.k1 ≤ 1024)
  pub number : front.shape ≤ 3

-- the widths of one of the four shapes
pub record AreWidths (widths : List ℕ) : Type 0 where
  pub some : (1 ≤ length widths) × (length widths ≤ 4)
  pub each : AllByRecursion (λ width. width ≤ 8) widths
  pub listed : Contains shapes widths
