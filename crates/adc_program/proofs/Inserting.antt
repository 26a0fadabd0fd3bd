-- Rows that are inserted one after another.
use Rattle.std.proofs.Common.{◌≡◌, ◌∙◌, ℕ, ◌+◌, List, [], ◌∷◌, ◌++◌, map, refl, sym, ap}
use Rattle.book_model.specs.Sums.{numbers_below}
use Rattle.book_model.specs.Book.{Book}
use Rattle.book_model.specs.Rows.{Row, Edit, row_of, insert_row, edit_rows, or_unchanged, rows_after}
use Rattle.adc_program.specs.Rows.{insert_of, numbered_rows}
use Rattle.adc_program.proofs.Numbers.{mapped_more}

after_more : (most : ℕ) (rows : List Row) (edits : List Edit) (edit : Edit) → rows_after most rows (edits ++ edit ∷ []) ≡ or_unchanged (rows_after most rows edits) (edit_rows most (rows_after most rows edits) edit)
after_more most rows [] edit = refl
after_more most rows (first ∷ edits) edit = after_more most (or_unchanged rows (edit_rows most rows first)) edits edit

pub numbered_none : (book : Book) (vector : ℕ → List ℕ) → numbered_rows book vector 0 ≡ []
unfolding numbered_rows
numbered_none book vector = refl

-- one row more
pub numbered_more : (book b : Book) (vector : ℕ → List ℕ) (n : ℕ) (v : List ℕ) (rows after : List Row) → rows ≡ numbered_rows book vector n → b ≡ book → v ≡ vector n
    → after ≡ or_unchanged rows (insert_row 4194304 rows (row_of b n v)) → after ≡ numbered_rows book vector (n + 1)
unfolding numbered_rows
numbered_more book b vector n v rows after are same is h =
    h ∙ rw (are, same, is) (sym (ap (rows_after 4194304 []) (mapped_more (insert_of book vector) n) ∙ after_more 4194304 [] (map (insert_of book vector) (numbers_below n)) (insert_of book vector n)))
