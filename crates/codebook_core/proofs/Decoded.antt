-- What decoding finds.
use Rattle.std.proofs.Common.{◌≡◌, ℕ, ◌+◌, List, ◌++◌, length, drop, Result, Ok, Err, refl, sym, subst, ap, ◌∙◌, arith, ◌≤◌, ◌≢◌, cond, inl, inr, le-ltb, drop-drop, drop_at, IfOk}
use Rattle.std.proofs.lemmas.Bool.Decides.{eqb_tells}
use Rattle.adc_ports.specs.declared.What.TheVariants.{Bytes}
use Rattle.adc_ports.specs.Reading.{Fault, Malformed, Limit, ◌>>=◌, ends_at}
use Rattle.file_fields.specs.Fields.{IsBytes, Spells}
use Rattle.file_fields.proofs.Steps.{tells_same}
use Rattle.book_model.specs.Book.{Book, IsGood}
use Rattle.codebook_core.specs.declared.error.BookError.{BookError}
use Rattle.codebook_core.specs.declared.reading.AnyBook.{AnyBook}
use Rattle.codebook_core.specs.Any.{view_any, view_any_at}
use Rattle.codebook_core.specs.Gives.{Gives}
use Rattle.codebook_core.specs.Spelling.{book_bytes}
use Rattle.codebook_core.specs.Reading.{book_at, book_outcome}
use Rattle.codebook_core.proofs.Whole.{book_is_field, outcome_spelled, outcome_read}
use Rattle.codebook_core.proofs.Lengths.{book_short}

pub is_found : (bytes : List ℕ) (r : Result AnyBook BookError) → IsBytes bytes → Gives view_any r (book_outcome bytes) → IfOk r (λ book. IsGood (view_any book) × (bytes ≡ book_bytes (view_any book)))
is_found bytes (Ok book) are given = outcome_spelled bytes (view_any book) are given
is_found bytes (Err e) are given = tt

pub is_read : (bytes : List ℕ) (r : Result AnyBook BookError) → Gives view_any r (book_outcome bytes) → (book : Book) → IsGood book → bytes ≡ book_bytes book → Gives view_any r (Ok book)
is_read bytes r given book good e =
    let P : Result Book Fault → Type 0 = λ outcome. Gives view_any r outcome in
    subst P (outcome_read bytes book good (omega (arith, ap length e, book_short book good)) e) given

pub is_found_at : (bytes : List ℕ) (at : ℕ) (r : Result (AnyBook × ℕ) BookError) → IsBytes bytes → at ≤ length bytes → Gives view_any_at r (book_at bytes at)
    → IfOk r (λ x. IsGood (view_any x.0) × (drop at bytes ≡ book_bytes (view_any x.0) ++ drop x.1 bytes))
is_found_at bytes at (Ok x) are le given =
    let found = tells_same book_bytes IsGood bytes at (book_at bytes at) (book_is_field.tells bytes at are le) (view_any x.0, x.1) given in
    (found.0, found.1.part)
is_found_at bytes at (Err e) are le given = tt

pub is_read_at : (bytes : List ℕ) (at : ℕ) (r : Result (AnyBook × ℕ) BookError) → at ≤ length bytes → Gives view_any_at r (book_at bytes at)
    → (book : Book) (rest : List ℕ) → IsGood book → drop at bytes ≡ book_bytes book ++ rest → Gives view_any_at r (Ok (book, at + length (book_bytes book)))
is_read_at bytes at r le given book rest good e =
    let text = book_bytes book in
    let later : drop (at + length text) bytes ≡ rest = sym (drop-drop (length text) at bytes) ∙ ap (λ (t : List ℕ). drop (length text) t) e ∙ drop_at text rest (length text) refl in
    let spelled : Spells bytes at text (at + length text) = record { ends = refl; part = e ∙ ap (λ (t : List ℕ). text ++ t) (sym later) } in
    let P : Result (Book × ℕ) Fault → Type 0 = λ outcome. Gives view_any_at r outcome in
    subst P (book_is_field.read bytes at (at + length text) book le good spelled) given

-- a byte stands behind the book
pub ended_late : (bytes : List ℕ) (book : Book) (at : ℕ) → length bytes ≤ 4194304 → book_at bytes 0 ≡ Ok (book, at) → at ≢ length bytes → book_outcome bytes ≡ Err (Malformed at)
unfolding book_outcome
ended_late bytes book at small read late = elim (eqb_tells at (length bytes)) [
  | inl same ↦ absurd (late same.1)
  | inr other ↦
      ap (λ t. cond t (Err (Limit Bytes (length bytes))) (book_at bytes 0 >>= ends_at bytes)) (le-ltb 4194304 (length bytes) small)
      ∙ ap (λ (r : Result (Book × ℕ) Fault). r >>= ends_at bytes) read ∙ ap (λ t. cond t (Ok book) (Err (Malformed at))) other.0
]
