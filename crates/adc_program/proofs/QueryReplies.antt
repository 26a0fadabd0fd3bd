-- The reply to a query line, case by case.
use Rattle.std.proofs.Common.{◌≡◌, ℕ, List, [], ◌∷◌, length, inl, inr, refl, ap, ◌∙◌}
use Rattle.std.specs.Prelude.{Option, Some, None, codes, nat_le, nat_lt, ◌||◌}
use Rattle.std.proofs.lemmas.Bool.{cases_Bool}
use Rattle.book_model.specs.Rows.{Row as Stored}
use Rattle.play_script.specs.declared.Command.TheVariants.{Query}
use Rattle.play_script.specs.declared.Cause.{Cause}
use Rattle.play_script.specs.Texts.{refused}
use Rattle.play_script.specs.Play.{Means, Stage, Reply, one_line, asked, ranges_of, found_by, reply}
use Rattle.adc_program.specs.Queries.{query_cause}

module _ (means : Means) (stage : Stage) (rows : List Stored) (number k wanted : ℕ) (ids : Option (ℕ × ℕ)) where
  -- the reply by the cause that refuses the line, if one does
  by_cause : Option Cause → Reply
  by_cause None = record {
    lines = found_by means stage.book number (asked stage number k wanted (ranges_of ids)) rows;
    rows = rows;
    queries = record { query = asked stage number k wanted (ranges_of ids); rows = rows } ∷ [];
  }
  by_cause (Some cause) = one_line (refused (codes "query") number cause) rows

  reply_is : reply means stage rows (Query number k wanted ids) ≡ by_cause (query_cause (length stage.queries) number k wanted)
  unfolding reply by_cause
  reply_is = elim (cases_Bool (nat_le (length stage.queries) number)) [
    | inl past ↦ simp past refl
    | inr there ↦ elim (cases_Bool (nat_lt k 1 || nat_lt 1000 k)) [
      | inl far ↦ simp (there, far) refl
      | inr near ↦ elim (cases_Bool (nat_lt wanted 1 || nat_lt 4194304 wanted)) [
        | inl far ↦ simp (there, near, far) refl
        | inr near2 ↦ simp (there, near, near2) refl
      ]
    ]
  ]

  pub query_refused : (cause : Cause) → query_cause (length stage.queries) number k wanted ≡ Some cause → reply means stage rows (Query number k wanted ids) ≡ one_line (refused (codes "query") number cause) rows
  unfolding by_cause
  query_refused cause e = reply_is ∙ ap by_cause e

  pub query_found : query_cause (length stage.queries) number k wanted ≡ None
      → reply means stage rows (Query number k wanted ids) ≡ record {
        lines = found_by means stage.book number (asked stage number k wanted (ranges_of ids)) rows;
        rows = rows;
        queries = record { query = asked stage number k wanted (ranges_of ids); rows = rows } ∷ [];
      }
  unfolding by_cause
  query_found e = reply_is ∙ ap by_cause e

  rows_by : (cause : Option Cause) → (by_cause cause).rows ≡ rows
  unfolding by_cause
  rows_by None = refl
  rows_by (Some cause) = refl

  pub query_rows : (reply means stage rows (Query number k wanted ids)).rows ≡ rows
  query_rows = ap (λ (r : Reply). r.rows) reply_is ∙ rows_by (query_cause (length stage.queries) number k wanted)
