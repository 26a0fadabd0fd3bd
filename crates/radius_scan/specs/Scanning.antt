-- Scans of rows after rows.
use Rattle.std.proofs.Common.{◌≡◌, ℕ, ◌+◌, List, [], ◌++◌, length, map, filter, sym, ap, ◌∙◌, append_assoc, arith, length-append}
use Rattle.std.specs.Prelude.{nat_le}
use Rattle.std.proofs.lemmas.List.{append-nil, map-append}
use Rattle.std.proofs.lemmas.List.Elements.{filter-append}
use Rattle.book_model.specs.Order.{Pair as Ordered}
use Rattle.book_model.specs.Book.{Book}
use Rattle.book_model.specs.Rows.{Row}
use Rattle.book_model.specs.Answer.{pairs_of, table_distance}
use Rattle.best_k.specs.Least.{key_of}
use Rattle.best_k.specs.declared.Pair.{Pair}
use Rattle.adc_tables.specs.Full.{Full}
use Rattle.radius_scan.specs.Radius.{pairs_within, is_radius_full, full_within}
use Rattle.radius_scan.specs.Found.{Scans}

module _ (book : Book) (query : List ℕ) (r : ℕ) (rows more : List Row) where
  within-append : pairs_within r (pairs_of book query (rows ++ more)) ≡ pairs_within r (pairs_of book query rows) ++ pairs_within r (pairs_of book query more)
  within-append =
      ap (pairs_within r) (map-append (λ (row : Row). (table_distance book query row.code, row.id)) rows more)
      ∙ filter-append (λ (pair : Ordered). nat_le pair.0 r) (pairs_of book query rows) (pairs_of book query more)

  full_within-append : full_within book query r (rows ++ more) ≡ full_within book query r rows + full_within book query r more
  full_within-append =
      ap length (filter-append (is_radius_full book query r) rows more)
      ∙ length-append (filter (is_radius_full book query r) rows) (filter (is_radius_full book query r) more)

module _ (widths : List ℕ) (tables : Full) (r : ℕ) where
  pub scans_none : (pairs : List Pair) (full : ℕ) → Scans widths tables r [] pairs pairs full full
  scans_none pairs full = record {
    found = λ book query is. sym (append-nil (map key_of pairs));
    counted = λ book query is. omega arith;
    few = omega arith;
    risen = (omega arith, omega arith);
  }

  pub scans_more : (rows more : List Row) (first next last : List Pair) (full full' full'' : ℕ)
      → Scans widths tables r rows first next full full' → Scans widths tables r more next last full' full'' → Scans widths tables r (rows ++ more) first last full full''
  scans_more rows more first next last full full' full'' one two = record {
    found = λ book query is.
        two.found book query is
        ∙ ap (λ (l : List Ordered). l ++ pairs_within r (pairs_of book query more)) (one.found book query is)
        ∙ append_assoc (map key_of first) (pairs_within r (pairs_of book query rows)) (pairs_within r (pairs_of book query more))
        ∙ ap (λ (l : List Ordered). map key_of first ++ l) (sym (within-append book query r rows more));
    counted = λ book query is. omega (arith, one.counted book query is, two.counted book query is, full_within-append book query r rows more);
    few = omega (arith, one.few, two.few, length-append rows more);
    risen = (omega (arith, one.risen, two.risen), omega (arith, one.risen, two.risen, length-append rows more));
  }
