-- The two halves of a cell.
use Rattle.std.proofs.Common.{◌≡◌, ℕ, ◌*◌, ◌/◌, ◌%◌, ◌^◌, ◌<◌, List, [], ◌++◌, length, map, get_or, sym, ap, ap₂, subst, ◌∙◌, arith}
use Rattle.std.proofs.lemmas.List.{length-map}
use Rattle.std.proofs.lemmas.List.FromFn.{length-map-range_with_len, get_or-map-range_with_len}
use Rattle.book_model.specs.Sums.{numbers_below}
use Rattle.book_model.specs.Book.{Book, IsGood, part, sub_count, sub_words}
use Rattle.book_model.specs.Bound.{Tables, table_at}
use Rattle.adc_tables.specs.Full.{HasSizes}
use Rattle.word_columns.specs.Left.{rest_dist}
use Rattle.half_tables.specs.Residual.{IsResidual, residual_distances, residual_tables, center_of}
use Rattle.half_tables.specs.Half.{HalfSeen, IsHalfOf, AreHalves}
use Rattle.half_tables.proofs.Halves.{cell_tables, length_low}
use Rattle.residual_scan.specs.Cells.{AreOfCell}

-- the tables of a cell have an entry for each word
pub tables_sizes : (widths : List ℕ) (book : Book) → IsGood book → book.widths ≡ widths → (v : List ℕ) (cell : ℕ) → HasSizes widths (record { g = book.g; tables = residual_tables book v cell })
unfolding residual_tables
tables_sizes widths book good shape v cell =
    let f : ℕ → List ℕ = residual_distances book v cell in
    let long = length-map-range_with_len f 0 (sub_count book) in
    record {
      few = good.g.1;
      count = long ∙ ap (λ (ws : List ℕ). book.g * length ws) shape;
      each = λ j lt.
          let there : j < sub_count book = omega (arith, lt, long) in
          let table : table_at (map f (numbers_below (sub_count book))) j ≡ f j = get_or-map-range_with_len f 0 (sub_count book) j j [] there (omega arith) in
          ap length table ∙ length-map (sub_words book j) (rest_dist book.scale (part book j v) (part book j (center_of book cell))) ∙ (good.sub_each j there).count
          ∙ ap (λ (ws : List ℕ). 2 ^ get_or ws (j % length ws) 0) shape;
    }

-- two halves that are filled for a cell
module _ (book : Book) (residual : IsResidual book) (v : List ℕ) (cell : ℕ) (within : cell < book.k0 * book.k1) (low high : HalfSeen) (first : IsHalfOf book v 0 (cell / book.k1) low) (second : IsHalfOf book v 1 (cell % book.k1) high) where
  pub are_halves : AreHalves low high
  are_halves = record { low_half = first.0; high_half = second.0; g = second.1 ∙ sym first.1; split = second.2 ∙ sym first.2 }

  pub split_is : low.split ≡ length low.tables
  split_is = first.2 ∙ sym (ap length first.3 ∙ length_low book v (cell / book.k1))

  pub tables_are : low.tables ++ high.tables ≡ residual_tables book v cell
  tables_are = ap₂ (λ (xs ys : Tables). xs ++ ys) first.3 second.3 ∙ sym (cell_tables book residual cell within v)

  pub have_sizes : (widths : List ℕ) → book.widths ≡ widths → (g : ℕ) → g ≡ book.g → HasSizes widths (record { g = g; tables = low.tables ++ high.tables })
  have_sizes widths shape g g_is =
      subst (λ (t : Tables). HasSizes widths (record { g = g; tables = t })) (sym tables_are)
      (subst (λ n. HasSizes widths (record { g = n; tables = residual_tables book v cell })) (sym g_is) (tables_sizes widths book residual.good shape v cell))

  pub are_of_cell : (widths : List ℕ) → book.widths ≡ widths → (g : ℕ) → g ≡ book.g → AreOfCell widths g low high
  are_of_cell widths shape g g_is = record { halves = are_halves; g_is = first.1 ∙ sym g_is; split = split_is; sizes = have_sizes widths shape g g_is }
