-- The distance of a code by full tables.
use Rattle.std.proofs.Common.{◌≡◌, ℕ, ◌*◌, ◌%◌, ◌^◌, ◌<◌, ◌≤◌, List, length, get_or, sym, ap, subst, ◌∙◌, arith}
use Rattle.std.proofs.lemmas.List.{length-map}
use Rattle.book_model.specs.Book.{Book, sub_count, sub_words, part}
use Rattle.book_model.specs.Distance.{dist}
use Rattle.book_model.specs.Bound.{Tables, table_at, picked_sum, base_sum, bound, threshold, tables}
use Rattle.book_model.specs.Answer.{table_distance}
use Rattle.book_model.specs.Laws.{Picks}
use Rattle.book_model.proofs.Pruning.{base_sum-le}
use Rattle.book_model.proofs.Tables.{IsCode, picked_sum-tables, pruned_is_far, length-tables, table_at-tables}
use Rattle.shape_core.specs.Word.{IsCode as AreFields, code_of_words}
use Rattle.shape_core.proofs.Codes.{IsCode-code_of_words}
use Rattle.adc_tables.specs.Full.{Full, IsFilledFor}

module _ (widths : List ℕ) (book : Book) (query : List ℕ) (full : Full) (is : IsFilledFor widths book query full) where
  pub tables_of : full.tables ≡ tables book query
  tables_of = ap (λ (f : Full). f.tables) is.filled

  pub g_of : full.g ≡ book.g
  g_of = ap (λ (f : Full). f.g) is.filled

  pub count_of : length full.tables ≡ full.g * length widths
  count_of = ap length tables_of ∙ length-tables book query ∙ ap (λ ws. book.g * length ws) is.shape ∙ ap (λ n. n * length widths) (sym g_of)

  -- fields within their widths are numbers of words
  pub code_is : (code : List ℕ) → AreFields widths full.g code → IsCode book code
  code_is code fits =
      let size : length code ≡ sub_count book = fits.count ∙ ap (λ n. n * length widths) g_of ∙ ap (λ ws. book.g * length ws) (sym is.shape) in
      record {
        picks = λ j lt.
            let below : get_or code j 0 < 2 ^ get_or widths (j % length widths) 0 = fits.each j (omega (arith, size)) in
            let same : 2 ^ get_or widths (j % length widths) 0 ≡ length (sub_words book j) = ap (λ ws. 2 ^ get_or ws (j % length ws) 0) (sym is.shape) ∙ sym (is.good.sub_each j lt).count in
            omega (arith, below, same);
      }

  picks_of : (code : List ℕ) → AreFields widths full.g code → Picks (tables book query) code
  picks_of code fits j lt =
      let there : j < sub_count book = subst (λ n. j < n) (length-tables book query) lt in
      let size : length (table_at (tables book query) j) ≡ length (sub_words book j) = ap length (table_at-tables book query j there) ∙ length-map (sub_words book j) (dist book.scale (part book j query)) in
      subst (λ n. get_or code j 0 < n) (sym size) ((code_is code fits).picks j there)

  -- no code lies nearer than the sum of the least entries
  pub base_le : (code : List ℕ) → AreFields widths full.g code → base_sum full.tables ≤ table_distance book query code
  base_le code fits =
      omega (arith, ap base_sum tables_of, base_sum-le (tables book query) code (picks_of code fits), picked_sum-tables book query code (code_is code fits))

  pub far_code : (code : List ℕ) → AreFields widths full.g code → (theta0 theta : ℕ) → threshold full.tables theta0 theta < bound full.tables theta0 code → theta < table_distance book query code
  far_code code fits theta0 theta above = pruned_is_far book query theta0 theta code (code_is code fits) (subst (λ (t : Tables). threshold t theta0 theta < bound t theta0 code) tables_of above)

  -- words of the tables' g have such fields
  pub fields_of_words : (words : List ℕ) → length words ≡ full.g → AreFields widths full.g (code_of_words widths words)
  fields_of_words words count = subst (λ n. AreFields widths n (code_of_words widths words)) count (IsCode-code_of_words widths words)

  pub distance_is : (words : List ℕ) → length words ≡ full.g → picked_sum full.tables (code_of_words widths words) ≡ table_distance book query (code_of_words widths words)
  distance_is words count = ap (λ (t : Tables). picked_sum t (code_of_words widths words)) tables_of ∙ picked_sum-tables book query (code_of_words widths words) (code_is (code_of_words widths words) (fields_of_words words count))

  pub far : (words : List ℕ) → length words ≡ full.g → (theta0 theta : ℕ) → threshold full.tables theta0 theta < bound full.tables theta0 (code_of_words widths words) → theta < table_distance book query (code_of_words widths words)
  far words count = far_code (code_of_words widths words) (fields_of_words words count)
