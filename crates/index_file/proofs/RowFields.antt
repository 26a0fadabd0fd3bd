-- The fields of a row, and rows that are read behind others.
use Rattle.std.proofs.Common.{◌≡◌, ℕ, zero, suc, ◌-◌, ◌^◌, ◌<◌, ◌≤◌, true, false, Bool, List, [], ◌∷◌, ◌++◌, length, map, Ok, Err, refl, sym, ap, subst, ◌∙◌, arith, append_assoc}
use Rattle.std.specs.Prelude.{sum, ◌==◌, ◌||◌}
use Rattle.std.specs.List.{flat_map, AllByRecursion, IsDistinct}
use Rattle.std.specs.Int.{w16, w32, to_le_bytes}
use Rattle.std.proofs.lemmas.List.{append-nil}
use Rattle.std.proofs.lemmas.List.Folds.{list_any-append}
use Rattle.adc_ports.specs.declared.What.TheVariants.{Id}
use Rattle.adc_ports.specs.Reading.{Read, ◌>>=◌, allowed_at}
use Rattle.file_fields.specs.Fields.{Reader, IsField, AreMany, IsInFront}
use Rattle.file_fields.proofs.Steps.{bind_then, bind_same, bind_ok}
use Rattle.file_fields.proofs.Closure.{end_field, alike_field, allowed_field, tested_field, then_field, front_field, many_field}
use Rattle.file_fields.proofs.Numbers.{wide16, wide32, within_field, limited_field}
use Rattle.file_fields.proofs.Many.{made}
use Rattle.shape_core.specs.Word.{IsWord, IsCode, words_of, code_of_words}
use Rattle.shape_core.proofs.Codes.{AreCodeWords-words_of, IsCode-code_of_words, code_of_words-words_of, words_of-code_of_words}
use Rattle.book_model.specs.Rows.{Row, has_id}
use Rattle.codebook_core.specs.Spelling.{spelled}
use Rattle.index_file.specs.Spelling.{code_bytes, member_bytes}
use Rattle.index_file.specs.Reading.{Layout, words_at, id_at, row_at, member_at}

-- words of these widths have at most two bytes
abbrev pub AreSmall : List ℕ → Type 0
AreSmall widths = (1 ≤ 2 ^ sum widths) × (2 ^ sum widths ≤ 65536)

below_field : (limit : ℕ) → 1 ≤ limit → limit ≤ 65536 → IsField (allowed_at w16 0 (limit - 1)) (to_le_bytes w16) (λ n. n < limit)
below_field limit some few = allowed_field (λ n is. omega (arith, is.1, some)) (λ n is. (omega arith, omega (arith, is))) (within_field w16 65536 wide16 0 (limit - 1) (omega (arith, some, few)))

id_field : (before : List Row) → IsField (id_at before) (to_le_bytes w32) (λ id. ((0 ≤ id) × (id ≤ 2147483647)) × (has_id before id ≡ false))
unfolding id_at
id_field before = tested_field (λ id. has_id before id) (limited_field w32 (2 ^ 32) wide32 0 2147483647 (omega arith) Id)

abbrev row_with : ℕ → ℕ → List ℕ → Row
row_with id cell code = record { id = id; cell = cell; code = code }

-- a row of an id that none of these has, of this cell
pub record IsMember (widths : List ℕ) (g of_cell : ℕ) (before : List Row) (row : Row) : Type 0 where
  pub id : ((0 ≤ row.id) × (row.id ≤ 2147483647)) × (has_id before row.id ≡ false)
  pub cell : row.cell ≡ of_cell
  pub code : IsCode widths g row.code

-- a row of an id that none of these has, of a cell from low on
pub record IsNext (widths : List ℕ) (g cells low : ℕ) (before : List Row) (row : Row) : Type 0 where
  pub id : ((0 ≤ row.id) × (row.id ≤ 2147483647)) × (has_id before row.id ≡ false)
  pub cell : (low ≤ row.cell) × (row.cell ≤ cells - 1)
  pub code : IsCode widths g row.code

-- a row by its id, its cell and its words
abbrev pub row_bytes : List ℕ → ℕ → Row → List ℕ
row_bytes widths g row = to_le_bytes w32 row.id ++ to_le_bytes w32 row.cell ++ code_bytes widths g row.code

module _ (widths : List ℕ) (small : AreSmall widths) (g cells : ℕ) (few : cells ≤ 1048576) where
  abbrev of_layout : Layout
  of_layout = record { widths = widths; g = g; cells = cells }

  words_field : IsField (words_at widths g) (spelled w16) (AreMany g (IsWord widths))
  words_field = many_field (words_at widths) (λ bytes at. refl) (λ n bytes at. refl) (below_field (2 ^ sum widths) small.0 small.1) g

  code_is : (words code : List ℕ) → AreMany g (IsWord widths) words → code ≡ code_of_words widths words → IsCode widths g code
  code_is words code are e = subst (λ (c : List ℕ). IsCode widths g c) (sym e) (subst (λ (n : ℕ). IsCode widths n (code_of_words widths words)) are.count (IsCode-code_of_words widths words))

  words_are : (code : List ℕ) → IsCode widths g code → AreMany g (IsWord widths) (words_of widths g code)
  words_are code is = let are = AreCodeWords-words_of widths g code is in record { count = are.count; each = are.each }

  words_back : (words : List ℕ) (row : Row) (id cell : ℕ) → AreMany g (IsWord widths) words → row ≡ row_with id cell (code_of_words widths words) → words_of widths g row.code ≡ words
  words_back words row id cell are is = ap (λ (r : Row). words_of widths g r.code) is ∙ words_of-code_of_words widths g words (record { count = are.count; each = are.each })

  pub member_field : (of_cell : ℕ) (before : List Row) → IsField (member_at of_layout of_cell before) (member_bytes widths g) (IsMember widths g of_cell before)
  unfolding member_at
  member_field of_cell before = alike_field (λ bytes at. refl)
      (λ row is. ap (λ (l : List ℕ). to_le_bytes w32 row.id ++ l) (sym (append-nil (spelled w16 (words_of widths g row.code)))))
      (λ row is. record { id = is.0; cell = ap (λ (r : Row). r.cell) is.1.1; code = code_is (words_of widths g row.code) row.code is.1.0 (ap (λ (r : Row). r.code) is.1.1) })
      (λ row is. (is.id, (words_are row.code is.code, ap (λ (c : ℕ). row_with row.id c row.code) is.cell ∙ ap (λ (l : List ℕ). row_with row.id of_cell l) (sym (code_of_words-words_of widths g row.code is.code)))))
      (then_field (λ (r : Row). r.id) (id_field before) (λ id of_id.
      then_field (λ (r : Row). words_of widths g r.code) words_field (λ words of_words.
      end_field {A = Row} (row_with id of_cell (code_of_words widths words)))
      (λ words r of_words is. words_back words r id of_cell of_words is))
      (λ id r of_id rest. ap (λ (b : Row). b.id) rest.1))

  pub row_field : (low : ℕ) (before : List Row) → IsField (row_at of_layout before low) (row_bytes widths g) (IsNext widths g cells low before)
  unfolding row_at
  row_field low before = alike_field (λ bytes at. refl)
      (λ row is. ap (λ (l : List ℕ). to_le_bytes w32 row.id ++ (to_le_bytes w32 row.cell ++ l)) (sym (append-nil (spelled w16 (words_of widths g row.code)))))
      (λ row is. record { id = is.0; cell = is.1.0; code = code_is (words_of widths g row.code) row.code is.1.1.0 (ap (λ (r : Row). r.code) is.1.1.1) })
      (λ row is. (is.id, (is.cell, (words_are row.code is.code, ap (λ (l : List ℕ). row_with row.id row.cell l) (sym (code_of_words-words_of widths g row.code is.code))))))
      (then_field (λ (r : Row). r.id) (id_field before) (λ id of_id.
      then_field (λ (r : Row). r.cell) (within_field w32 (2 ^ 32) wide32 low (cells - 1) (omega (arith, few))) (λ cell of_cell.
      then_field (λ (r : Row). words_of widths g r.code) words_field (λ words of_words.
      end_field {A = Row} (row_with id cell (code_of_words widths words)))
      (λ words r of_words is. words_back words r id cell of_words is))
      (λ cell r of_cell rest. ap (λ (b : Row). b.cell) rest.1))
      (λ id r of_id rest. ap (λ (b : Row). b.id) rest.1.1))

-- ---- so many rows behind others, each read by what stands before it

regrouped : (before : List Row) (row : Row) (r : Read (List Row)) → made (λ rows. (before ++ row ∷ []) ++ rows) r ≡ made (λ rows. before ++ rows) (r >>= λ rows. Ok (row ∷ rows.0, rows.1))
regrouped before row (Ok x) = ap (λ (l : List Row). Ok (l, x.1)) (append_assoc before (row ∷ []) x.0)
regrouped before row (Err fault) = refl

module _ (one : ℕ → List Row → Reader Row) (next : ℕ → Row → ℕ) where
  abbrev pub fresh : ℕ → ℕ → List Row → Reader (List Row)
  fresh zero k before bytes at = Ok ([], at)
  fresh (suc n) k before bytes at = one k before bytes at >>= λ row. fresh n (next k row.0) (before ++ row.0 ∷ []) bytes row.1 >>= λ rows. Ok (row.0 ∷ rows.0, rows.1)

  -- a reader that gives the rows before, and these behind them
  pub gathered : (all : ℕ → ℕ → List Row → Reader (List Row)) → ((k : ℕ) (before : List Row) (bytes : List ℕ) (at : ℕ) → all zero k before bytes at ≡ Ok (before, at))
      → ((n k : ℕ) (before : List Row) (bytes : List ℕ) (at : ℕ) → all (suc n) k before bytes at ≡ (one k before bytes at >>= λ row. all n (next k row.0) (before ++ row.0 ∷ []) bytes row.1))
      → (n k : ℕ) (before : List Row) (bytes : List ℕ) (at : ℕ) → all n k before bytes at ≡ made (λ rows. before ++ rows) (fresh n k before bytes at)
  gathered all none more zero k before bytes at = none k before bytes at ∙ ap (λ (l : List Row). Ok (l, at)) (sym (append-nil before))
  gathered all none more (suc n) k before bytes at =
      let first : Row × ℕ → Read (List Row) = λ row. all n (next k row.0) (before ++ row.0 ∷ []) bytes row.1 in
      let behind : Row × ℕ → Read (List Row) = λ row. fresh n (next k row.0) (before ++ row.0 ∷ []) bytes row.1 >>= λ rows. Ok (row.0 ∷ rows.0, rows.1) in
      let last : List Row × ℕ → Read (List Row) = λ x. Ok (before ++ x.0, x.1) in
      more n k before bytes at
      ∙ bind_same (one k before bytes at) first (λ row. behind row >>= last) (λ row is.
      gathered all none more n (next k row.0) (before ++ row.0 ∷ []) bytes row.1 ∙ regrouped before row.0 (fresh n (next k row.0) (before ++ row.0 ∷ []) bytes row.1))
      ∙ sym (bind_then (one k before bytes at) behind last)

  pub fresh_count : (n k : ℕ) (before : List Row) (bytes : List ℕ) (at : ℕ) (x : List Row × ℕ) → fresh n k before bytes at ≡ Ok x → length x.0 ≡ n
  fresh_count zero k before bytes at x e = let same : ◌≡◌ {A = List Row × ℕ} ([], at) x = cc in ap (λ (y : List Row × ℕ). length y.0) (sym same)
  fresh_count (suc n) k before bytes at x e =
      let a = bind_ok (one k before bytes at) _ x e in
      let b = bind_ok (fresh n (next k a.0.0) (before ++ a.0.0 ∷ []) bytes a.0.1) _ x a.2 in
      let same : ◌≡◌ {A = List Row × ℕ} (a.0.0 ∷ b.0.0, b.0.1) x = cc in
      ap (λ (y : List Row × ℕ). length y.0) (sym same) ∙ ap suc (fresh_count n (next k a.0.0) (before ++ a.0.0 ∷ []) bytes a.0.1 b.0 b.1)

  module _ (P : ℕ → List Row → Row → Type 0) where
    abbrev pub Follow : ℕ → ℕ → List Row → List Row → Type 0
    Follow zero k before rows = rows ≡ []
    Follow (suc n) k before rows = IsInFront (P k before) (λ row. Follow n (next k row) (before ++ row ∷ [])) rows

    pub follow_count : (n k : ℕ) (before rows : List Row) → Follow n k before rows → length rows ≡ n
    follow_count zero k before rows e = ap (λ (l : List Row). length l) e
    follow_count (suc n) k before [] is = absurd is
    follow_count (suc n) k before (row ∷ rows) is = ap suc (follow_count n (next k row) (before ++ row ∷ []) rows is.1)

    pub fresh_field : (s : Row → List ℕ) → ((k : ℕ) (before : List Row) → IsField (one k before) s (P k before)) → (n k : ℕ) (before : List Row) → IsField (fresh n k before) (flat_map s) (Follow n k before)
    fresh_field s field zero k before = alike_field (λ bytes at. refl) (λ rows e. rw e refl) (λ rows e. e) (λ rows e. e) (end_field [])
    fresh_field s field (suc n) k before = alike_field (λ bytes at. refl) (λ rows is. refl) (λ rows is. is) (λ rows is. is) (front_field (field k before) (λ row is. fresh_field s field n (next k row) (before ++ row ∷ [])))

-- ---- ids that do not come twice

-- ids that stand in none of the rows before, and not twice among these
pub record AreNew (before rows : List Row) : Type 0 where
  pub new : AllByRecursion (λ row. has_id before row.id ≡ false) rows
  pub apart : IsDistinct (λ a b. a == b) (map (λ row. row.id) rows)

either : (a b : Bool) → (a || (b || false)) ≡ false → (a ≡ false) × (b ≡ false)
either true b e = absurd cc
either false true e = absurd cc
either false false e = (refl, refl)

neither : (a b : Bool) → a ≡ false → b ≡ false → (a || (b || false)) ≡ false
neither a b e f = rw (e, f) refl

has_more : (before : List Row) (row : Row) (id : ℕ) → has_id (before ++ row ∷ []) id ≡ (has_id before id || ((row.id == id) || false))
has_more before row id = list_any-append (λ r. r.id == id) before (row ∷ [])

apart_on : (before : List Row) (row : Row) (rows : List Row) → AllByRecursion (λ r. has_id (before ++ row ∷ []) r.id ≡ false) rows
    → AllByRecursion (λ r. has_id before r.id ≡ false) rows × AllByRecursion (λ id. (row.id == id) ≡ false) (map (λ r. r.id) rows)
apart_on before row [] all = (tt, tt)
apart_on before row (r ∷ rs) all =
    let here = either (has_id before r.id) (row.id == r.id) (sym (has_more before row r.id) ∙ all.0) in
    let others = apart_on before row rs all.1 in
    ((here.0, others.0), (here.1, others.1))

apart_back : (before : List Row) (row : Row) (rows : List Row) → AllByRecursion (λ r. has_id before r.id ≡ false) rows → AllByRecursion (λ id. (row.id == id) ≡ false) (map (λ r. r.id) rows)
    → AllByRecursion (λ r. has_id (before ++ row ∷ []) r.id ≡ false) rows
apart_back before row [] new apart = tt
apart_back before row (r ∷ rs) new apart = (has_more before row r.id ∙ neither (has_id before r.id) (row.id == r.id) new.0 apart.0, apart_back before row rs new.1 apart.1)

pub new_none : (before : List Row) → AreNew before []
unfolding IsDistinct
new_none before = record { new = tt; apart = tt }

pub new_more : (before : List Row) (row : Row) (rows : List Row) → has_id before row.id ≡ false → AreNew (before ++ row ∷ []) rows → AreNew before (row ∷ rows)
unfolding IsDistinct
new_more before row rows here are = let parts = apart_on before row rows are.new in record { new = (here, parts.0); apart = (parts.1, are.apart) }

pub new_first : (before : List Row) (row : Row) (rows : List Row) → AreNew before (row ∷ rows) → has_id before row.id ≡ false
new_first before row rows are = are.new.0

pub new_others : (before : List Row) (row : Row) (rows : List Row) → AreNew before (row ∷ rows) → AreNew (before ++ row ∷ []) rows
unfolding IsDistinct
new_others before row rows are = record { new = apart_back before row rows are.new.1 are.apart.0; apart = are.apart.1 }

pub new_then : (before rows others : List Row) → AreNew before rows → AreNew (before ++ rows) others → AreNew before (rows ++ others)
new_then before [] others are then = subst (λ (l : List Row). AreNew l others) (append-nil before) then
new_then before (row ∷ rows) others are then =
    new_more before row (rows ++ others) (new_first before row rows are)
    (new_then (before ++ row ∷ []) rows others (new_others before row rows are) (subst (λ (l : List Row). AreNew l others) (sym (append_assoc before (row ∷ []) rows)) then))

-- those in front, and those behind them
pub new_split : (before rows others : List Row) → AreNew before (rows ++ others) → AreNew before rows × AreNew (before ++ rows) others
new_split before [] others are = (new_none before, subst (λ (l : List Row). AreNew l others) (sym (append-nil before)) are)
new_split before (row ∷ rows) others are =
    let parts = new_split (before ++ row ∷ []) rows others (new_others before row (rows ++ others) are) in
    (new_more before row rows (new_first before row (rows ++ others) are) parts.0, subst (λ (l : List Row). AreNew l others) (append_assoc before (row ∷ []) rows) parts.1)
