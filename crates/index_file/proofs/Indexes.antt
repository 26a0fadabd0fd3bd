-- An index is read from its spelling, and spelled as it is read.
use Rattle.std.proofs.Common.{◌≡◌, ℕ, zero, suc, ◌+◌, ◌*◌, ◌^◌, ◌<◌, ◌≤◌, ◌⊎◌, Bool, true, false, cond, List, [], ◌∷◌, ◌++◌, length, take, drop, Result, Ok, Err, refl, sym, ap, subst, ◌∙◌, arith, append_assoc, length-append, lit≤, inl, inr, eqb}
use Rattle.std.specs.Prelude.{codes, bytes_eq, nat_lt, slice_index_or}
use Rattle.std.specs.List.{flat_map, AllByRecursion}
use Rattle.std.specs.Int.{w16, w32, to_le_bytes}
use Rattle.std.proofs.lemmas.Bool.{eqb-true, eq-eqb, le-ltb}
use Rattle.std.proofs.lemmas.Nat.{mul-le}
use Rattle.std.proofs.lemmas.Slice.Eq.{bytes_eq-Decides}
use Rattle.std.proofs.lemmas.List.{append-nil, length-take, take_at, drop-take, drop_all, drop-append-le, take-append-drop}
use Rattle.std.proofs.lemmas.List.Concat.{flat_map-cons}
use Rattle.adc_ports.specs.declared.What.TheVariants.{Bytes, Book as BookLength}
use Rattle.adc_ports.specs.Reading.{Fault, Malformed, Limit, ◌>>=◌, limited_at, ends_at}
use Rattle.file_fields.specs.Fields.{IsBytes, Spells, Tells, IsField}
use Rattle.file_fields.proofs.Steps.{bind_ok, spells_then, spells_split, spells_within, spells_all, all_spells, tells_same, tells_either}
use Rattle.file_fields.proofs.Numbers.{wide32, limited_field, text_spells, spells_stretch, bytes-take}
use Rattle.book_model.specs.Book.{Book, IsGood, shapes}
use Rattle.book_model.specs.Rows.{Row, has_id}
use Rattle.shape_core.specs.Word.{words_of}
use Rattle.shape_core.proofs.Codes.{length-words_of}
use Rattle.codebook_core.specs.Spelling.{spelled, book_bytes}
use Rattle.codebook_core.specs.Reading.{book_at}
use Rattle.codebook_core.proofs.Shapes.{numbered}
use Rattle.codebook_core.proofs.Whole.{book_is_field}
use Rattle.codebook_core.proofs.Lengths.{book_short}
use Rattle.cell_store.specs.Held.{IsRow}
use Rattle.index_file.specs.declared.version.Version.{Version}
use Rattle.index_file.specs.declared.version.Version.TheVariants.{One, Two}
use Rattle.index_file.specs.Spelling.{Group, groups_of, code_bytes, member_bytes, group_bytes, plain_bytes, index_bytes}
use Rattle.index_file.specs.Reading.{Indexed, layout_of, version_at, start_of, front_of, counted_at, all_rows, index_outcome}
use Rattle.index_file.specs.Laws.{AreIndexed, IndexesAreRead, IndexesAreSpelled}
use Rattle.index_file.proofs.RowFields.{AreSmall, row_bytes}
use Rattle.index_file.proofs.GroupFields.{rows_of}
use Rattle.index_file.proofs.Groupings.{IsCoded, Stand, groups_stand, groups_few, rows_again}
use Rattle.index_file.proofs.Counted.{MayStand, counted_bytes, counted_field}

-- ---- what a good book says of sizes

small_shape : (n : ℕ) → n ≤ 3 → AreSmall (slice_index_or shapes n [])
small_shape zero le = (lit≤ tt, lit≤ tt)
small_shape (suc zero) le = (lit≤ tt, lit≤ tt)
small_shape (suc (suc zero)) le = (lit≤ tt, lit≤ tt)
small_shape (suc (suc (suc zero))) le = (lit≤ tt, lit≤ tt)
small_shape (suc (suc (suc (suc n)))) le = absurd (omega arith)

module _ (book : Book) (good : IsGood book) where
  its_small : AreSmall book.widths
  its_small = let shape = numbered book.widths good.shape in subst AreSmall shape.there (small_shape _ shape.few)

  cells_few : book.k0 * book.k1 ≤ 1048576
  cells_few = omega (arith, mul-le book.k0 book.k1 1024 1024 good.k0.1 good.k1.1)

  cells_some : 1 ≤ book.k0 * book.k1
  cells_some = omega (arith, mul-le 1 1 book.k0 book.k1 good.k0.0 good.k1.0)

  abbrev Stands : List Row → Type 0
  Stands rows = MayStand book.widths book.g (book.k0 * book.k1) rows

  rows_field : (version : Version) → IsField (counted_at version (layout_of book)) (counted_bytes version book.widths book.g) (MayStand book.widths book.g (book.k0 * book.k1))
  rows_field version = counted_field book.widths its_small book.g (book.k0 * book.k1) cells_few cells_some version

-- ---- rows that an index may hold

each_coded : (widths : List ℕ) (g cells : ℕ) (rows : List Row) → AllByRecursion (IsRow widths g cells) rows → AllByRecursion (IsCoded widths g) rows × AllByRecursion (λ r. r.cell < cells) rows × AllByRecursion (λ r. 0 ≤ r.cell) rows
each_coded widths g cells [] each = (tt, tt, tt)
each_coded widths g cells (r ∷ rs) each =
    let others = each_coded widths g cells rs each.1 in
    (((each.0.id, each.0.code), others.0), (each.0.cell, others.1), (omega arith, others.2))

each_row : (widths : List ℕ) (g cells : ℕ) (rows : List Row) → AllByRecursion (IsCoded widths g) rows → AllByRecursion (λ r. r.cell < cells) rows → AllByRecursion (IsRow widths g cells) rows
each_row widths g cells [] coded below = tt
each_row widths g cells (r ∷ rs) coded below = (record { id = coded.0.0; cell = below.0; code = coded.0.1 }, each_row widths g cells rs coded.1 below.1)

none_before : (rows : List Row) → AllByRecursion (λ r. has_id [] r.id ≡ false) rows
none_before [] = tt
none_before (r ∷ rs) = (refl, none_before rs)

may_stand : (book : Book) (rows : List Row) → AreIndexed book rows → MayStand book.widths book.g (book.k0 * book.k1) rows
may_stand book rows are =
    let each = each_coded book.widths book.g (book.k0 * book.k1) rows are.each in
    record { few = are.few; are = record { coded = each.0; from = each.2; below = each.1; by_cell = are.ordered; new = record { new = none_before rows; apart = are.apart } } }

are_indexed : (book : Book) (rows : List Row) → MayStand book.widths book.g (book.k0 * book.k1) rows → AreIndexed book rows
are_indexed book rows is = record { few = is.few; each = each_row book.widths book.g (book.k0 * book.k1) rows is.are.coded is.are.below; apart = is.are.new.apart; ordered = is.are.by_cell }

-- ---- the letters

abbrev letters : Version → List ℕ
letters One = codes "ADCINDX1"
letters Two = codes "ADCINDX2"

version_tells : (bytes : List ℕ) (at : ℕ) → IsBytes bytes → at ≤ length bytes → Tells letters (λ version. Unit {0}) bytes at (version_at bytes at)
unfolding version_at
version_tells bytes at are le =
    let text = take 8 (drop at bytes) in
    tells_either letters (λ version. Unit {0}) bytes at (bytes_eq text (codes "ADCINDX1")) (Ok (One, at + 8)) _
    (λ one. (tt, text_spells bytes at (codes "ADCINDX1") ((bytes_eq-Decides text (codes "ADCINDX1")).0 one)))
    (λ other. tells_either letters (λ version. Unit {0}) bytes at (bytes_eq text (codes "ADCINDX2")) (Ok (Two, at + 8)) (Err (Malformed at))
    (λ two. (tt, text_spells bytes at (codes "ADCINDX2") ((bytes_eq-Decides text (codes "ADCINDX2")).0 two)))
    (λ none. (omega arith, le)))

version_read : (bytes : List ℕ) (at next : ℕ) (version : Version) → at ≤ length bytes → Unit {0} → Spells bytes at (letters version) next → version_at bytes at ≡ Ok (version, next)
unfolding version_at
version_read bytes at next One le is p =
    let text : take 8 (drop at bytes) ≡ codes "ADCINDX1" = spells_stretch p in
    rw text (ap (λ (k : ℕ). Ok (One, k)) (sym p.ends))
version_read bytes at next Two le is p =
    let text : take 8 (drop at bytes) ≡ codes "ADCINDX2" = spells_stretch p in
    rw text (ap (λ (k : ℕ). Ok (Two, k)) (sym p.ends))

version_field : IsField version_at letters (λ version. Unit {0})
version_field = record { tells = version_tells; read = version_read }

eight : (version : Version) → length (letters version) ≡ 8
eight One = refl
eight Two = refl

-- ---- the whole text

text_of : Version → Book → List Row → List ℕ
text_of version book rows = letters version ++ (to_le_bytes w32 (length (book_bytes book)) ++ (book_bytes book ++ counted_bytes version book.widths book.g rows))

plain_is : (book : Book) (rows : List Row) → text_of One book rows ≡ plain_bytes book rows
unfolding text_of plain_bytes
plain_is book rows =
    let first = codes "ADCINDX1" in
    let size = to_le_bytes w32 (length (book_bytes book)) in
    let count = to_le_bytes w32 (length rows) in
    let all = flat_map (row_bytes book.widths book.g) rows in
    sym (
    append_assoc (first ++ (size ++ book_bytes book)) count all ∙ append_assoc first (size ++ book_bytes book) (count ++ all)
    ∙ ap (λ (l : List ℕ). first ++ l) (append_assoc size (book_bytes book) (count ++ all))
    )

index_is : (book : Book) (rows : List Row) → text_of Two book rows ≡ index_bytes book rows
unfolding text_of index_bytes
index_is book rows =
    let first = codes "ADCINDX2" in
    let size = to_le_bytes w32 (length (book_bytes book)) in
    let count = to_le_bytes w32 (length rows) in
    let groups = to_le_bytes w32 (length (groups_of rows)) in
    let all = flat_map (group_bytes book.widths book.g) (groups_of rows) in
    sym (
    append_assoc (first ++ (size ++ book_bytes book) ++ count) groups all ∙ append_assoc (first ++ (size ++ book_bytes book)) count (groups ++ all)
    ∙ append_assoc first (size ++ book_bytes book) (count ++ (groups ++ all)) ∙ ap (λ (l : List ℕ). first ++ l) (append_assoc size (book_bytes book) (count ++ (groups ++ all)))
    )

-- ---- how long it is

words_long : (words : List ℕ) → length (spelled w16 words) ≡ 2 * length words
words_long [] = refl
words_long (word ∷ words) = omega (arith, ap length (flat_map-cons (to_le_bytes w16) word words), length-append (to_le_bytes w16 word) (spelled w16 words), words_long words)

code_long : (widths : List ℕ) (g : ℕ) (code : List ℕ) → length (code_bytes widths g code) ≡ 2 * g
code_long widths g code = words_long (words_of widths g code) ∙ ap (λ (n : ℕ). 2 * n) (length-words_of widths g code)

module _ (widths : List ℕ) (g : ℕ) (few : g ≤ 32) where
  rows_long : (rows : List Row) → length (flat_map (row_bytes widths g) rows) ≤ 72 * length rows
  rows_long [] = lit≤ tt
  rows_long (r ∷ rs) =
      let here : length (row_bytes widths g r) ≡ 8 + 2 * g = length-append (to_le_bytes w32 r.id) (to_le_bytes w32 r.cell ++ code_bytes widths g r.code)
      ∙ ap (λ (n : ℕ). 4 + n) (length-append (to_le_bytes w32 r.cell) (code_bytes widths g r.code) ∙ ap (λ (n : ℕ). 4 + n) (code_long widths g r.code)) ∙ omega arith in
      omega (arith, ap length (flat_map-cons (row_bytes widths g) r rs), length-append (row_bytes widths g r) (flat_map (row_bytes widths g) rs), here, rows_long rs, few)

  members_long : (rows : List Row) → length (flat_map (member_bytes widths g) rows) ≤ 72 * length rows
  members_long [] = lit≤ tt
  members_long (r ∷ rs) =
      let here : length (member_bytes widths g r) ≡ 4 + 2 * g = length-append (to_le_bytes w32 r.id) (code_bytes widths g r.code) ∙ ap (λ (n : ℕ). 4 + n) (code_long widths g r.code) in
      omega (arith, ap length (flat_map-cons (member_bytes widths g) r rs), length-append (member_bytes widths g r) (flat_map (member_bytes widths g) rs), here, members_long rs, few)

  groups_long : (groups : List Group) → length (flat_map (group_bytes widths g) groups) ≤ 8 * length groups + 72 * length (rows_of groups)
  groups_long [] = lit≤ tt
  groups_long (x ∷ xs) =
      let here : length (group_bytes widths g x) ≡ 8 + length (flat_map (member_bytes widths g) x.1) = length-append (to_le_bytes w32 x.0) (to_le_bytes w32 (length x.1) ++ flat_map (member_bytes widths g) x.1)
      ∙ ap (λ (n : ℕ). 4 + n) (length-append (to_le_bytes w32 (length x.1)) (flat_map (member_bytes widths g) x.1)) ∙ omega arith in
      let whole = ap length (flat_map-cons (λ (y : Group). y.1) x xs) ∙ length-append x.1 (rows_of xs) in
      omega (arith, ap length (flat_map-cons (group_bytes widths g) x xs), length-append (group_bytes widths g x) (flat_map (group_bytes widths g) xs), here, members_long x.1, whole, groups_long xs)

counted_long : (version : Version) (widths : List ℕ) (g cells : ℕ) (rows : List Row) → g ≤ 32 → MayStand widths g cells rows → length (counted_bytes version widths g rows) ≤ 400000000
counted_long One widths g cells rows le is = omega (arith, length-append (to_le_bytes w32 (length rows)) (flat_map (row_bytes widths g) rows), rows_long widths g le rows, is.few)
counted_long Two widths g cells rows le is =
    let groups = groups_of rows in
    let stand : Stand cells 0 groups = groups_stand cells 0 rows is.are.from is.are.below is.are.by_cell in
    let same : length (rows_of groups) ≡ length rows = ap (λ (l : List Row). length l) (rows_again rows) in
    omega (
      arith,
      length-append (to_le_bytes w32 (length rows)) (to_le_bytes w32 (length groups) ++ flat_map (group_bytes widths g) groups),
      length-append (to_le_bytes w32 (length groups)) (flat_map (group_bytes widths g) groups),
      groups_long widths g le groups,
      groups_few cells 0 groups stand,
      same,
      is.few,
    )

text_long : (version : Version) (book : Book) (rows : List Row) → IsGood book → MayStand book.widths book.g (book.k0 * book.k1) rows → length (text_of version book rows) ≤ 2147483648
unfolding text_of
text_long version book rows good is =
    let counted = counted_bytes version book.widths book.g rows in
    omega (
      arith,
      length-append (letters version) (to_le_bytes w32 (length (book_bytes book)) ++ (book_bytes book ++ counted)),
      length-append (to_le_bytes w32 (length (book_bytes book))) (book_bytes book ++ counted),
      length-append (book_bytes book) counted,
      eight version,
      book_short book good,
      counted_long version book.widths book.g (book.k0 * book.k1) rows good.g.1 is,
    )

-- ---- a book within an index

-- what stands in the first bytes stands in all
inside : (bytes text : List ℕ) (n : ℕ) → 12 ≤ length (take n bytes) → Spells (take n bytes) 12 text n → Spells bytes 12 text n
inside bytes text n le p =
    let front = take n bytes in
    let none : drop n front ≡ [] = drop_all n front (omega (arith, length-take n bytes)) in
    record {
      ends = p.ends;
      part =
          ap (λ (l : List ℕ). drop 12 l) (sym (take-append-drop n bytes)) ∙ drop-append-le 12 front (drop n bytes) le
          ∙ ap (λ (l : List ℕ). l ++ drop n bytes) (p.part ∙ ap (λ (l : List ℕ). text ++ l) none ∙ append-nil text);
    }

-- what stands from 12 on stands in the bytes up to its end
cut_off : (bytes text : List ℕ) → Spells bytes 12 text (12 + length text) → Spells (take (12 + length text) bytes) 12 text (12 + length text)
cut_off bytes text p =
    let n = 12 + length text in
    let none : drop n (take n bytes) ≡ [] = drop_all n (take n bytes) (omega (arith, length-take n bytes)) in
    record {
      ends = refl;
      part =
          drop-take 12 (length text) bytes ∙ ap (λ (l : List ℕ). take (length text) l) p.part ∙ take_at text (drop n bytes) (length text) refl
          ∙ sym (append-nil text) ∙ ap (λ (l : List ℕ). text ++ l) (sym none);
    }

-- ---- an index is read from its spelling

module _ (version : Version) (book : Book) (rows : List Row) (bytes : List ℕ) (good : IsGood book) (is : MayStand book.widths book.g (book.k0 * book.k1) rows) (same : bytes ≡ text_of version book rows) where
  abbrev size : ℕ
  size = length (book_bytes book)

  abbrev tail : List ℕ
  tail = counted_bytes version book.widths book.g rows

  whole_spells : Spells bytes 0 (letters version ++ (to_le_bytes w32 size ++ (book_bytes book ++ tail))) (length bytes)
  unfolding text_of
  whole_spells = all_spells same

  -- where each part begins
  record Parts : Type 0 where
    first : Spells bytes 0 (letters version) 8
    length_is : Spells bytes 8 (to_le_bytes w32 size) 12
    book_is : Spells bytes 12 (book_bytes book) (12 + size)
    rows_are : Spells bytes (12 + size) tail (length bytes)

  parts : Parts
  parts =
      let a = spells_split (letters version) (to_le_bytes w32 size ++ (book_bytes book ++ tail)) whole_spells in
      let eighth : 0 + length (letters version) ≡ 8 = omega (arith, eight version) in
      let behind : Spells bytes 8 (to_le_bytes w32 size ++ (book_bytes book ++ tail)) (length bytes) = subst (λ (k : ℕ). Spells bytes k (to_le_bytes w32 size ++ (book_bytes book ++ tail)) (length bytes)) eighth a.1 in
      let b = spells_split (to_le_bytes w32 size) (book_bytes book ++ tail) behind in
      let c = spells_split (book_bytes book) tail b.1 in
      record { first = subst (λ (k : ℕ). Spells bytes 0 (letters version) k) eighth a.0; length_is = b.0; book_is = c.0; rows_are = c.1 }

  starts : start_of bytes ≡ Ok (version, size)
  unfolding start_of
  starts =
      let eighth = spells_within (omega arith) parts.first in
      let letters_are : version_at bytes 0 ≡ Ok (version, 8) = version_field.read bytes 0 8 version (omega arith) tt parts.first in
      let number : limited_at BookLength w32 0 4194304 bytes 8 ≡ Ok (size, 12) = (limited_field w32 (2 ^ 32) wide32 0 4194304 (omega arith) BookLength).read bytes 8 12 size eighth.1 (omega arith, book_short book good) parts.length_is in
      rw (letters_are, number) refl

  fronts : front_of bytes ≡ Ok ((version, book), 12 + size)
  unfolding front_of
  fronts =
      let eighth = spells_within (omega arith) parts.first in
      let twelfth = spells_within eighth.1 parts.length_is in
      let ends = spells_within twelfth.1 parts.book_is in
      let long : 12 ≤ length (take (12 + size) bytes) = omega (arith, length-take (12 + size) bytes, twelfth.1) in
      let read : book_at (take (12 + size) bytes) 12 ≡ Ok (book, 12 + size) = book_is_field.read (take (12 + size) bytes) 12 (12 + size) book long good (cut_off bytes (book_bytes book) parts.book_is) in
      rw (starts, read, eq-eqb (12 + size) (12 + size) refl) refl

  reads : length bytes ≤ 2147483648 → index_outcome bytes ≡ Ok (record { book = book; rows = rows })
  unfolding index_outcome
  reads short =
      let eighth = spells_within (omega arith) parts.first in
      let twelfth = spells_within eighth.1 parts.length_is in
      let ends = spells_within twelfth.1 parts.book_is in
      let read : counted_at version (layout_of book) bytes (12 + size) ≡ Ok (rows, length bytes) = (rows_field book good version).read bytes (12 + size) (length bytes) rows ends.1 is parts.rows_are in
      rw (le-ltb 2147483648 (length bytes) short, fronts, read, eq-eqb (length bytes) (length bytes) refl) refl

pub are_read : IndexesAreRead
are_read book rows good are =
    let is = may_stand book rows are in (
      reads One book rows (plain_bytes book rows) good is (sym (plain_is book rows)) (subst (λ (l : List ℕ). length l ≤ 2147483648) (plain_is book rows) (text_long One book rows good is)),
      reads Two book rows (index_bytes book rows) good is (sym (index_is book rows)) (subst (λ (l : List ℕ). length l ≤ 2147483648) (index_is book rows) (text_long Two book rows good is)),
    )

-- ---- an index is spelled as it is read

short_enough : {A : Type 0} (b : Bool) (fault : Fault) (r : Result A Fault) (a : A) → cond b (Err fault) r ≡ Ok a → r ≡ Ok a
short_enough true fault r a e = absurd cc
short_enough false fault r a e = e

ends_there : {A : Type 0} (b : Bool) (fault : Fault) (x a : A) → cond b (Ok x) (Err fault) ≡ Ok a → (b ≡ true) × (x ≡ a)
ends_there true fault x a e = (refl, cc)
ends_there false fault x a e = absurd cc

-- what the front of an index tells
record IsFront (bytes : List ℕ) (version : Version) (book : Book) (at : ℕ) : Type 0 where
  good : IsGood book
  spells : Spells bytes 0 (letters version ++ (to_le_bytes w32 (length (book_bytes book)) ++ book_bytes book)) at
  within : at ≤ length bytes

start_told : (bytes : List ℕ) → IsBytes bytes → (version : Version) (size : ℕ) → start_of bytes ≡ Ok (version, size) → Spells bytes 0 (letters version ++ to_le_bytes w32 size) 12
unfolding start_of
start_told bytes are version size e =
    let a = bind_ok (version_at bytes 0) _ (version, size) e in
    let b = bind_ok (limited_at BookLength w32 0 4194304 bytes a.0.1) _ (version, size) a.2 in
    let same : ◌≡◌ {A = Version × ℕ} (a.0.0, b.0.0) (version, size) = cc in
    let first = (tells_same letters (λ v. Unit {0}) bytes 0 (version_at bytes 0) (version_field.tells bytes 0 are (omega arith)) a.0 a.1).1 in
    let ends = spells_within (omega arith) first in
    let number = (tells_same (to_le_bytes w32) (λ n. (0 ≤ n) × (n ≤ 4194304)) bytes a.0.1 (limited_at BookLength w32 0 4194304 bytes a.0.1) ((limited_field w32 (2 ^ 32) wide32 0 4194304 (omega arith) BookLength).tells bytes a.0.1 are ends.1) b.0 b.1).1 in
    let twelfth : b.0.1 ≡ 12 = omega (arith, first.ends, number.ends, eight a.0.0) in
    subst (λ (k : ℕ). Spells bytes 0 (letters version ++ to_le_bytes w32 size) k) twelfth
    (subst (λ (x : Version × ℕ). Spells bytes 0 (letters x.0 ++ to_le_bytes w32 x.1) b.0.1) same (spells_then first number))

front_told : (bytes : List ℕ) → IsBytes bytes → (version : Version) (book : Book) (at : ℕ) → front_of bytes ≡ Ok ((version, book), at) → IsFront bytes version book at
unfolding front_of
front_told bytes are version book at e =
    let a = bind_ok (start_of bytes) _ ((version, book), at) e in
    let size = a.0.1 in
    let front = take (12 + size) bytes in
    let b = bind_ok (book_at front 12) _ ((version, book), at) a.2 in
    let c = ends_there (eqb b.0.1 (12 + size)) (Malformed b.0.1) ((a.0.0, b.0.0), b.0.1) ((version, book), at) b.2 in
    let start : Spells bytes 0 (letters a.0.0 ++ to_le_bytes w32 size) 12 = start_told bytes are a.0.0 size a.1 in
    let twelfth = spells_within (omega arith) start in
    let long : 12 ≤ length front = omega (arith, length-take (12 + size) bytes, twelfth.1) in
    let told = tells_same book_bytes IsGood front 12 (book_at front 12) (book_is_field.tells front 12 (bytes-take (12 + size) bytes are) long) b.0 b.1 in
    let end : b.0.1 ≡ 12 + size = eqb-true b.0.1 (12 + size) c.0 in
    let there : Spells bytes 12 (book_bytes b.0.0) (12 + size) = inside bytes (book_bytes b.0.0) (12 + size) long (subst (λ (k : ℕ). Spells front 12 (book_bytes b.0.0) k) end told.1) in
    let count : size ≡ length (book_bytes b.0.0) = omega (arith, there.ends) in
    let whole : Spells bytes 0 ((letters a.0.0 ++ to_le_bytes w32 (length (book_bytes b.0.0))) ++ book_bytes b.0.0) b.0.1 =
    subst (λ (k : ℕ). Spells bytes 0 ((letters a.0.0 ++ to_le_bytes w32 k) ++ book_bytes b.0.0) b.0.1) count (subst (λ (k : ℕ). Spells bytes 0 ((letters a.0.0 ++ to_le_bytes w32 size) ++ book_bytes b.0.0) k) (sym end) (spells_then start there)) in
    let is : IsFront bytes a.0.0 b.0.0 b.0.1 = record {
      good = told.0;
      spells = subst (λ (l : List ℕ). Spells bytes 0 l b.0.1) (append_assoc (letters a.0.0) (to_le_bytes w32 (length (book_bytes b.0.0))) (book_bytes b.0.0)) whole;
      within = omega (arith, end, spells_within twelfth.1 there);
    } in
    subst (λ (x : (Version × Book) × ℕ). IsFront bytes x.0.0 x.0.1 x.1) c.1 is

-- what a whole index tells
record IsTold (bytes : List ℕ) (version : Version) (book : Book) (rows : List Row) : Type 0 where
  good : IsGood book
  stand : MayStand book.widths book.g (book.k0 * book.k1) rows
  text : bytes ≡ text_of version book rows

rows_told : (bytes : List ℕ) → IsBytes bytes → (version : Version) (book : Book) (at : ℕ) (rows : List Row) → IsFront bytes version book at → all_rows version (layout_of book) bytes at ≡ Ok rows → IsTold bytes version book rows
unfolding text_of
rows_told bytes are version book at rows front e =
    let a = bind_ok (counted_at version (layout_of book) bytes at) (ends_at bytes) rows e in
    let c = ends_there (eqb a.0.1 (length bytes)) (Malformed a.0.1) a.0.0 rows a.2 in
    let tail = counted_bytes version book.widths book.g in
    let told = tells_same tail (MayStand book.widths book.g (book.k0 * book.k1)) bytes at (counted_at version (layout_of book) bytes at) ((rows_field book front.good version).tells bytes at are front.within) a.0 a.1 in
    let end : a.0.1 ≡ length bytes = eqb-true a.0.1 (length bytes) c.0 in
    let whole : Spells bytes 0 ((letters version ++ (to_le_bytes w32 (length (book_bytes book)) ++ book_bytes book)) ++ tail a.0.0) (length bytes) =
    subst (λ (k : ℕ). Spells bytes 0 ((letters version ++ (to_le_bytes w32 (length (book_bytes book)) ++ book_bytes book)) ++ tail a.0.0) k) end (spells_then front.spells told.1) in
    let regroup : (letters version ++ (to_le_bytes w32 (length (book_bytes book)) ++ book_bytes book)) ++ tail a.0.0 ≡ letters version ++ (to_le_bytes w32 (length (book_bytes book)) ++ (book_bytes book ++ tail a.0.0)) =
    append_assoc (letters version) (to_le_bytes w32 (length (book_bytes book)) ++ book_bytes book) (tail a.0.0)
    ∙ ap (λ (l : List ℕ). letters version ++ l) (append_assoc (to_le_bytes w32 (length (book_bytes book))) (book_bytes book) (tail a.0.0)) in
    subst (λ (l : List Row). IsTold bytes version book l) c.1 (record { good = front.good; stand = told.0; text = spells_all whole ∙ regroup })

whole_told : (bytes : List ℕ) → IsBytes bytes → (found : Indexed) → index_outcome bytes ≡ Ok found → (version : Version) × IsTold bytes version found.book found.rows
unfolding index_outcome
whole_told bytes are found e =
    let short = short_enough (nat_lt 2147483648 (length bytes)) (Limit Bytes (length bytes)) (front_of bytes >>= λ front. all_rows front.0.0 (layout_of front.0.1) bytes front.1 >>= λ rows. Ok (record { book = front.0.1; rows = rows })) found e in
    let a = bind_ok (front_of bytes) _ found short in
    let b = bind_ok (all_rows a.0.0.0 (layout_of a.0.0.1) bytes a.0.1) _ found a.2 in
    let same : ◌≡◌ {A = Indexed} (record { book = a.0.0.1; rows = b.0 }) found = cc in
    let front = front_told bytes are a.0.0.0 a.0.0.1 a.0.1 a.1 in
    (a.0.0.0, subst (λ (x : Indexed). IsTold bytes a.0.0.0 x.book x.rows) same (rows_told bytes are a.0.0.0 a.0.0.1 a.0.1 b.0 front b.1))

pub are_spelled : IndexesAreSpelled
are_spelled bytes book rows are e =
    let told = whole_told bytes are (record { book = book; rows = rows }) e in
    record { good = told.1.good; rows_are = are_indexed book rows told.1.stand; spelled = by_version told.0 told.1.text }
  where
    by_version : (version : Version) → bytes ≡ text_of version book rows → (bytes ≡ plain_bytes book rows) ⊎ (bytes ≡ index_bytes book rows)
    by_version One is = inl (is ∙ plain_is book rows)
    by_version Two is = inr (is ∙ index_is book rows)
