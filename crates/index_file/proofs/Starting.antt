-- The front of an index, and the whole.
use Rattle.std.proofs.Common.{◌≡◌, ℕ, ◌+◌, ◌≤◌, ◌<◌, Bool, cond, List, length, take, Option, Some, None, Result, Ok, Err, refl, sym, ap, subst, ◌∙◌, arith, eq-eqb, ◌==◌, []}
use Rattle.std.specs.Prelude.{bytes_eq, codes, option_map, unwrap_or, IfOk, min}
use Rattle.std.specs.Int.{w32}
use Rattle.std.proofs.lemmas.Bool.{ne_eqb, lt-ltb, le-ltb}
use Rattle.std.proofs.Math.Seq.{take-take}
use Rattle.adc_ports.specs.declared.What.TheVariants.{Bytes, Book as BookLength, Rows as RowCount}
use Rattle.adc_ports.specs.Reading.{Fault, Malformed, Limit, Read, ◌>>=◌, limited_at, allowed_at, ends_at}
use Rattle.book_model.specs.Book.{Book}
use Rattle.book_model.specs.Rows.{Row}
use Rattle.codebook_core.specs.declared.error.BookError.{BookError}
use Rattle.codebook_core.specs.declared.error.BookError.TheVariants as book
use Rattle.codebook_core.specs.Gives.{Fails}
use Rattle.codebook_core.specs.Reading.{book_at}
use Rattle.index_file.specs.declared.fields.PartFault.{PartFault}
use Rattle.index_file.specs.declared.fields.PartFault.TheVariants as part
use Rattle.index_file.specs.declared.index.IndexError.{IndexError}
use Rattle.index_file.specs.declared.index.IndexError.TheVariants as error
use Rattle.index_file.specs.declared.version.Version.{Version}
use Rattle.index_file.specs.declared.version.Version.TheVariants.{One, Two}
use Rattle.index_file.specs.Parts.{fault_of, located_fault}
use Rattle.index_file.specs.Stops.{of_book}
use Rattle.index_file.specs.Reading.{Indexed, Layout, layout_of, version_at, start_of, front_of, counted_at, rows_at, groups_at, all_rows, index_outcome}
use Rattle.index_file.specs.Ahead.{ahead_at, rest, layout, IsFilled}
use Rattle.index_file.specs.View.{Refuses, Finds, Answers, IsFresh, book_of, store_of}
use Rattle.index_file.specs.declared.index.AnyIndex.{AnyIndex}
use Rattle.index_file.specs.declared.sizes.Sizes.{Sizes}
use Rattle.index_file.specs.declared.sizes.Ahead.{Ahead}
use Rattle.index_file.specs.declared.sizes.Ahead.TheVariants.{Rows, Groups}
use Rattle.cell_store.specs.State.{Store, live_rows}
use Rattle.index_file.proofs.Filled.{filled_count}
use Rattle.index_file.proofs.Moved.{moved, moved_fault, limited_moved}
use Rattle.index_file.proofs.Steps.{refuses_located}

-- a refusal of what is read first is one of the whole
pub refuses_bind : {A B : Type 0} (e : IndexError) (r : Result A Fault) (f : A → Result B Fault) → Refuses e (Some r) → Refuses e (Some (r >>= f))
refuses_bind error.Missing r f h = absurd cc
refuses_bind {A = A} {B = B} (error.Malformed at) r f h =
    let is : r ≡ Err (Malformed at) = cc in
    ap (λ (x : Result A Fault). some (x >>= f)) is
  where
    some : Result B Fault → Option (Result B Fault)
    some x = Some x
refuses_bind {A = A} {B = B} (error.Limit what value) r f h =
    let is : r ≡ Err (Limit what value) = cc in
    ap (λ (x : Result A Fault). some (x >>= f)) is
  where
    some : Result B Fault → Option (Result B Fault)
    some x = Some x
refuses_bind error.ReadFault r f h = tt
refuses_bind error.Memory r f h = tt

pub refuses_along : {A : Type 0} (e : IndexError) (a b : Result A Fault) → a ≡ b → Refuses e (Some a) → Refuses e (Some b)
refuses_along {A = A} e a b same refuses = subst (λ (x : Result A Fault). Refuses e (Some x)) same refuses

same_place : (fault : PartFault) → fault_of fault ≡ moved_fault 0 (fault_of fault)
same_place (part.Malformed p) = ap (λ (k : ℕ). Malformed k) (omega arith)
same_place (part.Limit what value) = refl

abbrev version_by : List ℕ → Read Version
version_by letters = cond (bytes_eq letters (codes "ADCINDX1")) (Ok (One, 8)) (cond (bytes_eq letters (codes "ADCINDX2")) (Ok (Two, 8)) (Err (Malformed 0)))

module _ (bytes front : List ℕ) (is : front ≡ take 12 bytes) where
  version_in : version_at bytes 0 ≡ version_at front 0
  unfolding version_at
  version_in = ap version_by (sym (ap (take 8) is ∙ take-take 8 12 bytes (omega arith)))

  length_in : limited_at BookLength w32 0 4194304 bytes 8 ≡ moved 0 (limited_at BookLength w32 0 4194304 front 8)
  length_in = limited_moved bytes 0 12 BookLength w32 0 4194304 8 (omega arith) (omega arith) ∙ ap (λ (xs : List ℕ). moved 0 (limited_at BookLength w32 0 4194304 xs 8)) (sym is)

  abbrev length_next : Version × ℕ → Result (Version × ℕ) Fault
  length_next version = limited_at BookLength w32 0 4194304 bytes version.1 >>= (λ size. Ok (version.0, size.0))

  pub start_ok : (version : Version) (size : ℕ) → version_at front 0 ≡ Ok (version, 8) → limited_at BookLength w32 0 4194304 front 8 ≡ Ok (size, 12) → start_of bytes ≡ Ok (version, size)
  unfolding start_of
  start_ok version size letters length =
      ap (λ (r : Read Version). r >>= length_next) (version_in ∙ letters)
      ∙ ap (λ (r : Read ℕ). r >>= (λ size. Ok (version, size.0))) (length_in ∙ ap (λ (r : Read ℕ). moved 0 r) length)

  pub start_other : (fault : PartFault) → version_at front 0 ≡ Err (fault_of fault) → Refuses (located_fault fault 0) (Some (start_of bytes))
  unfolding start_of
  start_other fault letters = refuses_located fault 0 (start_of bytes) (ap (λ (r : Read Version). r >>= length_next) (version_in ∙ letters) ∙ ap (λ (f : Fault). Err f) (same_place fault))

  pub start_long : (version : Version) (fault : PartFault) → version_at front 0 ≡ Ok (version, 8) → limited_at BookLength w32 0 4194304 front 8 ≡ Err (fault_of fault) → Refuses (located_fault fault 0) (Some (start_of bytes))
  unfolding start_of
  start_long version fault letters length =
      refuses_located fault 0 (start_of bytes) (
      ap (λ (r : Read Version). r >>= length_next) (version_in ∙ letters)
      ∙ ap (λ (r : Read ℕ). r >>= (λ size. Ok (version, size.0))) (length_in ∙ ap (λ (r : Read ℕ). moved 0 r) length)
      )

abbrev book_next : List ℕ → Version × ℕ → Read (Version × Book)
book_next bytes start = book_at (take (12 + start.1) bytes) 12 >>= (λ book. cond (book.1 == 12 + start.1) (Ok ((start.0, book.0), book.1)) (Err (Malformed book.1)))

module _ (bytes : List ℕ) (version : Version) (size : ℕ) (start : start_of bytes ≡ Ok (version, size)) where
  pub front_ok : (read : Book) (at : ℕ) → book_at (take (12 + size) bytes) 12 ≡ Ok (read, at) → at ≡ 12 + size → front_of bytes ≡ Ok ((version, read), at)
  unfolding front_of
  front_ok read at is ends =
      ap (λ (r : Result (Version × ℕ) Fault). r >>= book_next bytes) start
      ∙ ap (λ (r : Read Book). r >>= (λ book. cond (book.1 == 12 + size) (Ok ((version, book.0), book.1)) (Err (Malformed book.1)))) is
      ∙ ap (λ (b : Bool). cond b (Ok ((version, read), at)) (Err (Malformed at))) (eq-eqb at (12 + size) ends)

  pub front_long : (read : Book) (at : ℕ) → book_at (take (12 + size) bytes) 12 ≡ Ok (read, at) → (at ≡ 12 + size → ⊥) → front_of bytes ≡ Err (Malformed at)
  unfolding front_of
  front_long read at is other =
      ap (λ (r : Result (Version × ℕ) Fault). r >>= book_next bytes) start
      ∙ ap (λ (r : Read Book). r >>= (λ book. cond (book.1 == 12 + size) (Ok ((version, book.0), book.1)) (Err (Malformed book.1)))) is
      ∙ ap (λ (b : Bool). cond b (Ok ((version, read), at)) (Err (Malformed at))) (ne_eqb at (12 + size) other)

  front_bad : (fault : Fault) → book_at (take (12 + size) bytes) 12 ≡ Err fault → front_of bytes ≡ Err fault
  unfolding front_of
  front_bad fault is =
      ap (λ (r : Result (Version × ℕ) Fault). r >>= book_next bytes) start
      ∙ ap (λ (r : Read Book). r >>= (λ book. cond (book.1 == 12 + size) (Ok ((version, book.0), book.1)) (Err (Malformed book.1)))) is

  pub front_refused : (e : BookError) → Fails e (book_at (take (12 + size) bytes) 12) → Refuses (of_book e) (Some (front_of bytes))
  front_refused (book.Malformed at) is = ap (λ (r : Read (Version × Book)). Some r) (front_bad (Malformed at) is)
  front_refused (book.Limit what value) is = ap (λ (r : Read (Version × Book)). Some r) (front_bad (Limit what value) is)
  front_refused book.Memory is = tt

pub front_unstarted : (bytes : List ℕ) (e : IndexError) → Refuses e (Some (start_of bytes)) → Refuses e (Some (front_of bytes))
unfolding front_of
front_unstarted bytes e refuses = refuses_bind e (start_of bytes) (book_next bytes) refuses

-- ---- the whole

abbrev rows_next : List ℕ → (Version × Book) × ℕ → Result Indexed Fault
rows_next bytes front = all_rows front.0.0 (layout_of front.0.1) bytes front.1 >>= (λ rows. Ok (record { book = front.0.1; rows = rows }))

module _ (bytes : List ℕ) (short : length bytes ≤ 2147483648) where
  whole : index_outcome bytes ≡ (front_of bytes >>= rows_next bytes)
  unfolding index_outcome
  whole = ap (λ (b : Bool). cond b (Err (Limit Bytes (length bytes))) (front_of bytes >>= rows_next bytes)) (le-ltb 2147483648 (length bytes) short)

  pub whole_unread : (e : IndexError) → Refuses e (Some (front_of bytes)) → Refuses e (Some (index_outcome bytes))
  whole_unread e refuses = refuses_along e _ _ (sym whole) (refuses_bind e (front_of bytes) (rows_next bytes) refuses)

  module _ (version : Version) (read : Book) (at : ℕ) (front : front_of bytes ≡ Ok ((version, read), at)) where
    then : index_outcome bytes ≡ (all_rows version (layout_of read) bytes at >>= (λ rows. Ok (record { book = read; rows = rows })))
    then = whole ∙ ap (λ (r : Read (Version × Book)). r >>= rows_next bytes) front

    pub whole_rows : (rows : List Row) → all_rows version (layout_of read) bytes at ≡ Ok rows → index_outcome bytes ≡ Ok (record { book = read; rows = rows })
    whole_rows rows is = then ∙ ap (λ (r : Result (List Row) Fault). r >>= (λ rows. Ok (record { book = read; rows = rows }))) is

    pub whole_refused : (e : IndexError) → Refuses e (Some (all_rows version (layout_of read) bytes at)) → Refuses e (Some (index_outcome bytes))
    whole_refused e refuses = refuses_along e _ _ (sym then) (refuses_bind e (all_rows version (layout_of read) bytes at) (λ rows. Ok (record { book = read; rows = rows })) refuses)

pub too_long : (bytes : List ℕ) → 2147483648 < length bytes → index_outcome bytes ≡ Err (Limit Bytes (length bytes))
unfolding index_outcome
too_long bytes long = ap (λ (b : Bool). cond b (Err (Limit Bytes (length bytes))) (front_of bytes >>= rows_next bytes)) (lt-ltb 2147483648 (length bytes) long)

-- ---- the rows behind a book

both_then : {A B C D : Type 0} (r : Result A Fault) (f : A → Result B Fault) (e : B → Result D Fault) (g : A → Result C Fault) (h : C → Result D Fault) → ((x : A) → (f x >>= e) ≡ (g x >>= h)) → ((r >>= f) >>= e) ≡ ((r >>= g) >>= h)
both_then (Ok x) f e g h same = same x
both_then (Err fault) f e g h same = refl

module _ (layout : Layout) (bytes : List ℕ) (at : ℕ) where
  abbrev rest_next : Ahead × ℕ → Result (List Row) Fault
  rest_next a = rest layout a.0 [] bytes a.1

  counted : (version : Version) → all_rows version layout bytes at ≡ (ahead_at version layout.cells bytes at >>= rest_next)
  unfolding counted_at ahead_at
  counted One =
      both_then (limited_at RowCount w32 0 4194304 bytes at) (λ count. rows_at count.0 layout [] 0 bytes count.1) (ends_at bytes) (λ count. Ok (Rows (record { left = count.0; low = 0 }), count.1)) rest_next (λ x. refl)
  counted Two =
      both_then (limited_at RowCount w32 0 4194304 bytes at)
      (λ count. allowed_at w32 (min 1 count.0) (min count.0 layout.cells) bytes count.1 >>= (λ groups. groups_at groups.0 layout count.0 [] 0 bytes groups.1)) (ends_at bytes)
      (λ count. allowed_at w32 (min 1 count.0) (min count.0 layout.cells) bytes count.1 >>= (λ groups. Ok (Groups (record { cell = 0; members = 0; groups = groups.0; left = count.0; low = 0 }), groups.1))) rest_next
      (λ x.
      both_then (allowed_at w32 (min 1 x.0) (min x.0 layout.cells) bytes x.1) (λ groups. groups_at groups.0 layout x.0 [] 0 bytes groups.1) (ends_at bytes)
      (λ groups. Ok (Groups (record { cell = 0; members = 0; groups = groups.0; left = x.0; low = 0 }), groups.1)) rest_next (λ y. refl))

  pub rows_unread : (version : Version) (e : IndexError) → Refuses e (Some (ahead_at version layout.cells bytes at)) → Refuses e (Some (all_rows version layout bytes at))
  rows_unread version e refuses = refuses_along e _ _ (sym (counted version)) (refuses_bind e (ahead_at version layout.cells bytes at) rest_next refuses)

  module _ (version : Version) (ahead : Ahead) (next : ℕ) (is : ahead_at version layout.cells bytes at ≡ Ok (ahead, next)) where
    rest_is : all_rows version layout bytes at ≡ rest layout ahead [] bytes next
    rest_is = counted version ∙ ap (λ (r : Read Ahead). r >>= rest_next) is

    pub rows_refused : (e : IndexError) (rows : List Row) → rows ≡ [] → Refuses e (Some (rest layout ahead rows bytes next)) → Refuses e (Some (all_rows version layout bytes at))
    rows_refused e rows none refuses = refuses_along e _ _ (ap (λ (l : List Row). rest layout ahead l bytes next) none ∙ sym rest_is) refuses

    pub rows_read : (rows found : List Row) → rows ≡ [] → rest layout ahead rows bytes next ≡ Ok found → all_rows version layout bytes at ≡ Ok found
    rows_read rows found none read = rest_is ∙ ap (λ (l : List Row). rest layout ahead l bytes next) (sym none) ∙ read

pub is_fresh : (widths : List ℕ) (sizes : Sizes) (book : Book) (store : Store) → layout_of book ≡ layout widths sizes → IsFilled sizes store → length store.kept ≤ 4194304 → IsFresh book store
is_fresh widths sizes book store same is few = record {
  g = is.g ∙ sym (ap (λ (l : Layout). l.g) same);
  cells = is.cells ∙ sym (ap (λ (l : Layout). l.cells) same);
  most = is.most;
  stamp = filled_count sizes store is few;
  pins = is.pins;
}

-- ---- what a file is answered

pub answers_long : (file : Option (List ℕ)) (size : ℕ) → Some size ≡ option_map length file → 2147483648 < size → option_map index_outcome file ≡ Some (Err (Limit Bytes size))
answers_long None size is long = absurd cc
answers_long (Some bytes) size is long =
    let same : size ≡ length bytes = cc in
    ap (λ (r : Result Indexed Fault). Some r) (too_long bytes (omega arith) ∙ ap (λ (n : ℕ). Err (Limit Bytes n)) (sym same))

pub its_size : (file : Option (List ℕ)) (size : ℕ) → Some size ≡ option_map length file → size ≡ length (unwrap_or file [])
its_size None size is = absurd cc
its_size (Some bytes) size is = cc

pub answers_unread : (file : Option (List ℕ)) (size : ℕ) (e : IndexError) → Some size ≡ option_map length file → size ≤ 2147483648 → Refuses e (Some (front_of (unwrap_or file []))) → Refuses e (option_map index_outcome file)
answers_unread None size e is short refuses = absurd cc
answers_unread (Some bytes) size e is short refuses =
    let same : size ≡ length bytes = cc in
    whole_unread bytes (omega arith) e refuses

pub answers_rows : (file : Option (List ℕ)) (size : ℕ) (version : Version) (read : Book) (at : ℕ) (r : Result AnyIndex IndexError) → Some size ≡ option_map length file → size ≤ 2147483648
    → front_of (unwrap_or file []) ≡ Ok ((version, read), at) → IfOk r (λ index. book_of index ≡ read) → Finds (λ index. live_rows (store_of index)) r (all_rows version (layout_of read) (unwrap_or file []) at)
    → Answers r (option_map index_outcome file)
answers_rows None size version read at r is short front book rows = absurd cc
answers_rows (Some bytes) size version read at (Ok index) is short front book rows =
    let same : size ≡ length bytes = cc in
    ap (λ (r : Result Indexed Fault). Some r) (
    whole_rows bytes (omega arith) version read at front (live_rows (store_of index)) rows
    ∙ ap (λ (b : Book). done (record { book = b; rows = live_rows (store_of index) })) (sym book)
    )
  where
    done : Indexed → Result Indexed Fault
    done x = Ok x
answers_rows (Some bytes) size version read at (Err e) is short front book rows =
    let same : size ≡ length bytes = cc in
    whole_refused bytes (omega arith) version read at front e rows
