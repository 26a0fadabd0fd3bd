-- A book is a field: what is read is good and spelled so, and what is good and spelled so is read.
use Rattle.std.proofs.Common.{◌≡◌, ℕ, ◌-◌, ◌*◌, ◌^◌, ◌%◌, ◌≤◌, Bool, true, false, cond, ltb, List, [], ◌++◌, length, get_or, Ok, Err, refl, sym, ap, subst, ◌∙◌, append_assoc, arith, zero-add, inl, inr, Result, IfOk, slice_index_or, ltb-false, le-ltb, append-nil}
use Rattle.std.specs.List.{flat_map}
use Rattle.std.specs.Int.{w8, w16, to_le_bytes}
use Rattle.std.proofs.lemmas.Nat.{mul-le}
use Rattle.adc_ports.specs.declared.What.TheVariants.{Bytes, D, K0, K1}
use Rattle.adc_ports.specs.Reading.{Fault, Limit, ◌>>=◌, ends_at}
use Rattle.file_fields.specs.Fields.{IsBytes, IsField}
use Rattle.file_fields.proofs.Steps.{tells_same}
use Rattle.file_fields.proofs.Closure.{end_field, alike_field, allowed_field, then_field, whole_spelled, whole_read}
use Rattle.file_fields.proofs.Numbers.{wide8, wide16, within_field, limited_field}
use Rattle.book_model.specs.Book.{Book, IsGood, AreWords, component_limit, shapes}
use Rattle.codebook_core.specs.declared.error.BookError.{BookError}
use Rattle.codebook_core.specs.declared.fields.Front.{Front}
use Rattle.codebook_core.specs.declared.parts.Parts.{Parts}
use Rattle.codebook_core.specs.Gives.{Gives}
use Rattle.codebook_core.specs.View.{view_of, IsLaidOut, IsKept}
use Rattle.codebook_core.specs.Front.{IsFront, AreWidths}
use Rattle.codebook_core.specs.Spelling.{scale_text, spelled, words_spelled, component_width, magic_of, shape_number, book_bytes}
use Rattle.codebook_core.specs.Reading.{front_at, body_at, book_at, book_outcome}
use Rattle.codebook_core.proofs.Shapes.{by_number, numbered}
use Rattle.codebook_core.proofs.BookFields.{IsVersion, IsScale, AreLengths, AreSubs, version_of, wide_of, version_field, scale_field, groups_field, lengths_field, words_field, subs_field, sum_long, sub_at}

-- ---- the front

abbrev pub front_text : Front → List ℕ
front_text front = magic_of front.version ++ (to_le_bytes w16 front.d ++ (to_le_bytes w16 front.h ++ (to_le_bytes w16 front.k0 ++ (to_le_bytes w16 front.k1 ++ to_le_bytes w8 front.shape))))

version_bounds : (version : ℕ) → IsVersion version → (1 ≤ version) × (version ≤ 2)
version_bounds version (inl is) = (omega arith, omega arith)
version_bounds version (inr is) = (omega arith, omega arith)

front_is_field : IsField front_at front_text IsFront
unfolding front_at
front_is_field = allowed_field
    (λ front is. record { versions = version_bounds front.version is.0; dims = is.1.0; halves = (is.1.1.0.0, omega (arith, is.1.1.0, is.1.0)); words0 = is.1.1.1.0; words1 = is.1.1.1.1.0; number = is.1.1.1.1.1.0.1 })
    (λ front is. (version_of front.version is.versions, (is.dims, ((is.halves.0, omega (arith, is.halves)), (is.words0, (is.words1, ((omega arith, is.number), refl)))))))
    (then_field (λ (f : Front). f.version) version_field (λ version of_version.
    then_field (λ (f : Front). f.d) (limited_field w16 65536 wide16 2 1024 (omega arith) D) (λ d of_d.
    then_field (λ (f : Front). f.h) (within_field w16 65536 wide16 1 (d - 1) (omega (arith, of_d))) (λ h of_h.
    then_field (λ (f : Front). f.k0) (limited_field w16 65536 wide16 1 1024 (omega arith) K0) (λ k0 of_k0.
    then_field (λ (f : Front). f.k1) (limited_field w16 65536 wide16 1 1024 (omega arith) K1) (λ k1 of_k1.
    then_field (λ (f : Front). f.shape) (within_field w8 256 wide8 0 3 (omega arith)) (λ shape of_shape.
    end_field {A = Front} (record { version = version; d = d; h = h; k0 = k0; k1 = k1; shape = shape }))
    (λ shape f is rest. ap (λ (f : Front). f.shape) rest))
    (λ k1 f is rest. ap (λ (f : Front). f.k1) rest.1))
    (λ k0 f is rest. ap (λ (f : Front). f.k0) rest.1.1))
    (λ h f is rest. ap (λ (f : Front). f.h) rest.1.1.1))
    (λ d f is rest. ap (λ (f : Front). f.d) rest.1.1.1.1))
    (λ version f is rest. ap (λ (f : Front). f.version) rest.1.1.1.1.1))

-- ---- what stands behind it

abbrev pub front_of : ℕ → Book → Front
front_of shape book = record { version = book.version; d = book.d; h = book.h; k0 = book.k0; k1 = book.k1; shape = shape }

abbrev pub body_text : Book → List ℕ
body_text book =
    let w = component_width book.version in
    to_le_bytes w8 book.g ++ (scale_text book.version book.scale ++ (spelled w16 book.lengths ++ (words_spelled w book.coarse0 ++ (words_spelled w book.coarse1 ++ flat_map (words_spelled w) book.subs))))

-- what reading tells field by field
abbrev pub IsBody : Front → List ℕ → Book → Type 0
IsBody front widths book =
    (((1 ≤ book.g) × (book.g ≤ 32)) × (ltb front.d (book.g * length widths) ≡ false)) × (IsScale front.version book.scale × (AreLengths (book.g * length widths) front.d book.lengths
    × (AreWords (component_limit front.version) front.k0 front.h book.coarse0 × (AreWords (component_limit front.version) front.k1 (front.d - front.h) book.coarse1
    × (AreSubs (component_limit front.version) widths 0 book.lengths book.subs × (book ≡ record book { version = front.version; d = front.d; h = front.h; k0 = front.k0; k1 = front.k1; widths = widths }))))))

-- a good book of this front and these widths
pub record IsBehind (front : Front) (widths : List ℕ) (book : Book) : Type 0 where
  pub good : IsGood book
  pub of_front : front_of front.shape book ≡ front
  pub of_widths : book.widths ≡ widths

good_of : (front : Front) (widths : List ℕ) (book : Book) → IsFront front → AreWidths widths → IsBody front widths book → IsBehind front widths book
good_of front widths book is are body =
    let lengths = body.1.1.0 in
    let subs = body.1.1.1.1.1.0 in
    let made : Book = record book { version = front.version; d = front.d; h = front.h; k0 = front.k0; k1 = front.k1; widths = widths } in
    let good : IsGood made = record {
      version = body.1.0;
      d = is.dims;
      h = is.halves;
      k0 = is.words0;
      k1 = is.words1;
      shape = are.listed;
      g = body.0.0;
      length_count = lengths.0;
      length_each = lengths.1;
      length_sum = lengths.2;
      coarse0 = body.1.1.1.0;
      coarse1 = body.1.1.1.1.0;
      sub_lists = subs.count ∙ lengths.0;
      sub_each = λ j lt. sub_at (component_limit front.version) widths book.lengths book.subs subs j (omega (arith, lengths.0));
    } in
    subst (λ (b : Book). IsBehind front widths b) (sym body.1.1.1.1.1.1) (record { good = good; of_front = refl; of_widths = refl })

pub body_of : (shape : ℕ) (book : Book) → IsGood book → IsBody (front_of shape book) book.widths book
body_of shape book good =
    let few = le-ltb book.d (book.g * length book.widths) (omega (arith, sum_long book.lengths good.length_each, good.length_count, good.length_sum)) in
    let P : ℕ → ℕ → Type 0 = λ j m. AreWords (component_limit book.version) (2 ^ get_or book.widths (m % length book.widths) 0) (get_or book.lengths j 0) (get_or book.subs j []) in
    let subs : AreSubs (component_limit book.version) book.widths 0 book.lengths book.subs =
    record { count = good.sub_lists ∙ sym good.length_count; each = λ j lt. subst (P j) (sym (zero-add j)) (good.sub_each j (omega (arith, good.length_count))) } in
    ((good.g, few), (good.version, ((good.length_count, good.length_each, good.length_sum), (good.coarse0, (good.coarse1, (subs, refl))))))

body_is_field : (front : Front) (widths : List ℕ) → IsFront front → AreWidths widths → IsField (body_at front widths) body_text (IsBehind front widths)
unfolding body_at
body_is_field front widths is are = alike_field (λ bytes at. refl) spells (λ book body. good_of front widths book is are body) back
    (then_field (λ (b : Book). b.g) (groups_field front.d (length widths)) (λ g of_g.
    then_field (λ (b : Book). b.scale) (scale_field front.version version) (λ scale of_scale.
    then_field (λ (b : Book). b.lengths) (lengths_field (g * length widths) front.d (omega (arith, is.dims)) (ltb-false _ _ of_g.1) (some g of_g.0.0)) (λ lengths of_lengths.
    then_field (λ (b : Book). b.coarse0) (words_field (component_width front.version) (component_limit front.version) (wide_of front.version version) front.k0 front.h) (λ coarse0 of_coarse0.
    then_field (λ (b : Book). b.coarse1) (words_field (component_width front.version) (component_limit front.version) (wide_of front.version version) front.k1 (front.d - front.h)) (λ coarse1 of_coarse1.
    then_field (λ (b : Book). b.subs) (subs_field (component_width front.version) (component_limit front.version) (wide_of front.version version) widths lengths 0) (λ subs of_subs.
    end_field {A = Book} (record { version = front.version; scale = scale; d = front.d; h = front.h; k0 = front.k0; k1 = front.k1; widths = widths; g = g; lengths = lengths; coarse0 = coarse0; coarse1 = coarse1; subs = subs }))
    (λ subs b is rest. ap (λ (b : Book). b.subs) rest))
    (λ coarse1 b is rest. ap (λ (b : Book). b.coarse1) rest.1))
    (λ coarse0 b is rest. ap (λ (b : Book). b.coarse0) rest.1.1))
    (λ lengths b is rest. ap (λ (b : Book). b.lengths) rest.1.1.1))
    (λ scale b is rest. ap (λ (b : Book). b.scale) rest.1.1.1.1))
    (λ g b is rest. ap (λ (b : Book). b.g) rest.1.1.1.1.1))
  where
    version : IsVersion front.version
    version = version_of front.version is.versions

    some : (g : ℕ) → 1 ≤ g → g * length widths ≡ 0 → front.d ≡ 0
    some g le e = absurd (omega (arith, e, mul-le 1 1 g (length widths) le are.some.0))

    spells : (book : Book) → IsBody front widths book → body_text book
        ≡ to_le_bytes w8 book.g ++ (scale_text front.version book.scale ++ (spelled w16 book.lengths ++ (words_spelled (component_width front.version) book.coarse0 ++ (words_spelled (component_width front.version) book.coarse1 ++ (flat_map (words_spelled (component_width front.version)) book.subs ++ [])))))
    spells book body =
        let same : book.version ≡ front.version = ap (λ (b : Book). b.version) body.1.1.1.1.1.1 in
        rw (same, append-nil (flat_map (words_spelled (component_width front.version)) book.subs)) refl

    back : (book : Book) → IsBehind front widths book → IsBody front widths book
    back book behind =
        let F : Front → Type 0 = λ f. IsBody f book.widths book in
        let W : List ℕ → Type 0 = λ ws. IsBody front ws book in
        subst W behind.of_widths (subst F behind.of_front (body_of front.shape book behind.good))

-- ---- a book

pub regroup : (book : Book) → front_text (front_of (shape_number book.widths) book) ++ body_text book ≡ book_bytes book
unfolding book_bytes
regroup book = simp append_assoc

pub book_is_field : IsField book_at book_bytes IsGood
unfolding book_at
book_is_field = alike_field (λ bytes at. refl) (λ book is. sym (regroup book)) (λ book is. is.1.good) back
    (then_field (λ book. front_of (shape_number book.widths) book) front_is_field
    (λ front is. body_is_field front (slice_index_or shapes front.shape []) is (by_number front.shape is.number).are)
    (λ front book is behind. ap (λ (n : ℕ). front_of n book) (ap shape_number behind.of_widths ∙ (by_number front.shape is.number).number) ∙ behind.of_front))
  where
    back : (book : Book) → IsGood book → IsFront (front_of (shape_number book.widths) book) × IsBehind (front_of (shape_number book.widths) book) (slice_index_or shapes (shape_number book.widths) []) book
    back book good =
        let shape = numbered book.widths good.shape in (
          record {
            versions = elim good.version [ inl one ↦ (omega (arith, one.0), omega (arith, one.0)) | inr two ↦ (omega (arith, two.0), omega (arith, two.0)) ];
            dims = good.d;
            halves = good.h;
            words0 = good.k0;
            words1 = good.k1;
            number = shape.few;
          },
          record { good = good; of_front = refl; of_widths = sym shape.there },
        )

short_enough : {A : Type 0} (b : Bool) (fault : Fault) (r : Result A Fault) (a : A) → cond b (Err fault) r ≡ Ok a → r ≡ Ok a
short_enough true fault r a e = absurd cc
short_enough false fault r a e = e

module _ (bytes : List ℕ) (book : Book) where
  pub outcome_spelled : IsBytes bytes → book_outcome bytes ≡ Ok book → IsGood book × (bytes ≡ book_bytes book)
  unfolding book_outcome
  outcome_spelled are e = whole_spelled book_is_field bytes book are (short_enough (ltb 4194304 (length bytes)) (Limit Bytes (length bytes)) (book_at bytes 0 >>= ends_at bytes) book e)

  pub outcome_read : IsGood book → length bytes ≤ 4194304 → bytes ≡ book_bytes book → book_outcome bytes ≡ Ok book
  unfolding book_outcome
  outcome_read good short e = rw (le-ltb 4194304 (length bytes) short) (whole_read book_is_field bytes book good e)

-- what is read as the parts of a book is kept, where it is laid out
pub is_kept : (bytes : List ℕ) → IsBytes bytes → (front : Front) (widths : List ℕ) → IsFront front → AreWidths widths → (at : ℕ) → at ≤ length bytes → (r : Result (Parts × ℕ) BookError)
    → Gives (λ x. (view_of widths x.0, x.1)) r (body_at front widths bytes at) → IfOk r (λ x. IsLaidOut widths x.0) → IfOk r (λ x. IsKept widths x.0)
is_kept bytes are_bytes front widths is are at le (Ok x) given laid =
    let found = tells_same body_text (IsBehind front widths) bytes at (body_at front widths bytes at) ((body_is_field front widths is are).tells bytes at are_bytes le) (view_of widths x.0, x.1) given in
    record { good = found.0.good; laid = laid }
is_kept bytes are_bytes front widths is are at le (Err e) given laid = tt
