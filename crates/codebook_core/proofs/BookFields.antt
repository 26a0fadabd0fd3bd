-- The fields of a book.
use Rattle.std.proofs.Common.{◌≡◌, ℕ, zero, suc, ◌+◌, ◌-◌, ◌*◌, ◌^◌, ◌%◌, ◌<◌, ◌≤◌, false, ltb, List, [], ◌∷◌, length, get_or, take, drop, Ok, Err, refl, sym, ap, subst, arith, inl, inr, add-zero, zero-add, sum, codes, bytes_eq, ◌⊎◌, ◌==◌, if◌then◌else◌}
use Rattle.std.specs.List.{flat_map, AllByRecursion}
use Rattle.std.specs.Int.{Width, w8, w16, to_le_bytes}
use Rattle.std.proofs.lemmas.Bool.{cases_lt}
use Rattle.std.proofs.lemmas.Bool.Decides.{eqb_tells}
use Rattle.std.proofs.lemmas.Slice.Eq.{bytes_eq-Decides}
use Rattle.adc_ports.specs.declared.What.TheVariants.{G}
use Rattle.adc_ports.specs.Reading.{Malformed}
use Rattle.file_fields.specs.Fields.{IsBytes, Spells, Tells, IsField, AreMany, IsInFront}
use Rattle.file_fields.proofs.Steps.{tells_either}
use Rattle.file_fields.proofs.Closure.{end_field, alike_field, allowed_field, tested_field, front_field, many_field}
use Rattle.file_fields.proofs.Numbers.{IsWide, wide8, wide16, numbers_field, within_field, limited_field, text_spells, spells_stretch}
use Rattle.book_model.specs.Book.{AreWords, component_limit}
use Rattle.codebook_core.specs.Spelling.{spelled, words_spelled, magic_of, scale_text, component_width}
use Rattle.codebook_core.specs.Reading.{version_at, words_at, subs_at, lengths_at, groups_at, scale_at}
use Rattle.codebook_core.proofs.Rows.{sum_cons}

-- ---- versions and scales

abbrev pub IsVersion : ℕ → Type 0
IsVersion version = (version ≡ 1) ⊎ (version ≡ 2)

abbrev pub IsScale : ℕ → ℕ → Type 0
IsScale version scale = ((version ≡ 1) × (scale ≡ 0)) ⊎ ((version ≡ 2) × (scale ≤ 8))

pub version_of : (version : ℕ) → (1 ≤ version) × (version ≤ 2) → IsVersion version
version_of version bounds = elim (cases_lt version 2) [ inl low ↦ inl (omega arith) | inr high ↦ inr (omega arith) ]

pub wide_of : (version : ℕ) → IsVersion version → IsWide (component_width version) (component_limit version)
wide_of version (inl e) = let P : ℕ → Type 0 = λ v. IsWide (component_width v) (component_limit v) in subst P (sym e) wide8
wide_of version (inr e) = let P : ℕ → Type 0 = λ v. IsWide (component_width v) (component_limit v) in subst P (sym e) wide16

version_tells : (bytes : List ℕ) (at : ℕ) → IsBytes bytes → at ≤ length bytes → Tells magic_of IsVersion bytes at (version_at bytes at)
unfolding version_at
version_tells bytes at are le =
    let text = take 8 (drop at bytes) in
    tells_either magic_of IsVersion bytes at (bytes_eq text (codes "ADCBOOK1")) (Ok (1, at + 8)) _
    (λ one. (inl refl, text_spells bytes at (codes "ADCBOOK1") ((bytes_eq-Decides text (codes "ADCBOOK1")).0 one)))
    (λ other. tells_either magic_of IsVersion bytes at (bytes_eq text (codes "ADCBOOK2")) (Ok (2, at + 8)) (Err (Malformed at))
    (λ two. (inr refl, text_spells bytes at (codes "ADCBOOK2") ((bytes_eq-Decides text (codes "ADCBOOK2")).0 two)))
    (λ none. (omega arith, le)))

version_read : (bytes : List ℕ) (at next version : ℕ) → at ≤ length bytes → IsVersion version → Spells bytes at (magic_of version) next → version_at bytes at ≡ Ok (version, next)
unfolding version_at
version_read bytes at next version le (inl is) p =
    let q : Spells bytes at (codes "ADCBOOK1") next = rw is at p in
    let letters : take 8 (drop at bytes) ≡ codes "ADCBOOK1" = spells_stretch q in
    rw (letters, is) (ap (λ (k : ℕ). Ok (1, k)) (sym q.ends))
version_read bytes at next version le (inr is) p =
    let q : Spells bytes at (codes "ADCBOOK2") next = rw is at p in
    let letters : take 8 (drop at bytes) ≡ codes "ADCBOOK2" = spells_stretch q in
    rw (letters, is) (ap (λ (k : ℕ). Ok (2, k)) (sym q.ends))

pub version_field : IsField version_at magic_of IsVersion
version_field = record { tells = version_tells; read = version_read }

no_scale : IsField (scale_at 1) (scale_text 1) (IsScale 1)
unfolding scale_at
no_scale = allowed_field (λ n e. inl (refl, e)) back (end_field 0)
  where
    back : (n : ℕ) → IsScale 1 n → n ≡ 0
    back n (inl is) = is.1
    back n (inr is) = absurd (omega (arith, is.0))

one_scale : IsField (scale_at 2) (scale_text 2) (IsScale 2)
unfolding scale_at
one_scale = allowed_field (λ n is. inr (refl, is.1)) back (within_field w8 256 wide8 0 8 (omega arith))
  where
    back : (n : ℕ) → IsScale 2 n → (0 ≤ n) × (n ≤ 8)
    back n (inl is) = absurd (omega (arith, is.0))
    back n (inr is) = (omega arith, is.1)

pub scale_field : (version : ℕ) → IsVersion version → IsField (scale_at version) (scale_text version) (IsScale version)
scale_field version (inl is) = let P : ℕ → Type 0 = λ v. IsField (scale_at v) (scale_text v) (IsScale v) in subst P (sym is) no_scale
scale_field version (inr is) = let P : ℕ → Type 0 = λ v. IsField (scale_at v) (scale_text v) (IsScale v) in subst P (sym is) one_scale

-- ---- groups and lengths

pub groups_field : (d fields : ℕ) → IsField (groups_at d fields) (to_le_bytes w8) (λ g. ((1 ≤ g) × (g ≤ 32)) × (ltb d (g * fields) ≡ false))
unfolding groups_at
groups_field d fields = tested_field (λ g. ltb d (g * fields)) (limited_field w8 256 wide8 1 32 (omega arith) G)

abbrev pub AreLengths : ℕ → ℕ → List ℕ → Type 0
AreLengths n total lengths = (length lengths ≡ n) × AllByRecursion (λ m. 1 ≤ m) lengths × (sum lengths ≡ total)

pub sum_long : (ns : List ℕ) → AllByRecursion (λ m. 1 ≤ m) ns → length ns ≤ sum ns
sum_long [] each = omega arith
sum_long (n ∷ ns) each = omega (arith, sum_long ns each.1, each.0, sum_cons n ns)

-- the least that a length may be, which so many others follow
abbrev low : ℕ → ℕ → ℕ
low more total = if more == 0 then total else 1

low_more : (n total : ℕ) → low (suc n) total ≡ 1
low_more n total = elim (eqb_tells (suc n) 0) [ inl is ↦ absurd (omega (arith, is.1)) | inr other ↦ rw other.0 refl ]

some_length : (more total m : ℕ) → suc more ≤ total → low more total ≤ m → 1 ≤ m
some_length zero total m le h = omega arith
some_length (suc n) total m le h = omega (arith, low_more n total)

all_taken : (more total m : ℕ) → low more total ≤ m → more ≡ 0 → total - m ≡ 0
all_taken zero total m h e = omega arith
all_taken (suc n) total m h e = absurd (omega arith)

low_enough : (m total : ℕ) (ms : List ℕ) → 1 ≤ m → sum (m ∷ ms) ≡ total → low (length ms) total ≤ m
low_enough m total [] some e = omega (arith, sum_cons m [])
low_enough m total (n ∷ ns) some e = omega (arith, low_more (length ns) total)

pub lengths_field : (n total : ℕ) → total < 65536 → n ≤ total → (n ≡ 0 → total ≡ 0) → IsField (lengths_at n total) (spelled w16) (AreLengths n total)
lengths_field zero total small enough none = alike_field (λ bytes at. refl) (λ ns e. rw e refl) there back (end_field [])
  where
    there : (ns : List ℕ) → ns ≡ [] → AreLengths zero total ns
    there ns e = rw e (refl, tt, sym (none refl))

    back : (ns : List ℕ) → AreLengths zero total ns → ns ≡ []
    back [] are = refl
    back (m ∷ ms) are = absurd (omega (arith, are.0))
lengths_field (suc more) total small enough none = allowed_field there back (front_field (within_field w16 65536 wide16 (low more total) (total - more) (omega arith))
    (λ m is. lengths_field more (total - m) (omega arith) (omega (arith, is)) (all_taken more total m is.0)))
  where
    there : (ns : List ℕ) → IsInFront (λ m. (low more total ≤ m) × (m ≤ total - more)) (λ m. AreLengths more (total - m)) ns → AreLengths (suc more) total ns
    there [] is = absurd is
    there (m ∷ ms) is = (ap suc is.1.0, (some_length more total m enough is.0.0, is.1.1), omega (arith, sum_cons m ms, is.1.2, is.0))

    back : (ns : List ℕ) → AreLengths (suc more) total ns → IsInFront (λ m. (low more total ≤ m) × (m ≤ total - more)) (λ m. AreLengths more (total - m)) ns
    back [] are = absurd (omega (arith, are.0))
    back (m ∷ ms) are =
        let long : length ms ≡ more = omega (arith, are.0) in
        let P : ℕ → Type 0 = λ n. low n total ≤ m in
        ((subst P long (low_enough m total ms are.1.0 are.2), omega (arith, sum_long ms are.1.1, sum_cons m ms, are.2)), (long, are.1.1, omega (arith, sum_cons m ms, are.2)))

-- ---- words

apart : (size limit : ℕ) (words : List (List ℕ)) → AllByRecursion (AreMany size (λ c. c < limit)) words → AllByRecursion (λ word. length word ≡ size) words × AllByRecursion (AllByRecursion (λ c. c < limit)) words
apart size limit [] are = (tt, tt)
apart size limit (word ∷ words) are = let rest = apart size limit words are.1 in ((are.0.count, rest.0), (are.0.each, rest.1))

together : (size limit : ℕ) (words : List (List ℕ)) → AllByRecursion (λ word. length word ≡ size) words → AllByRecursion (AllByRecursion (λ c. c < limit)) words → AllByRecursion (AreMany size (λ c. c < limit)) words
together size limit [] sizes each = tt
together size limit (word ∷ words) sizes each = (record { count = sizes.0; each = each.0 }, together size limit words sizes.1 each.1)

-- the words of sub-quantizer m, of which k others come before it
abbrev IsSub : ℕ → List ℕ → ℕ → List ℕ → List (List (List ℕ)) → ℕ → Type 0
IsSub limit widths m lengths subs k = AreWords limit (2 ^ get_or widths (m % length widths) 0) (get_or lengths k 0) (get_or subs k [])

pub record AreSubs (limit : ℕ) (widths : List ℕ) (j : ℕ) (lengths : List ℕ) (subs : List (List (List ℕ))) : Type 0 where
  pub count : length subs ≡ length lengths
  pub each : (k : ℕ) → k < length lengths → IsSub limit widths (j + k) lengths subs k

-- of all sub-quantizers
pub sub_at : (limit : ℕ) (widths lengths : List ℕ) (subs : List (List (List ℕ))) → AreSubs limit widths 0 lengths subs → (j : ℕ) → j < length lengths → IsSub limit widths j lengths subs j
sub_at limit widths lengths subs are j lt = subst (λ (m : ℕ). IsSub limit widths m lengths subs j) (zero-add j) (are.each j lt)

-- the first, and those behind it
pub subs_split : (limit : ℕ) (widths : List ℕ) (j n : ℕ) (ns : List ℕ) (s : List (List ℕ)) (ss : List (List (List ℕ))) → AreSubs limit widths j (n ∷ ns) (s ∷ ss)
    → AreWords limit (2 ^ get_or widths (j % length widths) 0) n s × AreSubs limit widths (j + 1) ns ss
subs_split limit widths j n ns s ss are =
    let P : ℕ → Type 0 = λ m. IsSub limit widths m (n ∷ ns) (s ∷ ss) 0 in
    let first : j + 0 ≡ j = omega arith in (
      subst P first (are.each 0 (omega arith)),
      record {
        count = omega (arith, are.count);
        each = λ k lt.
            let Q : ℕ → Type 0 = λ m. IsSub limit widths m ns ss k in
            let e : j + suc k ≡ j + 1 + k = omega arith in
            subst Q e (are.each (suc k) (omega arith));
      },
    )

-- and back
pub subs_joined : (limit : ℕ) (widths : List ℕ) (j n : ℕ) (ns : List ℕ) (s : List (List ℕ)) (ss : List (List (List ℕ))) → AreWords limit (2 ^ get_or widths (j % length widths) 0) n s → AreSubs limit widths (j + 1) ns ss
    → AreSubs limit widths j (n ∷ ns) (s ∷ ss)
subs_joined limit widths j n ns s ss words are = record { count = ap suc are.count; each = at }
  where
    at : (k : ℕ) → k < suc (length ns) → IsSub limit widths (j + k) (n ∷ ns) (s ∷ ss) k
    at zero lt = rw add-zero words
    at (suc k) lt =
        let Q : ℕ → Type 0 = λ m. IsSub limit widths m ns ss k in
        let e : j + 1 + k ≡ j + suc k = omega arith in
        subst Q e (are.each k (omega arith))

module _ (w : Width) (limit : ℕ) (wide : IsWide w limit) where
  pub words_field : (n size : ℕ) → IsField (words_at w n size) (words_spelled w) (AreWords limit n size)
  words_field n size = allowed_field
      (λ words are. let parts = apart size limit words are.each in record { count = are.count; sizes = parts.0; components = parts.1 })
      (λ words are. record { count = are.count; each = together size limit words are.sizes are.components })
      (many_field (λ m. words_at w m size) (λ bytes at. refl) (λ m bytes at. refl) (numbers_field w limit wide size) n)

  pub subs_field : (widths lengths : List ℕ) (j : ℕ) → IsField (subs_at w widths j lengths) (flat_map (words_spelled w)) (AreSubs limit widths j lengths)
  subs_field widths [] j = alike_field (λ bytes at. refl) (λ ss e. rw e refl) (λ ss e. record { count = ap length e; each = λ k lt. absurd (omega arith) }) back (end_field [])
    where
      back : (ss : List (List (List ℕ))) → AreSubs limit widths j [] ss → ss ≡ []
      back [] are = refl
      back (s ∷ ss) are = absurd (omega (arith, are.count))
  subs_field widths (n ∷ ns) j = allowed_field there back (front_field (words_field (2 ^ get_or widths (j % length widths) 0) n) (λ words is. subs_field widths ns (j + 1)))
    where
      there : (ss : List (List (List ℕ))) → IsInFront (AreWords limit (2 ^ get_or widths (j % length widths) 0) n) (λ words. AreSubs limit widths (j + 1) ns) ss → AreSubs limit widths j (n ∷ ns) ss
      there [] is = absurd is
      there (s ∷ ss) is = subs_joined limit widths j n ns s ss is.0 is.1

      back : (ss : List (List (List ℕ))) → AreSubs limit widths j (n ∷ ns) ss → IsInFront (AreWords limit (2 ^ get_or widths (j % length widths) 0) n) (λ words. AreSubs limit widths (j + 1) ns) ss
      back [] are = absurd (omega (arith, are.count))
      back (s ∷ ss) are = subs_split limit widths j n ns s ss are
