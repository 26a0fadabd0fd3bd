-- Fields one after another, so many of one kind, and fields whose form depends on an earlier value.
use Rattle.std.proofs.Common.{◌≡◌, ℕ, zero, suc, ◌+◌, ◌≤◌, Bool, true, false, cond, List, [], ◌∷◌, ◌++◌, length, Ok, Err, refl, sym, ap, subst, ◌∙◌, arith, eqb}
use Rattle.std.specs.List.{flat_map}
use Rattle.std.proofs.lemmas.Bool.{eqb-true, eq-eqb}
use Rattle.std.proofs.lemmas.List.Concat.{flat_map-cons}
use Rattle.adc_ports.specs.Reading.{Fault, Malformed, Limit, Read, ◌>>=◌, ends_at}
use Rattle.file_fields.specs.Fields.{IsBytes, Reader, Spells, Tells, IsField, AreMany, IsInFront}
use Rattle.file_fields.proofs.Steps.{spells_none, spells_then, spells_split, spells_within, spells_all, all_spells, tells_bind, tells_behind, tells_unless, bind_none}

-- nothing stands there, and a value is known
pub end_field : {A : Type 0} (a : A) → IsField (λ bytes at. Ok (a, at)) (λ b. []) (λ b. b ≡ a)
end_field {A} a = record {
  tells = λ bytes at are le. (refl, spells_none bytes at);
  read = λ bytes at next b le is p. let same : at ≡ next = omega (arith, p.ends) in rw (is, same) refl;
}

-- the same field, told by other words
pub alike_field : {A : Type 0} {r q : Reader A} {s t : A → List ℕ} {P Q : A → Type 0} → ((bytes : List ℕ) (at : ℕ) → q bytes at ≡ r bytes at) → ((a : A) → P a → t a ≡ s a)
    → ((a : A) → P a → Q a) → ((a : A) → Q a → P a) → IsField r s P → IsField q t Q
alike_field {A} {r} {q} {s} {t} {P} {Q} reads spells there back field = record {
  tells = λ bytes at are le. rw (reads bytes at) (told bytes at (r bytes at) (field.tells bytes at are le));
  read = λ bytes at next a le is p.
      let S : List ℕ → Type 0 = λ text. Spells bytes at text next in
      reads bytes at ∙ field.read bytes at next a le (back a is) (subst S (spells a (back a is)) p);
}
  where
    told : (bytes : List ℕ) (at : ℕ) (x : Read A) → Tells s P bytes at x → Tells t Q bytes at x
    told bytes at (Ok x) h = let S : List ℕ → Type 0 = λ text. Spells bytes at text x.1 in (there x.0 h.0, subst S (sym (spells x.0 h.0)) h.1)
    told bytes at (Err (Malformed place)) h = h
    told bytes at (Err (Limit what value)) h = tt

-- the same where only what is allowed is told by other words
pub allowed_field : {A : Type 0} {r : Reader A} {s : A → List ℕ} {P Q : A → Type 0} → ((a : A) → P a → Q a) → ((a : A) → Q a → P a) → IsField r s P → IsField r s Q
allowed_field there back field = alike_field (λ bytes at. refl) (λ a is. refl) there back field

-- a field, and behind it one whose form may depend on its value; the value of both shows the first by part
pub then_field : {A B : Type 0} {r : Reader A} {s : A → List ℕ} {P : A → Type 0} {q : A → Reader B} {t : B → List ℕ} {Q : A → B → Type 0} (part : B → A)
    → IsField r s P → ((a : A) → P a → IsField (q a) t (Q a)) → ((a : A) (b : B) → P a → Q a b → part b ≡ a)
    → IsField (λ bytes at. r bytes at >>= λ x. q x.0 bytes x.1) (λ b. s (part b) ++ t b) (λ b. P (part b) × Q (part b) b)
then_field {A} {B} {r} {s} {P} {q} {t} {Q} part first behind same = record {
  tells = λ bytes at are le. tells_bind (λ b. s (part b) ++ t b) (λ b. P (part b) × Q (part b) b) bytes at s P (r bytes at) (λ x. q x.0 bytes x.1) (first.tells bytes at are le) (λ x is p.
      let ends = spells_within le p in
      let G : Read B → Type 0 = λ read. Tells (λ b. s (part b) ++ t b) (λ b. P (part b) × Q (part b) b) bytes at read in
      subst G (bind_none (q x.0 bytes x.1)) (tells_behind (λ b. s (part b) ++ t b) (λ b. P (part b) × Q (part b) b) bytes at t (Q x.0) x.1 (q x.0 bytes x.1) (λ b. b) ends.0
      (λ b end holds later.
      let F : A → Type 0 = λ a. (P a × Q a b) × Spells bytes at (s a ++ t b) end in
      subst F (sym (same x.0 b is holds)) ((is, holds), spells_then p later))
      ((behind x.0 is).tells bytes x.1 are ends.1)));
  read = λ bytes at next b le is p.
      let parts = spells_split (s (part b)) (t b) p in
      let ends = spells_within le parts.0 in
      rw (first.read bytes at (at + length (s (part b))) (part b) le is.0 parts.0) ((behind (part b) is.0).read bytes (at + length (s (part b))) next b ends.1 is.1 parts.1);
}

-- a field whose value is refused at its first byte if it fails a test
pub tested_field : {A : Type 0} {r : Reader A} {s : A → List ℕ} {P : A → Type 0} (fails : A → Bool) → IsField r s P
    → IsField (λ bytes at. r bytes at >>= λ x. cond (fails x.0) (Err (Malformed at)) (Ok x)) s (λ a. P a × (fails a ≡ false))
tested_field {A} {r} {s} {P} fails field = record {
  tells = λ bytes at are le. tells_bind s (λ a. P a × (fails a ≡ false)) bytes at s P (r bytes at) _ (field.tells bytes at are le)
      (λ x is p. tells_unless s (λ a. P a × (fails a ≡ false)) bytes at (fails x.0) (Ok x) le (λ passes. ((is, passes), p)));
  read = λ bytes at next a le is p. rw (field.read bytes at next a le is.0 p, is.1) refl;
}

-- a value in front of those that were read
abbrev in_front : {A : Type 0} → A → List A × ℕ → Read (List A)
in_front x xs = Ok (x ∷ xs.0, xs.1)

-- a field in front of others of its kind, whose form may depend on its value
pub front_field : {A : Type 0} {r : Reader A} {s : A → List ℕ} {P : A → Type 0} {q : A → Reader (List A)} {Q : A → List A → Type 0}
    → IsField r s P → ((a : A) → P a → IsField (q a) (flat_map s) (Q a)) → IsField (λ bytes at. r bytes at >>= λ x. q x.0 bytes x.1 >>= λ xs. Ok (x.0 ∷ xs.0, xs.1)) (flat_map s) (IsInFront P Q)
front_field {A} {r} {s} {P} {q} {Q} first behind = record { tells = told; read = is_read }
  where
    told : (bytes : List ℕ) (at : ℕ) → IsBytes bytes → at ≤ length bytes → Tells (flat_map s) (IsInFront P Q) bytes at (r bytes at >>= λ x. q x.0 bytes x.1 >>= in_front x.0)
    told bytes at are le = tells_bind (flat_map s) (IsInFront P Q) bytes at s P (r bytes at) (λ x. q x.0 bytes x.1 >>= in_front x.0) (first.tells bytes at are le) (λ x is p.
        let ends = spells_within le p in
        tells_behind (flat_map s) (IsInFront P Q) bytes at (flat_map s) (Q x.0) x.1 (q x.0 bytes x.1) (λ xs. x.0 ∷ xs) ends.0
        (λ xs end holds later. ((is, holds), rw (flat_map-cons s x.0 xs) (spells_then p later)))
        ((behind x.0 is).tells bytes x.1 are ends.1))

    is_read : (bytes : List ℕ) (at next : ℕ) (xs : List A) → at ≤ length bytes → IsInFront P Q xs → Spells bytes at (flat_map s xs) next → (r bytes at >>= λ x. q x.0 bytes x.1 >>= in_front x.0) ≡ Ok (xs, next)
    is_read bytes at next [] le is p = absurd is
    is_read bytes at next (x ∷ xs) le is p =
        let parts = spells_split (s x) (flat_map s xs) (rw flat_map-cons at p) in
        let ends = spells_within le parts.0 in
        rw (first.read bytes at (at + length (s x)) x le is.0 parts.0, (behind x is.0).read bytes (at + length (s x)) next xs ends.1 is.1 parts.1) refl

-- so many fields of one kind, as a reader of n of them goes on
pub many_field : {A : Type 0} {r : Reader A} {s : A → List ℕ} {P : A → Type 0} (many : ℕ → Reader (List A)) → ((bytes : List ℕ) (at : ℕ) → many zero bytes at ≡ Ok ([], at))
    → ((n : ℕ) (bytes : List ℕ) (at : ℕ) → many (suc n) bytes at ≡ (r bytes at >>= λ x. many n bytes x.1 >>= λ xs. Ok (x.0 ∷ xs.0, xs.1))) → IsField r s P
    → (n : ℕ) → IsField (many n) (flat_map s) (AreMany n P)
many_field {A} {r} {s} {P} many none more field zero = alike_field none nothing there back (end_field [])
  where
    nothing : (xs : List A) → xs ≡ [] → flat_map s xs ≡ []
    nothing xs e = rw e refl

    there : (xs : List A) → xs ≡ [] → AreMany zero P xs
    there xs e = rw e (record { count = refl; each = tt })

    back : (xs : List A) → AreMany zero P xs → xs ≡ []
    back [] are = refl
    back (x ∷ xs) are = absurd (omega (arith, are.count))
many_field {A} {r} {s} {P} many none more field (suc n) = alike_field (more n) (λ xs is. refl) there back (front_field field (λ x is. many_field many none more field n))
  where
    there : (xs : List A) → IsInFront P (λ x. AreMany n P) xs → AreMany (suc n) P xs
    there [] is = absurd is
    there (x ∷ xs) is = record { count = ap suc is.1.count; each = (is.0, is.1.each) }

    back : (xs : List A) → AreMany (suc n) P xs → IsInFront P (λ x. AreMany n P) xs
    back [] are = absurd (omega (arith, are.count))
    back (x ∷ xs) are = (are.each.0, record { count = omega (arith, are.count); each = are.each.1 })

-- ---- a file that is one field

ended : {A : Type 0} (b : Bool) (fault : Fault) (x a : A) → cond b (Ok x) (Err fault) ≡ Ok a → (b ≡ true) × (x ≡ a)
ended true fault x a e = (refl, cc)
ended false fault x a e = absurd cc

pub whole_spelled : {A : Type 0} {r : Reader A} {s : A → List ℕ} {P : A → Type 0} → IsField r s P → (bytes : List ℕ) (a : A) → IsBytes bytes → (r bytes 0 >>= ends_at bytes) ≡ Ok a → P a × (bytes ≡ s a)
whole_spelled {A} {r} {s} {P} field bytes a are e = from (r bytes 0) (field.tells bytes 0 are (omega arith)) e
  where
    from : (read : Read A) → Tells s P bytes 0 read → (read >>= ends_at bytes) ≡ Ok a → P a × (bytes ≡ s a)
    from (Ok x) told e =
        let is = ended (eqb x.1 (length bytes)) (Malformed x.1) x.0 a e in
        let whole : Spells bytes 0 (s x.0) (length bytes) = subst (λ (k : ℕ). Spells bytes 0 (s x.0) k) (eqb-true x.1 (length bytes) is.0) told.1 in
        let G : A → Type 0 = λ b. P b × (bytes ≡ s b) in
        subst G is.1 (told.0, spells_all whole)
    from (Err fault) told e = absurd cc

pub whole_read : {A : Type 0} {r : Reader A} {s : A → List ℕ} {P : A → Type 0} → IsField r s P → (bytes : List ℕ) (a : A) → P a → bytes ≡ s a → (r bytes 0 >>= ends_at bytes) ≡ Ok a
whole_read {A} {r} {s} {P} field bytes a is e = rw (field.read bytes 0 (length bytes) a (omega arith) is (all_spells e), eq-eqb (length bytes) (length bytes) refl) refl
