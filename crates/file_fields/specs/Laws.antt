-- Which readers are fields, and how fields make up others.
use Rattle.std.specs.Prelude.{◌≡◌, ℕ, ◌<◌, ◌≤◌, List, ◌++◌, flat_map, Bool, IsTrue}
use Rattle.std.specs.Int.{Width, to_le_bytes}
use Rattle.adc_ports.specs.declared.What.{What}
use Rattle.adc_ports.specs.Reading.{◌>>=◌, number_at, allowed_at, limited_at, numbers_at}
use Rattle.file_fields.specs.Fields.{Reader, IsField, AreMany, repeated}

-- numbers of a width are spelled by their bytes, the lowest first
pub record AreFields (w : Width) (limit : ℕ) : Type 0 where
  pub number : IsField (number_at w) (to_le_bytes w) (λ n. n < limit)
  pub numbers : (n : ℕ) → IsField (numbers_at w n) (flat_map (to_le_bytes w)) (AreMany n (λ x. x < limit))
  pub within : (low high : ℕ) → high < limit → IsField (allowed_at w low high) (to_le_bytes w) (λ n. (low ≤ n) × (n ≤ high))
  pub limited : (what : What) (low high : ℕ) → high < limit → IsField (limited_at what w low high) (to_le_bytes w) (λ n. (low ≤ n) × (n ≤ high))

-- a field, and behind it one whose form may depend on its value, are a field
abbrev pub FieldsFollow : Type 0 → Type 0 → Type 0
FieldsFollow A B = (r : Reader A) (s : A → List ℕ) (P : A → Bool) (q : A → Reader B) (t : B → List ℕ) (Q : A → B → Bool) (part : B → A)
    → ((a : A) (b : B) → IsTrue (P a) → IsTrue (Q a b) → part b ≡ a) → IsField r s (λ a. IsTrue (P a)) → ((a : A) → IsTrue (P a) → IsField (q a) t (λ b. IsTrue (Q a b)))
    → IsField (λ bytes at. r bytes at >>= λ x. q x.0 bytes x.1) (λ b. s (part b) ++ t b) (λ b. IsTrue (P (part b)) × IsTrue (Q (part b) b))

-- so many fields of one kind are a field
abbrev pub FieldsRepeat : Type 0 → Type 0
FieldsRepeat A = (r : Reader A) (s : A → List ℕ) (P : A → Bool) (n : ℕ) → IsField r s (λ a. IsTrue (P a)) → IsField (repeated r n) (flat_map s) (AreMany n (λ a. IsTrue (P a)))
