-- A field of a file: reading it and spelling it agree.
use Rattle.std.specs.Prelude.{◌≡◌, ℕ, zero, suc, ◌+◌, ◌<◌, ◌≤◌, List, [], ◌∷◌, ◌++◌, length, drop, Ok, Err, slice_index}
use Rattle.std.specs.List.{AllByRecursion}
use Rattle.adc_ports.specs.Reading.{Malformed, Limit, Read, ◌>>=◌}

-- bytes, and 0 past their end
abbrev pub IsBytes : List ℕ → Type 0
IsBytes bytes = (i : ℕ) → slice_index bytes i < 256

-- a reader: of the bytes, and of the place where a field begins
abbrev pub Reader : Type 0 → Type 0
Reader A = List ℕ → ℕ → Read A

-- this text stands there, and the next field begins behind it
pub record Spells (bytes : List ℕ) (at : ℕ) (text : List ℕ) (next : ℕ) : Type 0 where
  pub ends : next ≡ at + length text
  pub part : drop at bytes ≡ text ++ drop next bytes

-- what a reader answers there: a value that is allowed and spelled there, or a fault within the bytes from there on
abbrev pub Tells : {A : Type 0} → (A → List ℕ) → (A → Type 0) → List ℕ → ℕ → Read A → Type 0
Tells spelling Allowed bytes at (Ok x) = Allowed x.0 × Spells bytes at (spelling x.0) x.1
Tells spelling Allowed bytes at (Err (Malformed place)) = (at ≤ place) × (place ≤ length bytes)
Tells spelling Allowed bytes at (Err (Limit what value)) = Unit {0}

-- what the reader reads is allowed and spelled there, and what is allowed and spelled there is read
pub record IsField {A : Type 0} (reader : Reader A) (spelling : A → List ℕ) (Allowed : A → Type 0) : Type 0 where
  pub tells : (bytes : List ℕ) (at : ℕ) → IsBytes bytes → at ≤ length bytes → Tells spelling Allowed bytes at (reader bytes at)
  pub read : (bytes : List ℕ) (at next : ℕ) (a : A) → at ≤ length bytes → Allowed a → Spells bytes at (spelling a) next → reader bytes at ≡ Ok (a, next)

-- so many fields of one kind, one after another
abbrev pub repeated : {A : Type 0} → Reader A → ℕ → Reader (List A)
repeated reader zero bytes at = Ok ([], at)
repeated reader (suc n) bytes at = do
  x ← reader bytes at
  xs ← repeated reader n bytes x.1
  Ok (x.0 ∷ xs.0, xs.1)

-- so many values, of which each is allowed
pub record AreMany {A : Type 0} (n : ℕ) (Allowed : A → Type 0) (xs : List A) : Type 0 where
  pub count : length xs ≡ n
  pub each : AllByRecursion Allowed xs

-- a value in front of others, of which what is allowed may depend on it
abbrev pub IsInFront : {A : Type 0} → (A → Type 0) → (A → List A → Type 0) → List A → Type 0
IsInFront Allowed Others [] = ⊥
IsInFront Allowed Others (x ∷ xs) = Allowed x × Others x xs
