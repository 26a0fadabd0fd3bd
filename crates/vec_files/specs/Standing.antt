-- Rows that stand one after another in a file, and which of them are not there.
use Rattle.std.specs.Prelude.{◌≡◌, ℕ, zero, suc, ◌+◌, ◌*◌, ◌<◌, ◌≤◌, List, [], ◌∷◌, length, take, drop, Result, Ok, Err}
use Rattle.std.specs.Int.{w32, from_le_bytes}
use Rattle.vec_files.specs.declared.VecError.{VecError}
use Rattle.vec_files.specs.declared.VecError.TheVariants.{Missing, Malformed, Limit, ReadFault, Memory}

-- the n rows of d components at the front of these bytes, one after another, each behind the four bytes of its header
unfoldable pub rows_standing : ℕ → ℕ → List ℕ → List (List ℕ)
rows_standing d zero bytes = []
rows_standing d (suc n) bytes = take d (drop 4 bytes) ∷ rows_standing d n (drop (4 + d) bytes)

-- the row of this number stands whole in these bytes, behind a header that says d
pub record IsRowThere (bytes : List ℕ) (d row : ℕ) : Type 0 where
  pub whole : row * (4 + d) + (4 + d) ≤ length bytes
  pub header : from_le_bytes w32 (take 4 (drop (row * (4 + d)) bytes)) ≡ d

-- of these rows, the first that is not there begins at this place
pub record FirstMissing (bytes : List ℕ) (d first past at : ℕ) : Type 0 where
  pub row : ℕ
  pub low : first ≤ row
  pub high : row < past
  pub place : at ≡ row * (4 + d)
  pub before : (i : ℕ) → first ≤ i → i < row → IsRowThere bytes d i
  pub missing : IsRowThere bytes d row → ⊥

-- one of these rows begins at this place
pub record IsRowStart (d first past at : ℕ) : Type 0 where
  pub row : ℕ
  pub low : first ≤ row
  pub high : row < past
  pub place : at ≡ row * (4 + d)

-- a row is refused at a place of which P holds, or a call on the shelf stopped
abbrev pub RefusesAt : VecError → (ℕ → Type 0) → Type 0
RefusesAt Missing P = ⊥
RefusesAt (Malformed at) P = P at
RefusesAt (Limit what value) P = ⊥
RefusesAt ReadFault P = Unit {0}
RefusesAt Memory P = Unit {0}

-- there is an answer, of which P holds, unless a call on the shelf stopped
abbrev pub Gives : {T : Type 0} → Result T VecError → (T → Type 0) → Type 0
Gives (Ok it) P = P it
Gives (Err e) P = RefusesAt e (λ at. ⊥)
