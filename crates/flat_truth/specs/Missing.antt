-- Which of the rows that ids number is not there.
use Rattle.std.specs.Prelude.{◌≡◌, ℕ, ◌+◌, ◌*◌, ◌<◌, List, length, slice_index}
use Rattle.vec_files.specs.Standing.{IsRowThere}

-- the first of these rows that is not there begins at this place
pub record FirstMissingOf (bytes : List ℕ) (d : ℕ) (ids : List ℕ) (at : ℕ) : Type 0 where
  pub index : ℕ
  pub among : index < length ids
  pub place : at ≡ slice_index ids index * (4 + d)
  pub before : (i : ℕ) → i < index → IsRowThere bytes d (slice_index ids i)
  pub missing : IsRowThere bytes d (slice_index ids index) → ⊥

-- the row of one of these ids begins at this place
pub record IsStartOf (d : ℕ) (ids : List ℕ) (at : ℕ) : Type 0 where
  pub index : ℕ
  pub among : index < length ids
  pub place : at ≡ slice_index ids index * (4 + d)
