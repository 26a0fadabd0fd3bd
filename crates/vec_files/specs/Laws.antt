-- What is read of a vector file is spelled so, and what is spelled so is read.
use Rattle.std.specs.Prelude.{◌≡◌, ℕ, ◌<◌, ◌≤◌, ℤ, List, length, Option, None, IfSome, Ok, All, FitsSigned}
use Rattle.std.specs.Int.{w32}
use Rattle.vec_files.specs.Rows.{bvecs, ivecs, bvecs_outcome, ivecs_outcome}
use Rattle.vec_files.specs.Found.{found}

abbrev pub AreBytes : List ℕ → Type 0
AreBytes bytes = All (λ b. b < 256) bytes

-- rows of d components that a file can hold whose spelling has these bytes
pub record AreRows {A : Type 0} (d : ℕ) (rows : List (List A)) (bytes : List ℕ) : Type 0 where
  pub low : 0 < length rows → 1 ≤ d
  pub high : 0 < length rows → d ≤ 1024
  pub each : All (λ row. length row ≡ d) rows
  pub few : length rows ≤ 4194304
  pub short : length bytes ≤ 2147483648

abbrev pub BvecsAreRead : Type 0
BvecsAreRead = (wanted : Option ℕ) (d : ℕ) (rows : List (List ℕ)) → AreRows d rows (bvecs d rows) → IfSome wanted (λ w. w ≡ d) → bvecs_outcome wanted (bvecs d rows) ≡ Ok rows

-- here d is the length of the rows that are read, or the wanted one where there are none
pub record IsBvecs (wanted : Option ℕ) (d : ℕ) (rows : List (List ℕ)) (bytes : List ℕ) : Type 0 where
  pub spelled : bytes ≡ bvecs d rows
  pub allowed : AreRows d rows bytes
  pub as_wanted : IfSome wanted (λ w. w ≡ d)

abbrev pub BvecsAreSpelled : Type 0
BvecsAreSpelled = (wanted : Option ℕ) (bytes : List ℕ) (rows : List (List ℕ)) → AreBytes bytes → bvecs_outcome wanted bytes ≡ Ok rows → IsBvecs wanted (found wanted rows).d rows bytes

abbrev pub AreSigned : List (List ℤ) → Type 0
AreSigned rows = All (λ row. All (FitsSigned w32) row) rows

abbrev pub IvecsAreRead : Type 0
IvecsAreRead = (d : ℕ) (rows : List (List ℤ)) → AreRows d rows (ivecs d rows) → AreSigned rows → ivecs_outcome (ivecs d rows) ≡ Ok rows

pub record IsIvecs (d : ℕ) (rows : List (List ℤ)) (bytes : List ℕ) : Type 0 where
  pub spelled : bytes ≡ ivecs d rows
  pub allowed : AreRows d rows bytes
  pub signed : AreSigned rows

abbrev pub IvecsAreSpelled : Type 0
IvecsAreSpelled = (bytes : List ℕ) (rows : List (List ℤ)) → AreBytes bytes → ivecs_outcome bytes ≡ Ok rows → IsIvecs (found None rows).d rows bytes
