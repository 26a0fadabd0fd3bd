-- What calls on the outside do.
use Rattle.std.specs.Prelude.{◌≡◌, ◌≢◌, ℕ, ◌+◌, ◌≤◌, min, List, [], take, drop, Option, unwrap_or}
use Rattle.std.specs.Io.KnownBytes.{Appends}

-- a count rose in a call; at the greatest number that it can have it stands still
abbrev pub Rose : ℕ → ℕ → Type 0
Rose old new = min (old + 1) 18446744073709551615 ≤ new

-- a count that rises by one, and stands still at the greatest number that it can have
abbrev pub risen : ℕ → ℕ
risen old = min (old + 1) 18446744073709551615

-- how many reads and how many writes failed
pub record FaultCounts : Type 0 where
  pub read_faults : ℕ
  pub write_faults : ℕ

-- some of the bytes were added, from the first on, where those that were written are told
abbrev pub AddsPrefix : Option (List ℕ) → Option (List ℕ) → List ℕ → Type 0
AddsPrefix old new bytes = (n : ℕ) × Appends old new (take n bytes)

-- the bytes of the file of a name, where there is one
abbrev pub Files : Type 0
Files = List ℕ → Option (List ℕ)

-- the bytes of a file, and none of an absent one
abbrev pub bytes_of : Files → List ℕ → List ℕ
bytes_of files name = unwrap_or (files name) []

-- a stretch of at most n bytes of a file
abbrev pub stretch : Files → List ℕ → ℕ → ℕ → List ℕ
stretch files name at n = take n (drop at (bytes_of files name))

-- every file but this one stays
abbrev pub OthersStay : Files → Files → List ℕ → Type 0
OthersStay old new name = (other : List ℕ) → other ≢ name → new other ≡ old other
