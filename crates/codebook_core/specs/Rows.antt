-- Words in a row.
use Rattle.std.specs.Prelude.{◌≡◌, ℕ, ◌*◌, ◌<◌, List, [], length, take, drop, slice_index_or}

-- word i of as many components begins i times as far
abbrev pub AreRows : ℕ → List ℕ → List (List ℕ) → Type 0
AreRows size components words = (i : ℕ) → i < length words → take size (drop (i * size) components) ≡ slice_index_or words i []
