-- Keys of distances, and the least of them.
use Rattle.std.specs.Prelude.{◌≡◌, ℕ, ◌+◌, ◌*◌, ◌<◌, ◌≤◌, List, length, slice_index}

-- a distance and its place as one number, of which the place is the low ten bits
abbrev pub key_at : List ℕ → ℕ → ℕ
key_at distances w = slice_index distances w * 1024 + w

-- each of 16 lanes has the key of some distance, and each distance has a lane whose key is no greater
pub record AreLeastKeys (distances lanes : List ℕ) : Type 0 where
  pub long : length lanes ≡ 16
  pub keys : (k : ℕ) → k < 16 → (w : ℕ) × (w < length distances) × (slice_index lanes k ≡ key_at distances w)
  pub least : (w : ℕ) → w < length distances → (k : ℕ) × (k < 16) × (slice_index lanes k ≤ key_at distances w)
