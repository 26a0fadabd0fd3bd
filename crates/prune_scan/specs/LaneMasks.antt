-- Masks of lanes.
use Rattle.std.specs.Prelude.{ℕ, Bool, ◌==◌}
use Rattle.std.specs.Int.{bit_at}

-- whether a mask has the lane
unfoldable pub is_set : ℕ → ℕ → Bool
is_set mask lane = bit_at mask lane == 1
