-- What is left of a text that is cut at a byte.
use Rattle.std.specs.Prelude.{ℕ, List, [], Option, Some, None, ◌==◌}
use Rattle.std.specs.List.{slice_split}
use Rattle.std.specs.Borrow.{Bor}

-- nothing, or the parts of what stands behind the last cut
abbrev pub parts_of : ℕ → Option (Bor (List ℕ)) → List (List ℕ)
parts_of separator None = []
parts_of separator (Some rest) = slice_split (λ b. b == separator) rest.now
