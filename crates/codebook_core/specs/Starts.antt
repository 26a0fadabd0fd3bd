-- How large the lists of words are, and where each begins.
use Rattle.std.specs.Prelude.{◌≡◌, ℕ, ◌+◌, ◌*◌, ◌^◌, ◌%◌, ◌<◌, List, [], ◌∷◌, length, take, sum, slice_index}

-- how many components the words of each sub-quantizer have, from number j on
abbrev pub sub_sizes : List ℕ → ℕ → List ℕ → List ℕ
sub_sizes widths j [] = []
sub_sizes widths j (size ∷ sizes) = 2 ^ slice_index widths (j % length widths) * size ∷ sub_sizes widths (j + 1) sizes

-- at each place the sum of the numbers before it
pub record AreStarts (starts numbers : List ℕ) : Type 0 where
  pub count : length starts ≡ length numbers
  pub each : (j : ℕ) → j < length numbers → slice_index starts j ≡ sum (take j numbers)
