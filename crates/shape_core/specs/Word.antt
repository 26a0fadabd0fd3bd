-- How fields are packed into a word. A shape stands here as the list of its widths.
use Rattle.std.specs.Prelude.{◌≡◌, ℕ, zero, suc, ◌*◌, ◌/◌, ◌%◌, ◌^◌, ◌<◌, List, [], ◌∷◌, length, map, take, drop, sum, slice_index}
use Rattle.std.specs.List.{AllByRecursion, flat_map}
use Rattle.book_model.specs.Sums.{sum_below, numbers_below}

-- the offset of a field is the sum of the widths before it
abbrev pub offset_of : List ℕ → ℕ → ℕ
offset_of widths n = sum (take n widths)

-- each field at its offset
abbrev pub word_of : List ℕ → List ℕ → ℕ
word_of widths fields = sum_below (length widths) (λ n. slice_index fields n * 2 ^ offset_of widths n)

-- the bits of a field
abbrev pub field_of : List ℕ → ℕ → ℕ → ℕ
field_of widths word n = word / 2 ^ offset_of widths n % 2 ^ slice_index widths n

-- all fields of a word, in order
abbrev pub fields_of : List ℕ → ℕ → List ℕ
fields_of widths word = map (field_of widths word) (numbers_below (length widths))

-- a word whose unused high bits are 0
abbrev pub IsWord : List ℕ → ℕ → Type 0
IsWord widths word = word < 2 ^ sum widths

-- a field for each width, and within it
pub record AreFields (widths fields : List ℕ) : Type 0 where
  pub count : length fields ≡ length widths
  pub each : (n : ℕ) → n < length widths → slice_index fields n < 2 ^ slice_index widths n

-- the first g words of a code: field f of word w is the code's place w * FIELDS + f
abbrev pub words_of : List ℕ → ℕ → List ℕ → List ℕ
words_of widths zero code = []
words_of widths (suc g) code = word_of widths (take (length widths) code) ∷ words_of widths g (drop (length widths) code)

-- the code of as many words: the fields of each, one word after another
abbrev pub code_of_words : List ℕ → List ℕ → List ℕ
code_of_words widths words = flat_map (λ word. map (field_of widths word) (numbers_below (length widths))) words

-- g words whose unused high bits are 0
pub record AreCodeWords (widths : List ℕ) (g : ℕ) (words : List ℕ) : Type 0 where
  pub count : length words ≡ g
  pub each : AllByRecursion (IsWord widths) words

-- the fields of g words, each within its width
pub record IsCode (widths : List ℕ) (g : ℕ) (code : List ℕ) : Type 0 where
  pub count : length code ≡ g * length widths
  pub each : (j : ℕ) → j < length code → slice_index code j < 2 ^ slice_index widths (j % length widths)
