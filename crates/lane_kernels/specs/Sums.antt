-- What the codes of 32 lanes pick from their tables.
use Rattle.std.specs.Prelude.{◌≡◌, ℕ, ◌+◌, ◌*◌, ◌%◌, ◌<◌, ◌≤◌, List, [], length, map, nat_lt, if◌then◌else◌, slice_index, slice_index_or}
use Rattle.book_model.specs.Sums.{sum_below}
use Rattle.shape_core.specs.Word.{field_of}
use Rattle.lane_kernels.specs.Table.{Table}

-- the entries of table j
abbrev pub entries_at : List Table → ℕ → List ℕ
entries_at tables j = slice_index_or (map (λ t. t.entries) tables) j []

-- the width of table j
abbrev pub width_at : List Table → ℕ → ℕ
width_at tables j = slice_index (map (λ t. t.width) tables) j

-- a table for each field of n words, of its field's width
pub record AreTables (widths : List ℕ) (n : ℕ) (tables : List Table) : Type 0 where
  pub count : length tables ≡ n * length widths
  pub each : (j : ℕ) → j < length tables → width_at tables j ≡ slice_index widths (j % length widths)

-- the entry that field f of a word picks, if the tables of the word begin at place `at`
abbrev pub picked : List ℕ → List Table → ℕ → ℕ → ℕ → ℕ
picked widths tables at word f = slice_index (entries_at tables (at + f)) (field_of widths word f)

-- the sum of the entries that the fields of a word pick
abbrev pub word_sum : List ℕ → List Table → ℕ → ℕ → ℕ
word_sum widths tables at word = sum_below (length widths) (picked widths tables at word)

-- the sum of the entries that the first n words of a code pick: field f of word w picks from table w * FIELDS + f
abbrev pub front_sum : List ℕ → List Table → List ℕ → ℕ → ℕ
front_sum widths tables code n = sum_below n (λ w. word_sum widths tables (w * length widths) (slice_index code w))

-- the sum of the entries that a whole code picks
abbrev pub code_sum : List ℕ → List Table → List ℕ → ℕ
code_sum widths tables code = front_sum widths tables code (length code)

-- the words of the code in a lane; place w of `words` has word w of every lane
abbrev pub lane_words : List (List ℕ) → ℕ → List ℕ
lane_words words lane = map (λ row. slice_index row lane) words

-- the tables of a word, which begin at place `at`, are there and have the widths of its fields
pub record HasTables (widths : List ℕ) (at : ℕ) (tables : List Table) : Type 0 where
  pub room : at + length widths ≤ length tables
  pub each : (f : ℕ) → f < length widths → width_at tables (at + f) ≡ slice_index widths f

-- what field f picks, and 0 if there is no such field
abbrev pub picked_or_none : List ℕ → List Table → ℕ → ℕ → ℕ → ℕ
picked_or_none widths tables at word f = if nat_lt f (length widths) then picked widths tables at word f else 0
