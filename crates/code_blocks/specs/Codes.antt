-- Codes that are kept transposed: lane w holds word w of each of 32 codes.
use Rattle.std.specs.Prelude.{◌≡◌, ℕ, ◌+◌, ◌*◌, ◌/◌, ◌%◌, ◌<◌, ◌≤◌, List, [], length, map, slice_index, slice_index_or, slice_set, replicate}
use Rattle.book_model.specs.Sums.{numbers_below}
use Rattle.std.specs.List.{AllByRecursion}
use Rattle.shape_core.specs.Word.{IsWord, AreCodeWords}

-- the code of a slot, and those of all slots
abbrev pub code_at : List (List ℕ) → ℕ → List ℕ
code_at lanes slot = map (λ lane. slice_index lane slot) lanes

unfoldable pub codes_of : List (List ℕ) → List (List ℕ)
codes_of lanes = map (code_at lanes) (numbers_below 32)

-- 32 codes of g words, all 0
unfoldable pub zero_codes : ℕ → List (List ℕ)
zero_codes g = replicate 32 (replicate g 0)

-- how many words each code has
abbrev pub word_count : List (List ℕ) → ℕ
word_count codes = length (slice_index_or codes 0 [])

-- 32 words in each lane, each with its unused high bits 0
pub record AreLanes (widths : List ℕ) (lanes : List (List ℕ)) : Type 0 where
  pub sizes : (w : ℕ) → w < length lanes → length (slice_index_or lanes w []) ≡ 32
  pub words : (w slot : ℕ) → w < length lanes → slot < 32 → IsWord widths (slice_index (slice_index_or lanes w []) slot)

-- the lanes after a code was put at a slot
pub record PutsCode (old new : List (List ℕ)) (slot : ℕ) (code : List ℕ) : Type 0 where
  pub count : length new ≡ length old
  pub each : (w : ℕ) → w < length old → slice_index_or new w [] ≡ slice_set (slice_index_or old w []) slot (slice_index code w)

-- g and the codes of all blocks of a stretch
pub record Coded : Type 0 where
  pub g : ℕ
  pub codes : List (List ℕ)

-- the code at a place of a stretch, in which each block has g lanes
abbrev pub code_in : ℕ → List (List ℕ) → ℕ → List ℕ
code_in g lanes i = map (λ w. slice_index (slice_index_or lanes (i / 32 * g + w) []) (i % 32)) (numbers_below g)

unfoldable pub codes_in : ℕ → ℕ → List (List ℕ) → List (List ℕ)
codes_in g blocks lanes = map (code_in g lanes) (numbers_below (32 * blocks))

-- so many blocks of g lanes, each of 32 words
pub record IsStretch (g blocks : ℕ) (lanes : List (List ℕ)) : Type 0 where
  pub g_small : (1 ≤ g) × (g ≤ 32)
  pub size : length lanes ≡ blocks * g
  pub wide : (v : ℕ) → v < length lanes → length (slice_index_or lanes v []) ≡ 32

-- each code has g words whose unused high bits are 0
abbrev pub AreCodes : List ℕ → ℕ → List (List ℕ) → Type 0
AreCodes widths g codes = AllByRecursion (AreCodeWords widths g) codes

-- the lanes after a code was put at a slot of the block that begins with a lane
pub record PutsIn (old new : List (List ℕ)) (first slot : ℕ) (code : List ℕ) : Type 0 where
  pub count : length new ≡ length old
  pub here : (w : ℕ) → w < length code → slice_index_or new (first + w) [] ≡ slice_set (slice_index_or old (first + w) []) slot (slice_index code w)
  pub before : (v : ℕ) → v < first → slice_index_or new v [] ≡ slice_index_or old v []
  pub behind : (v : ℕ) → first + length code ≤ v → slice_index_or new v [] ≡ slice_index_or old v []

-- 32 codes of g words
pub record IsBlock (widths : List ℕ) (g : ℕ) (block : List (List ℕ)) : Type 0 where
  pub size : length block ≡ 32
  pub words : AreCodes widths g block
