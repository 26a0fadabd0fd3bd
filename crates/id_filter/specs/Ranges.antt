-- Ranges of ids as the pairs of their ends.
use Rattle.std.specs.Prelude.{ℕ, Bool, ◌&&◌, nat_le, List, [], ◌∷◌, map}
use Rattle.std.specs.List.{list_any}
use Rattle.book_model.specs.declared.limits.TheConstants.{MAX_ID}
use Rattle.id_filter.specs.declared.IdRange.{IdRange}
use Rattle.id_filter.specs.declared.IdRanges.{IdRanges}
use Rattle.id_filter.specs.declared.IdRanges.TheVariants.{One, Many}

-- the ends (lo, hi) of a range
abbrev pub pair_of : IdRange → ℕ × ℕ
pair_of range = (range.lo, range.hi)

-- the ends of each range
abbrev pub pairs_of : IdRanges → List (ℕ × ℕ)
pairs_of (One range) = pair_of range ∷ []
pairs_of (Many ranges) = map pair_of ranges.items

-- whether a range holds each id from 0 to the last, and whether one of these does
abbrev pub is_whole : ℕ × ℕ → Bool
is_whole range = nat_le range.0 0 && nat_le MAX_ID range.1

abbrev pub has_whole : List (ℕ × ℕ) → Bool
has_whole ranges = list_any is_whole ranges
