-- What a kept filter stands for.
use Rattle.std.specs.Prelude.{◌≡◌, ◌≤◌, ℕ, Bool, List}
use Rattle.std.specs.Fn.{Shared}
use Rattle.book_model.specs.declared.limits.TheConstants.{MAX_ID}
use Rattle.book_model.specs.Rows.{in_ranges}
use Rattle.id_filter.specs.Ranges.{pairs_of}
use Rattle.id_filter.specs.declared.KeptFilter.{KeptFilter}

-- the ends (lo, hi) of its ranges
abbrev pub ranges_of : {F : Type 0} → KeptFilter F → List (ℕ × ℕ)
ranges_of filter = pairs_of filter.ranges

-- at each id the closure may be called, and answers whether one of the ranges has the id
pub record IsKept {F : Type 0} (calls : Shared F (ℕ × Unit {0}) Bool) (filter : KeptFilter F) : Type 0 where
  pub callable : (id : ℕ) → id ≤ MAX_ID → calls.pre filter.allows (id, tt)
  pub exact : (id : ℕ) (answer : Bool) → id ≤ MAX_ID → calls.post filter.allows (id, tt) answer → answer ≡ in_ranges (ranges_of filter) id
