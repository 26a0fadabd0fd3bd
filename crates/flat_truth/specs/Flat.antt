-- Exact search, reranking and recall.
use Rattle.std.specs.Prelude.{ℕ, ◌+◌, ◌-◌, Bool, false, List, [], ◌∷◌, ◌++◌, length, map, take, filter, replicate, nat_lt, slice_index_or, ℤ, pos, negsuc, if◌then◌else◌}
use Rattle.std.specs.List.{enumerate_from, list_any}
use Rattle.std.specs.Ordering.{int_eq}
use Rattle.book_model.specs.Order.{Pair, sorted, pair_cmp}
use Rattle.book_model.specs.Distance.{dist}

-- numbered base rows as (squared distance, row number); each component counts as it is
abbrev pub flat_pairs : List ℕ → List (ℕ × List ℕ) → List Pair
flat_pairs query rows = map (λ row. (dist 0 query row.1, row.0)) rows

-- the k nearest of all base rows by (distance, row number), or all of them if there are fewer (ties by number are this project's rule)
unfoldable pub exact : List (List ℕ) → List ℕ → ℕ → List Pair
exact base query k = take k (sorted pair_cmp (flat_pairs query (enumerate_from 0 base)))

-- the k nearest of the base rows that these ids number; an id that numbers none is left out
unfoldable pub rerank : List (List ℕ) → List ℕ → List ℕ → ℕ → List Pair
rerank base query ids k =
    take k (sorted pair_cmp (map (λ id. (dist 0 query (slice_index_or base id []), id)) (filter (λ id. nat_lt id (length base)) ids)))

-- a row of k numbers: these, and -1 for each that is missing
abbrev pub padded : ℕ → List ℕ → List ℤ
padded k ids = map pos ids ++ replicate (k - length ids) (negsuc 0)

-- whether the nearest neighbour, the first number of the truth, is one of the first k that were found; a negative number is none
unfoldable pub is_hit : ℕ → List ℤ → List ℤ → Bool
is_hit k found [] = false
is_hit k found (pos id ∷ truth) = list_any (λ number. int_eq number (pos id)) (take k found)
is_hit k found (negsuc n ∷ truth) = false

-- how many queries are hits; there is a row of both for each: recall at k
abbrev pub hits_in : ℕ → List (List ℤ) → List (List ℤ) → ℕ
hits_in k (found ∷ founds) (truth ∷ truths) = (if is_hit k found truth then 1 else 0) + hits_in k founds truths
hits_in k founds truths = 0
