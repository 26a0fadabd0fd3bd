-- The pairs of rows that stand in a file, stretch by stretch and row by row.
use Rattle.std.proofs.Common.{◌≡◌, ℕ, zero, suc, ◌+◌, ◌*◌, ◌<◌, cond, List, [], ◌∷◌, ◌++◌, length, map, take, drop, get_or, Option, refl, sym, ap, ◌∙◌, arith}
use Rattle.std.specs.Prelude.{nat_lt, filter, slice_index_or}
use Rattle.std.specs.List.{enumerate_from, AllByRecursion}
use Rattle.std.specs.Option.{ForSome}
use Rattle.std.proofs.lemmas.Bool.{lt-ltb}
use Rattle.std.proofs.lemmas.List.{map-append, take_more}
use Rattle.std.proofs.Math.Seq.{drop-drop}
use Rattle.book_model.specs.Order.{Pair, sorted, pair_cmp}
use Rattle.book_model.specs.Distance.{dist}
use Rattle.vec_files.specs.Standing.{rows_standing}
use Rattle.vec_files.proofs.StandingRows.{length-rows_standing, rows_standing-add, rows_standing-take}
use Rattle.flat_truth.specs.Flat.{flat_pairs, rerank}
use Rattle.flat_truth.specs.Pairs.{near, IsReach}
use Rattle.flat_truth.proofs.Kept.{merged_with, near_are_enough}

enumerate-append : {X : Type 0} (n : ℕ) (xs ys : List X) → enumerate_from n (xs ++ ys) ≡ enumerate_from n xs ++ enumerate_from (n + length xs) ys
enumerate-append n [] ys =
    let e : n ≡ n + 0 = omega arith in
    ap (λ (k : ℕ). enumerate_from k ys) e
enumerate-append n (x ∷ xs) ys =
    let e : n + 1 + length xs ≡ n + suc (length xs) = omega arith in
    ap (λ w. (n, x) ∷ w) (enumerate-append (n + 1) xs ys ∙ ap (λ (k : ℕ). enumerate_from (n + 1) xs ++ enumerate_from k ys) e)

module _ (query : List ℕ) where
  pairs-append : (n : ℕ) (xs ys : List (List ℕ)) → flat_pairs query (enumerate_from n (xs ++ ys)) ≡ flat_pairs query (enumerate_from n xs) ++ flat_pairs query (enumerate_from (n + length xs) ys)
  pairs-append n xs ys = ap (flat_pairs query) (enumerate-append n xs ys) ∙ map-append (λ (row : ℕ × List ℕ). (dist 0 query row.1, row.0)) (enumerate_from n xs) (enumerate_from (n + length xs) ys)

  -- the pairs of some rows behind the first ones
  behind : (d n f c : ℕ) (bytes : List ℕ) → flat_pairs query (enumerate_from n (rows_standing d (f + c) bytes))
      ≡ flat_pairs query (enumerate_from n (rows_standing d f bytes)) ++ flat_pairs query (enumerate_from (n + f) (rows_standing d c (drop (f * (4 + d)) bytes)))
  behind d n f c bytes =
      ap (λ (rows : List (List ℕ)). flat_pairs query (enumerate_from n rows)) (rows_standing-add d f c bytes)
      ∙ pairs-append n (rows_standing d f bytes) (rows_standing d c (drop (f * (4 + d)) bytes))
      ∙ ap (λ (k : ℕ). flat_pairs query (enumerate_from n (rows_standing d f bytes)) ++ flat_pairs query (enumerate_from (n + k) (rows_standing d c (drop (f * (4 + d)) bytes)))) (length-rows_standing d f bytes)

  -- the pairs of one stretch more
  pub more_pairs : (d f c : ℕ) (bytes stretch : List ℕ) → stretch ≡ take (c * (4 + d)) (drop (f * (4 + d)) bytes)
      → flat_pairs query (enumerate_from 0 (rows_standing d (f + c) bytes)) ≡ flat_pairs query (enumerate_from 0 (rows_standing d f bytes)) ++ flat_pairs query (enumerate_from f (rows_standing d c stretch))
  more_pairs d f c bytes stretch is =
      let n : 0 + f ≡ f = omega arith in
      behind d 0 f c bytes
      ∙ ap (λ (k : ℕ). flat_pairs query (enumerate_from 0 (rows_standing d f bytes)) ++ flat_pairs query (enumerate_from k (rows_standing d c (drop (f * (4 + d)) bytes)))) n
      ∙ ap (λ (rows : List (List ℕ)). flat_pairs query (enumerate_from 0 (rows_standing d f bytes)) ++ flat_pairs query (enumerate_from f rows))
      (sym (ap (rows_standing d c) is ∙ rows_standing-take d c (c * (4 + d)) (drop (f * (4 + d)) bytes) (omega arith)))

  -- the pair of one row more
  pub one_more : (d f i at : ℕ) (bytes : List ℕ) → at ≡ i * (4 + d)
      → flat_pairs query (enumerate_from f (rows_standing d (i + 1) bytes)) ≡ flat_pairs query (enumerate_from f (rows_standing d i bytes)) ++ (dist 0 query (take d (drop (at + 4) bytes)), f + i) ∷ []
  unfolding rows_standing
  one_more d f i at bytes e =
      behind d f i 1 bytes
      ∙ ap (λ (row : List ℕ). flat_pairs query (enumerate_from f (rows_standing d i bytes)) ++ (dist 0 query (take d row), f + i) ∷ [])
      (drop-drop 4 (i * (4 + d)) bytes ∙ ap (λ (k : ℕ). drop (k + 4) bytes) (sym e))

-- the components of the row of this number
abbrev pub row_standing : ℕ → List ℕ → ℕ → List ℕ
row_standing d bytes row = take d (drop 4 (drop (row * (4 + d)) bytes))

pub get_or-rows_standing : (d n : ℕ) (bytes : List ℕ) (i : ℕ) → i < n → get_or (rows_standing d n bytes) i [] ≡ row_standing d bytes i
unfolding rows_standing
get_or-rows_standing d zero bytes i lt = absurd (omega arith)
get_or-rows_standing d (suc n) bytes zero lt =
    let none : 0 * (4 + d) ≡ 0 = omega arith in
    rw none refl
get_or-rows_standing d (suc n) bytes (suc i) lt =
    let place : (4 + d) + i * (4 + d) ≡ suc i * (4 + d) = omega arith in
    get_or-rows_standing d n (drop (4 + d) bytes) i (omega arith)
    ∙ ap (λ (rest : List ℕ). take d (drop 4 rest)) (drop-drop (i * (4 + d)) (4 + d) bytes ∙ ap (λ (k : ℕ). drop k bytes) place)

-- the pair of the row of this number
abbrev pub pair_standing : List ℕ → ℕ → List ℕ → ℕ → Pair
pair_standing query d bytes row = (dist 0 query (row_standing d bytes row), row)

-- the pair of a row that was fetched alone
pub pair_of_one : (query : List ℕ) (d id : ℕ) (bytes stretch : List ℕ) → stretch ≡ take (1 * (4 + d)) (drop (id * (4 + d)) bytes)
    → flat_pairs query (enumerate_from id (rows_standing d 1 stretch)) ≡ pair_standing query d bytes id ∷ []
unfolding rows_standing
pair_of_one query d id bytes stretch is =
    ap (λ (rows : List (List ℕ)). flat_pairs query (enumerate_from id rows)) (ap (rows_standing d 1) is ∙ rows_standing-take d 1 (1 * (4 + d)) (drop (id * (4 + d)) bytes) (omega arith))

-- no id is left out if each numbers a row
pairs_of_ids : (query : List ℕ) (d n : ℕ) (bytes ids : List ℕ) → AllByRecursion (λ id. id < n) ids
    → map (λ id. (dist 0 query (slice_index_or (rows_standing d n bytes) id []), id)) (filter (λ id. nat_lt id n) ids) ≡ map (pair_standing query d bytes) ids
pairs_of_ids query d n bytes [] all = refl
pairs_of_ids query d n bytes (id ∷ ids) all =
    ap (λ b. map (λ id. (dist 0 query (slice_index_or (rows_standing d n bytes) id []), id)) (cond b (id ∷ filter (λ id. nat_lt id n) ids) (filter (λ id. nat_lt id n) ids))) (lt-ltb id n all.0)
    ∙ (λ i. (dist 0 query (get_or-rows_standing d n bytes id all.0 i), id) ∷ pairs_of_ids query d n bytes ids all.1 i)

pub reranked : (query : List ℕ) (d n k : ℕ) (bytes ids : List ℕ) → AllByRecursion (λ id. id < n) ids
    → rerank (rows_standing d n bytes) query ids k ≡ take k (sorted pair_cmp (map (pair_standing query d bytes) ids))
unfolding rerank
reranked query d n k bytes ids all =
    ap (λ (m : ℕ). take k (sorted pair_cmp (map (λ id. (dist 0 query (slice_index_or (rows_standing d n bytes) id []), id)) (filter (λ id. nat_lt id m) ids)))) (length-rows_standing d n bytes)
    ∙ ap (λ (pairs : List Pair). take k (sorted pair_cmp pairs)) (pairs_of_ids query d n bytes ids all)

-- the k least after one stretch more
pub least_next : (k d f c : ℕ) (query bytes stretch : List ℕ) (held after : List Pair) (most : Option ℕ) → length query ≡ d → stretch ≡ take (c * (4 + d)) (drop (f * (4 + d)) bytes)
    → ForSome most (IsReach k held)
    → take k (sorted pair_cmp held) ≡ take k (sorted pair_cmp (flat_pairs query (enumerate_from 0 (rows_standing d f bytes))))
    → after ≡ held ++ near most (flat_pairs query (enumerate_from f (rows_standing (length query) c stretch)))
    → take k (sorted pair_cmp after) ≡ take k (sorted pair_cmp (flat_pairs query (enumerate_from 0 (rows_standing d (f + c) bytes))))
least_next k d f c query bytes stretch held after most long is reach before added =
    ap (λ (pairs : List Pair). take k (sorted pair_cmp pairs)) added
    ∙ near_are_enough k held (flat_pairs query (enumerate_from f (rows_standing (length query) c stretch))) most reach
    ∙ ap (λ (n : ℕ). take k (sorted pair_cmp (held ++ flat_pairs query (enumerate_from f (rows_standing n c stretch))))) long
    ∙ merged_with k held (flat_pairs query (enumerate_from 0 (rows_standing d f bytes))) (flat_pairs query (enumerate_from f (rows_standing d c stretch))) before
    ∙ ap (λ (pairs : List Pair). take k (sorted pair_cmp pairs)) (sym (more_pairs query d f c bytes stretch is))

-- the pairs after one chosen row more
pub pairs_next : (d i : ℕ) (query bytes stretch ids : List ℕ) (held after : List Pair) → length query ≡ d → i < length ids → stretch ≡ take (1 * (4 + d)) (drop (get_or ids i 0 * (4 + d)) bytes)
    → held ≡ map (pair_standing query d bytes) (take i ids)
    → after ≡ held ++ flat_pairs query (enumerate_from (get_or ids i 0) (rows_standing (length query) 1 stretch))
    → after ≡ map (pair_standing query d bytes) (take (i + 1) ids)
pairs_next d i query bytes stretch ids held after long lt is before added =
    added
    ∙ (λ j. before j ++ flat_pairs query (enumerate_from (get_or ids i 0) (rows_standing (long j) 1 stretch)))
    ∙ ap (λ (pairs : List Pair). map (pair_standing query d bytes) (take i ids) ++ pairs) (pair_of_one query d (get_or ids i 0) bytes stretch is)
    ∙ sym (map-append (pair_standing query d bytes) (take i ids) (get_or ids i 0 ∷ []))
    ∙ ap (map (pair_standing query d bytes)) (sym (take_more ids i 0 lt))
