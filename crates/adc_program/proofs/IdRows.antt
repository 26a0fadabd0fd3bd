-- Rows of ids, place by place.
use Rattle.std.proofs.Common.{◌≡◌, ◌∙◌, ℕ, ◌+◌, ◌-◌, ◌<◌, ◌≤◌, List, [], ◌∷◌, ◌++◌, length, map, flat_map, take, get_or, set, inl, inr, nat_lt, sym, ap, ap₂, subst, arith}
use Rattle.std.specs.Prelude.{ℤ, pos, negsuc, replicate, ◌==◌}
use Rattle.std.specs.List.{AllByRecursion}
use Rattle.std.proofs.lemmas.Bool.{cases_Bool, ltb-true, ltb-false}
use Rattle.std.proofs.lemmas.List.{length-map, length-append, length-replicate, take_more, take_more_set, get_or-map, get_or_append_left, get_or-append_right, get_or-replicate, get_or_past, take_all, take-append-le, length-take}
use Rattle.book_model.specs.Order.{Pair, sorted, pair_cmp}
use Rattle.book_model.specs.Book.{Book}
use Rattle.book_model.specs.Rows.{Row, in_ranges, passing, rows_in}
use Rattle.book_model.specs.Visit.{Query, visit, visited}
use Rattle.book_model.specs.Answer.{table_distance, pairs_of, answer}
use Rattle.book_model.proofs.AllLemmas.{all_at, all_append, all_filter, all_map, all_take}
use Rattle.book_model.proofs.Sorting.{all-sorted}
use Rattle.best_k.specs.declared.Pair.{Pair as Hit}
use Rattle.best_k.specs.Least.{key_of}
use Rattle.flat_truth.specs.Flat.{padded}

-- the ids of hits
abbrev pub ids_of : List Hit → List ℕ
ids_of hits = map (λ (pair : Pair). pair.1) (map key_of hits)

pub length-ids : (hits : List Hit) → length (ids_of hits) ≡ length hits
length-ids hits = length-map (map key_of hits) _ ∙ length-map hits key_of

pub get_or-ids : (hits : List Hit) (i : ℕ) (d : Hit) → i < length hits → get_or (ids_of hits) i 0 ≡ (get_or hits i d).id
get_or-ids hits i d lt = get_or-map (λ (pair : Pair). pair.1) (map key_of hits) i (key_of d) 0 (omega (arith, length-map hits key_of)) ∙ ap (λ (pair : Pair). pair.1) (get_or-map key_of hits i d (key_of d) lt)

-- an id among hits whose ids are small
pub id_small : (most : ℕ) (hits : List Hit) (i : ℕ) (d : Hit) → AllByRecursion (λ (pair : Pair). pair.1 ≤ most) (map key_of hits) → i < length hits → (get_or hits i d).id ≤ most
id_small most hits i d all lt =
    subst (λ (pair : Pair). pair.1 ≤ most) (get_or-map key_of hits i d (key_of d) lt) (all_at (λ (pair : Pair). pair.1 ≤ most) (map key_of hits) i (key_of d) all (omega (arith, length-map hits key_of)))

module _ (k : ℕ) (ids : List ℕ) where
  pub length-padded : length ids ≤ k → length (padded k ids) ≡ k
  length-padded few = omega (arith, length-append (map pos ids) (replicate (k - length ids) (negsuc 0)), length-map ids pos, length-replicate (k - length ids) (negsuc 0))

  pub get_or-padded : (i : ℕ) → length ids ≤ k → i < k → get_or (padded k ids) i (negsuc 0) ≡ get_or (map pos ids) i (negsuc 0)
  get_or-padded i few lt = elim (cases_Bool (nat_lt i (length ids))) [
    | inl within ↦ get_or_append_left (map pos ids) (replicate (k - length ids) (negsuc 0)) (negsuc 0) i (omega (arith, length-map ids pos, ltb-true i (length ids) within))
    | inr past ↦ (let far : length ids ≤ i = ltb-false i (length ids) past in
        get_or-append_right (map pos ids) (replicate (k - length ids) (negsuc 0)) (length ids) i (negsuc 0) (length-map ids pos) far
        ∙ get_or-replicate (k - length ids) (i - length ids) (negsuc 0) (negsuc 0) (omega arith)
        ∙ sym (get_or_past (map pos ids) i (negsuc 0) (omega (arith, length-map ids pos))))
  ]

-- one more place of a row that is to be another
pub place_set : (row all : List ℤ) (i : ℕ) (v : ℤ) → i < length row → i < length all → take i row ≡ take i all → v ≡ get_or all i (negsuc 0) → take (i + 1) (set row i v) ≡ take (i + 1) all
place_set row all i v lt lt1 same is = take_more_set row i v lt ∙ ap₂ (λ (l : List ℤ) (x : ℤ). l ++ x ∷ []) same is ∙ sym (take_more all i (negsuc 0) lt1)

pub places_all : (row all : List ℤ) (i : ℕ) → i ≡ length row → length all ≡ length row → take i row ≡ take i all → row ≡ all
places_all row all i end size same = sym (take_all i row (omega arith)) ∙ same ∙ take_all i all (omega arith)

pub get_or-signed_ids : (hits : List Hit) (i : ℕ) (d : Hit) → i < length hits → get_or (map pos (ids_of hits)) i (negsuc 0) ≡ pos (get_or hits i d).id
get_or-signed_ids hits i d lt = get_or-map pos (ids_of hits) i 0 (negsuc 0) (omega (arith, length-ids hits)) ∙ ap pos (get_or-ids hits i d lt)

-- the ids of an answer are ids of rows
all_joined : {X Y : Type 0} (P : Y → Type 0) (f : X → List Y) (xs : List X) → ((x : X) → AllByRecursion P (f x)) → AllByRecursion P (flat_map f xs)
all_joined P f [] each = tt
all_joined P f (x ∷ xs) each = all_append P (f x) (flat_map f xs) (each x) (all_joined P f xs each)

pub visited_small : (book : Book) (query : Query) (rows : List Row) → AllByRecursion (λ (row : Row). row.id ≤ 2147483647) rows → AllByRecursion (λ (row : Row). row.id ≤ 2147483647) (visited book query rows)
unfolding visited
visited_small book query rows small =
    let Small : Row → Type 0 = λ row. row.id ≤ 2147483647 in
    let pass = all_filter Small (λ row. in_ranges query.ranges row.id) rows small in
    all_joined Small (λ (cell : Pair). rows_in cell.1 (passing query.ranges rows)) (visit book query rows) (λ cell. all_filter Small (λ row. row.cell == cell.1) (passing query.ranges rows) pass)

pub answer_small : (book : Book) (query : Query) (rows : List Row) → AllByRecursion (λ (row : Row). row.id ≤ 2147483647) rows → AllByRecursion (λ (pair : Pair). pair.1 ≤ 2147483647) (answer book query rows)
unfolding answer
answer_small book query rows small =
    let Small : Pair → Type 0 = λ pair. pair.1 ≤ 2147483647 in
    let seen = visited book query rows in
    all_take Small query.k (sorted pair_cmp (pairs_of book query.vector seen)) (all-sorted Small pair_cmp (pairs_of book query.vector seen)
    (all_map Small (λ (row : Row). (table_distance book query.vector row.code, row.id)) seen (visited_small book query rows small)))

pub answer_few : (book : Book) (query : Query) (rows : List Row) → length (answer book query rows) ≤ query.k
unfolding answer
answer_few book query rows = omega (arith, length-take query.k (sorted pair_cmp (pairs_of book query.vector (visited book query rows))))

-- a row that was written into room of its size
pub whole_ids : (n : ℕ) (row rest : List ℤ) → n ≡ length row → take n (row ++ rest) ≡ row
whole_ids n row rest size = take-append-le n row rest (omega (arith, size)) ∙ take_all n row (omega (arith, size))
