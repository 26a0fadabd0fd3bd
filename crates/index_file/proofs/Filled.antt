-- A store of nothing but live rows: what it shows, and one row more.
use Rattle.std.proofs.Common.{◌≡◌, ℕ, ◌+◌, ◌≤◌, ◌<◌, Bool, true, cond, List, [], ◌∷◌, ◌++◌, length, map, filter, refl, sym, ap, ◌∙◌, arith}
use Rattle.std.specs.List.{AllByRecursion}
use Rattle.std.proofs.lemmas.Bool.{le-leb, lt-ltb}
use Rattle.std.proofs.lemmas.List.{length-map, length-append, map-append}
use Rattle.book_model.specs.Rows.{Row}
use Rattle.cell_store.specs.State.{Kept, Store, never, live_rows, lives_at, inserted}
use Rattle.index_file.specs.declared.sizes.Sizes.{Sizes}
use Rattle.index_file.specs.Ahead.{IsFilled}

abbrev AllLive : ℕ → List Kept → Type 0
AllLive stamp kept = AllByRecursion (λ k. (k.born ≤ stamp) × (k.died ≡ never)) kept

lives : (s : ℕ) (k : Kept) → k.born ≤ s → s < never → k.died ≡ never → lives_at s k ≡ true
lives s k born lt died = rw (le-leb k.born s born, died, lt-ltb s never lt) refl

all_live : (s stamp : ℕ) (kept : List Kept) → stamp ≤ s → s < never → AllLive stamp kept → filter (lives_at s) kept ≡ kept
all_live s stamp [] le lt all = refl
all_live s stamp (k ∷ ks) le lt all =
    ap (λ (b : Bool). cond b (k ∷ filter (lives_at s) ks) (filter (lives_at s) ks)) (lives s k (omega (arith, all.0.0)) lt all.0.1)
    ∙ ap (λ (w : List Kept). k ∷ w) (all_live s stamp ks le lt all.1)

all_more : (stamp : ℕ) (row : Row) (kept : List Kept) → AllLive stamp kept → AllLive (stamp + 1) (kept ++ record { row = row; born = stamp + 1; died = never } ∷ [])
all_more stamp row [] all = ((omega arith, refl), tt)
all_more stamp row (k ∷ ks) all = ((omega (arith, all.0.0), all.0.1), all_more stamp row ks all.1)

pub filled_rows : (sizes : Sizes) (store : Store) → IsFilled sizes store → length store.kept ≤ 4194304 → live_rows store ≡ map (λ k. k.row) store.kept
filled_rows sizes store is few = ap (map (λ (k : Kept). k.row)) (all_live store.stamp store.stamp store.kept (omega arith) (omega (arith, is.stamp)) is.each)

-- the stamp is the number of rows
pub filled_count : (sizes : Sizes) (store : Store) → IsFilled sizes store → length store.kept ≤ 4194304 → store.stamp ≡ length (live_rows store)
filled_count sizes store is few = is.stamp ∙ sym (ap length (filled_rows sizes store is few) ∙ length-map store.kept (λ (k : Kept). k.row))

pub filled_inserted : (sizes : Sizes) (store : Store) (row : Row) → IsFilled sizes store → IsFilled sizes (inserted store row)
filled_inserted sizes store row is = record {
  g = is.g;
  cells = is.cells;
  most = is.most;
  pins = is.pins;
  stamp = omega (arith, is.stamp, length-append store.kept (record { row = row; born = store.stamp + 1; died = never } ∷ []));
  each = all_more store.stamp row store.kept is.each;
}

pub live_inserted : (sizes : Sizes) (store : Store) (row : Row) → IsFilled sizes store → length store.kept < 4194304 → live_rows (inserted store row) ≡ live_rows store ++ row ∷ []
live_inserted sizes store row is few =
    let new : Kept = record { row = row; born = store.stamp + 1; died = never } in
    ap (map (λ (k : Kept). k.row)) (all_live (store.stamp + 1) (store.stamp + 1) (store.kept ++ new ∷ []) (omega arith) (omega (arith, is.stamp)) (all_more store.stamp row store.kept is.each))
    ∙ map-append (λ (k : Kept). k.row) store.kept (new ∷ [])
    ∙ sym (ap (λ (rows : List Row). rows ++ row ∷ []) (filled_rows sizes store is (omega arith)))
