-- The vector operations, lane by lane.
use Rattle.std.proofs.Common.{◌≡◌, ℕ, zero, suc, ◌+◌, ◌-◌, ◌*◌, ◌%◌, ◌^◌, ◌<◌, Bool, true, false, cond, ◌&&◌, eqb, ltb, ltb-true, ltb-false, min, w64, T, List, [], ◌∷◌, ◌++◌, map, length, get_or, replicate, refl, sym, ap, ap₂, ◌∙◌, subst, inl, inr, arith, eqb→eq, eq-zero-or-pos}
use Rattle.std.proofs.lemmas.List.{get_or-map, get_or_append_left, length-map}
use Rattle.std.proofs.lemmas.Simd.{get_or-zip2, get_or-replicate, length-zip2, length-replicate, tops_compared, get_or-sel_l, length-sel_l}
use lib.Ieee.Fits.{and_l, and_r}
use lib.Lanes.{zip2, pick_l, sel_l, top}
use Rattle.word_columns.specs.Lanes.{HasLanes}

-- a test that holds of each number below n
abbrev all_below : (ℕ → Bool) → ℕ → Bool
all_below p zero = true
all_below p (suc n) = p n && all_below p n

every_below : (p : ℕ → Bool) (n : ℕ) → T (all_below p n) → (i : ℕ) → i < n → T (p i)
every_below p zero h i l = absurd (omega arith)
every_below p (suc n) h i l =
    elim (eq-zero-or-pos (n - i)) [
      | inl z ↦ let e : n ≡ i = omega arith in subst (λ x. T (p x)) e (and_l _ _ h)
      | inr g ↦ every_below p n (and_r (p n) _ h) i (omega arith)
    ]

-- an operation on two vectors, of whose lanes f and g tell
pub lanes_of : (n : ℕ) (o : ℕ → ℕ → ℕ) (f g : ℕ → ℕ) (xs ys : List ℕ) → HasLanes n xs f → HasLanes n ys g → HasLanes n (zip2 o xs ys) (λ k. o (f k) (g k))
lanes_of n o f g xs ys p q = record {
  long = length-zip2 o xs ys (p.long ∙ sym q.long) ∙ p.long;
  each = λ k h. get_or-zip2 o xs ys k 0 0 0 (omega (arith, p.long)) (omega (arith, q.long)) ∙ ap₂ o (p.each k h) (q.each k h);
}

pub same : (n : ℕ) (xs : List ℕ) → length xs ≡ n → HasLanes n xs (λ k. get_or xs k 0)
same n xs e = record { long = e; each = λ k h. refl }

pub splat : (n y : ℕ) → HasLanes n (replicate n y) (λ k. y)
splat n y = record { long = length-replicate n y; each = λ k h. get_or-replicate n k y 0 h }

pub mapped : (n : ℕ) (o : ℕ → ℕ) (f : ℕ → ℕ) (xs : List ℕ) → HasLanes n xs f → HasLanes n (map o xs) (λ k. o (f k))
mapped n o f xs p = record { long = length-map xs o ∙ p.long; each = λ k h. get_or-map o xs k 0 0 (omega (arith, p.long)) ∙ ap o (p.each k h) }

pub other : (n : ℕ) (f g : ℕ → ℕ) (xs : List ℕ) → ((k : ℕ) → k < n → f k ≡ g k) → HasLanes n xs f → HasLanes n xs g
other n f g xs e p = record { long = p.long; each = λ k h. p.each k h ∙ e k h }

-- ---- a choice of lanes by a list of places

abbrev pub twos : List ℕ
twos = 0 ∷ 1 ∷ 0 ∷ 1 ∷ 0 ∷ 1 ∷ 0 ∷ 1 ∷ 0 ∷ 1 ∷ 0 ∷ 1 ∷ 0 ∷ 1 ∷ 0 ∷ 1 ∷ 0 ∷ 1 ∷ 0 ∷ 1 ∷ 0 ∷ 1 ∷ 0 ∷ 1 ∷ 0 ∷ 1 ∷ 0 ∷ 1 ∷ 0 ∷ 1 ∷ 0 ∷ 1 ∷ []

abbrev pub evens : List ℕ
evens = 0 ∷ 2 ∷ 4 ∷ 6 ∷ 8 ∷ 10 ∷ 12 ∷ 14 ∷ 16 ∷ 18 ∷ 20 ∷ 22 ∷ 24 ∷ 26 ∷ 28 ∷ 30 ∷ []

abbrev pub odds : List ℕ
odds = 1 ∷ 3 ∷ 5 ∷ 7 ∷ 9 ∷ 11 ∷ 13 ∷ 15 ∷ 17 ∷ 19 ∷ 21 ∷ 23 ∷ 25 ∷ 27 ∷ 29 ∷ 31 ∷ []

-- lane k of what is picked is lane `at k` of the vector
picked : (m : ℕ) (t : List ℕ) (ks : List ℕ) (at : ℕ → ℕ) → length ks ≡ m → T (all_below (λ i. eqb (get_or ks i 0) (at i)) m) → ((k : ℕ) → k < m → at k < length t)
    → (k : ℕ) → k < m → get_or (pick_l 0 (t ++ t) ks) k 0 ≡ get_or t (at k) 0
picked m t ks at long is within k h =
    get_or-map (λ i. get_or (t ++ t) i 0) ks k 0 0 (omega (arith, long))
    ∙ ap (λ i. get_or (t ++ t) i 0) (eqb→eq _ _ (every_below (λ i. eqb (get_or ks i 0) (at i)) m is k h))
    ∙ get_or_append_left t t 0 (at k) (within k h)

pub spread_lanes : (pair : List ℕ) → length pair ≡ 2 → HasLanes 32 (pick_l 0 (map (λ (a : ℕ). a) pair ++ map (λ (a : ℕ). a) pair) twos) (λ k. get_or pair (k % 2) 0)
spread_lanes pair long = record {
  long = refl;
  each = λ k h.
      let t = map (λ (a : ℕ). a) pair in
      let size = length-map pair (λ (a : ℕ). a) in
      picked 32 t twos (λ i. i % 2) refl tt (λ i _. omega (arith, size, long)) k h ∙ get_or-map (λ (a : ℕ). a) pair (k % 2) 0 0 (omega (arith, long));
}

pub spread_signed_lanes : (pair : List ℕ) → length pair ≡ 2 → HasLanes 32 (pick_l 0 (pair ++ pair) twos) (λ k. get_or pair (k % 2) 0)
spread_signed_lanes pair long = record { long = refl; each = picked 32 pair twos (λ i. i % 2) refl tt (λ i _. omega (arith, long)) }

abbrev pub plus : ℕ → ℕ → ℕ
plus a b = (a + b) % 2 ^ 32

pub pair_sum_lanes : (v : List ℕ) → length v ≡ 32 → HasLanes 16 (zip2 plus (pick_l 0 (v ++ v) evens) (pick_l 0 (v ++ v) odds)) (λ k. (get_or v (2 * k) 0 + get_or v (2 * k + 1) 0) % 4294967296)
pair_sum_lanes v long =
    lanes_of 16 plus (λ k. get_or v (2 * k) 0) (λ k. get_or v (2 * k + 1) 0) (pick_l 0 (v ++ v) evens) (pick_l 0 (v ++ v) odds)
    (record { long = refl; each = picked 16 v evens (λ i. 2 * i) refl tt (λ i h. omega (arith, long)) })
    (record { long = refl; each = picked 16 v odds (λ i. 2 * i + 1) refl tt (λ i h. omega (arith, long)) })

pub sums_wrap : (s a b : ℕ) → (s + (a % 4294967296 + b % 4294967296) % 4294967296) % 4294967296 ≡ (s + (a + b)) % 4294967296
sums_wrap s a b = omega arith

-- v's lanes are those of u
pub through : (n : ℕ) (v u : List ℕ) (f : ℕ → ℕ) → HasLanes n v (λ k. get_or u k 0) → HasLanes n u f → HasLanes n v f
through n v u f p q = record { long = p.long; each = λ k h. p.each k h ∙ q.each k h }

abbrev pub firsts : List ℕ
firsts = 0 ∷ 1 ∷ 2 ∷ 3 ∷ 4 ∷ 5 ∷ 6 ∷ 7 ∷ 8 ∷ 9 ∷ 10 ∷ 11 ∷ 12 ∷ 13 ∷ 14 ∷ 15 ∷ []

pub counting : HasLanes 16 firsts (λ k. k)
counting = record { long = refl; each = λ k h. eqb→eq _ _ (every_below (λ i. eqb (get_or firsts i 0) i) 16 tt k h) }

-- ---- the lesser of two

chosen : (x y : ℕ) → cond (ltb x y) x y ≡ min x y
chosen x y = go (ltb x y) refl
  where
    go : (t : Bool) → ltb x y ≡ t → cond t x y ≡ min x y
    go true e = omega (arith, ltb-true _ _ e)
    go false e = omega (arith, ltb-false _ _ e)

pub lesser_lanes : (xs ys : List ℕ) → length xs ≡ 16 → length ys ≡ 16
    → HasLanes 16 (sel_l (map (top 63) (zip2 (λ a b. cond (ltb a b) (2 ^ 64 - 1) 0) xs ys)) xs ys) (λ k. min (get_or xs k 0) (get_or ys k 0))
lesser_lanes xs ys p q =
    let ms : List Bool = zip2 ltb xs ys in
    let size : length ms ≡ 16 = length-zip2 ltb xs ys (p ∙ sym q) ∙ p in
    subst (λ (m : List Bool). HasLanes 16 (sel_l m xs ys) (λ k. min (get_or xs k 0) (get_or ys k 0))) (sym (tops_compared w64 ltb xs ys)) (record {
      long = length-sel_l ms xs ys (size ∙ sym p) (size ∙ sym q) ∙ size;
      each = λ k h.
          get_or-sel_l ms xs ys k 0 (omega (arith, size)) (omega (arith, p)) (omega (arith, q))
          ∙ ap (λ t. cond t (get_or xs k 0) (get_or ys k 0)) (get_or-zip2 ltb xs ys k 0 0 false (omega (arith, p)) (omega (arith, q))) ∙ chosen (get_or xs k 0) (get_or ys k 0);
    })
