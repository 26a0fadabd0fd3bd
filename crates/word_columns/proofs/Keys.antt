-- The least key has the first of the least distances.
use Rattle.std.proofs.Common.{◌≡◌, ℕ, ◌+◌, ◌-◌, ◌%◌, ◌<◌, ◌≤◌, List, length, get_or, min, sym, ap, ◌∙◌, arith, inl, inr, eq-zero-or-pos}
use Rattle.book_model.specs.Sums.{first_least}
use Rattle.book_model.proofs.Nearest.{IsFirstLeast, first_least_unique}
use Rattle.word_columns.specs.Least.{key_at, AreLeastKeys}
use Rattle.word_columns.specs.Lanes.{HasLanes}

pub first_by_key : (ds : List ℕ) (w : ℕ) → length ds ≤ 1024 → w < length ds → ((v : ℕ) → v < length ds → key_at ds w ≤ key_at ds v) → IsFirstLeast ds w
first_by_key ds w few within least = record {
  within = within;
  least = λ k h. omega (arith, least k h);
  before = λ k h. omega (arith, least k (omega arith));
}

-- the least of the lanes' keys names the place
pub place_is : (ds lanes : List ℕ) (key : ℕ) → length ds ≤ 1024 → AreLeastKeys ds lanes → ((k : ℕ) → k < length lanes → key ≤ get_or lanes k 0)
    → ((k : ℕ) × (k < length lanes) × (key ≡ get_or lanes k 0)) → key % 1024 ≡ first_least ds
place_is ds lanes key few are least one =
    let of = are.keys one.0 (omega (arith, one.1, are.long)) in
    let w = of.0 in
    let e : key ≡ key_at ds w = one.2 ∙ of.2 in
    let below : (v : ℕ) → v < length ds → key_at ds w ≤ key_at ds v = λ v h. (
    let lane = are.least v h in
    omega (arith, e, least lane.0 (omega (arith, lane.1, are.long)), lane.2)) in
    let place : key % 1024 ≡ w = omega (arith, e, of.1, few) in
    place ∙ sym (first_least_unique ds w (first_by_key ds w few of.1 below))

-- what the lanes are after the first m distances, and the last 16
pub record AreSoFar (ds lanes : List ℕ) (m : ℕ) : Type 0 where
  pub long : length lanes ≡ 16
  pub keys : (k : ℕ) → k < 16 → (w : ℕ) × (w < length ds) × (get_or lanes k 0 ≡ key_at ds w)
  pub front : (w : ℕ) → w < m → (k : ℕ) × (k < 16) × (get_or lanes k 0 ≤ key_at ds w)
  pub last : (k : ℕ) → k < 16 → get_or lanes k 0 ≤ key_at ds (length ds - 16 + k)

pub last_first : (ds lanes : List ℕ) → 16 ≤ length ds → HasLanes 16 lanes (λ k. key_at ds (length ds - 16 + k)) → AreSoFar ds lanes 0
last_first ds lanes long are = record {
  long = are.long;
  keys = λ k h. (length ds - 16 + k, omega arith, are.each k h);
  front = λ w h. absurd (omega arith);
  last = λ k h. omega (arith, are.each k h);
}

pub one_more : (ds old new lanes : List ℕ) (m : ℕ) → m + 16 ≤ length ds → AreSoFar ds old m → HasLanes 16 new (λ k. key_at ds (m + k)) → HasLanes 16 lanes (λ k. min (get_or old k 0) (get_or new k 0)) → AreSoFar ds lanes (m + 16)
one_more ds old new lanes m room so are is = record {
  long = is.long;
  keys = λ k h. elim (eq-zero-or-pos (get_or old k 0 - get_or new k 0)) [
    | inl z ↦ (let some = so.keys k h in (some.0, some.1, omega (arith, is.each k h, z, some.2)))
    | inr p ↦ (m + k, omega arith, omega (arith, is.each k h, are.each k h, p))
  ];
  front = λ w h. elim (eq-zero-or-pos (m - w)) [
    | inl z ↦
        let k : w - m < 16 = omega (arith, z, h) in
        let e : m + (w - m) ≡ w = omega (arith, z) in
        (w - m, k, omega (arith, is.each (w - m) k, are.each (w - m) k, ap (key_at ds) e))
    | inr p ↦ (let some = so.front w (omega (arith, p)) in (some.0, some.1, omega (arith, is.each some.0 some.1, some.2)))
  ];
  last = λ k h. omega (arith, is.each k h, so.last k h);
}

pub all_are : (ds lanes : List ℕ) (m : ℕ) → length ds < m + 16 → 16 ≤ length ds → AreSoFar ds lanes m → AreLeastKeys ds lanes
all_are ds lanes m near long so = record {
  long = so.long;
  keys = so.keys;
  least = λ w h. elim (eq-zero-or-pos (m - w)) [
    | inl z ↦
        let k : w - (length ds - 16) < 16 = omega (arith, z, h) in
        let e : length ds - 16 + (w - (length ds - 16)) ≡ w = omega (arith, z) in
        (w - (length ds - 16), k, omega (arith, so.last (w - (length ds - 16)) k, ap (key_at ds) e))
    | inr p ↦ so.front w (omega (arith, p))
  ];
}
