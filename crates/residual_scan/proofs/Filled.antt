-- A cache into which each slot was put.
use Rattle.std.proofs.Common.{◌≡◌, ℕ, zero, suc, ◌-◌, ◌<◌, ◌≤◌, false, List, [], ◌∷◌, length, refl, ap, ◌∙◌, nat_eq, arith}
use Rattle.std.specs.Prelude.{None}
use Rattle.std.specs.List.{AllByRecursion}
use Rattle.std.specs.Map.{lookup_entry}
use Rattle.std.proofs.lemmas.Bool.{ne_eqb}
use Rattle.std.proofs.lemmas.List.{take_all}
use Rattle.lru.specs.LruCache.{LruCache, put_entries}

-- slots 0 to n - 1, the last first
abbrev pub filled : ℕ → List (ℕ × ℕ)
filled zero = []
filled (suc n) = (n, 0) ∷ filled n

pub length-filled : (n : ℕ) → length (filled n) ≡ n
length-filled zero = refl
length-filled (suc n) = omega (arith, length-filled n)

pub absent : (n m : ℕ) → n ≤ m → lookup_entry (nat_eq m) (filled n) ≡ None
absent zero m le = refl
absent (suc n) m le =
    let ne : nat_eq m n ≡ false = ne_eqb m n (omega arith) in
    rw ne (absent n m (omega arith))

pub below_filled : (m n : ℕ) → m ≤ n → AllByRecursion (λ (e : ℕ × ℕ). e.0 < n) (filled m)
below_filled zero n le = tt
below_filled (suc m) n le = (omega arith, below_filled m n (omega arith))

pub put_filled : (c : LruCache ℕ ℕ) (n : ℕ) → c.entries ≡ filled n → n < c.cap → put_entries nat_eq c n 0 ≡ filled (suc n)
put_filled c n is room =
    let none : lookup_entry (nat_eq n) c.entries ≡ None = ap (lookup_entry (nat_eq n)) is ∙ absent n n (omega arith) in
    let long : length c.entries ≡ n = ap length is ∙ length-filled n in
    rw none (ap (λ es. (n, 0) ∷ es) (take_all (c.cap - 1) c.entries (omega (arith, long, room)) ∙ is))
