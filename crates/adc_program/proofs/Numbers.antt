-- Lists over the numbers below another.
use Rattle.std.proofs.Common.{◌≡◌, ◌∙◌, ℕ, zero, suc, ◌+◌, ◌-◌, ◌≤◌, List, [], ◌∷◌, ◌++◌, map, flat_map, refl, ap, arith}
use Rattle.std.specs.List.{range_with_len}
use Rattle.std.proofs.lemmas.List.{map-append, append-nil}
use Rattle.std.proofs.lemmas.List.Concat.{flat_map-append}
use Rattle.book_model.specs.Sums.{numbers_below}

range_split : (a i m : ℕ) → range_with_len a (i + m) ≡ range_with_len a i ++ range_with_len (a + i) m
range_split a zero m =
    let e : 0 + m ≡ m = omega arith in
    let f : a + 0 ≡ a = omega arith in
    rw (e, f) refl
range_split a (suc i) m =
    let e : suc i + m ≡ suc (i + m) = omega arith in
    let f : a + suc i ≡ a + 1 + i = omega arith in
    rw (e, f) (ap (λ (l : List ℕ). a ∷ l) (range_split (a + 1) i m))

pub numbers_more : (n : ℕ) → numbers_below (n + 1) ≡ numbers_below n ++ n ∷ []
numbers_more n =
    let e : 0 + n ≡ n = omega arith in
    range_split 0 n 1 ∙ ap (λ k. numbers_below n ++ k ∷ []) e

pub numbers_split : (i n : ℕ) → i ≤ n → numbers_below n ≡ numbers_below i ++ range_with_len (0 + i) (n - i)
numbers_split i n le =
    let e : n ≡ i + (n - i) = omega arith in
    ap numbers_below e ∙ range_split 0 i (n - i)

-- one more list of a joined list, and the lists behind the first
module _ {A : Type 0} (f : ℕ → List A) where
  pub joined_more : (n : ℕ) → flat_map f (numbers_below (n + 1)) ≡ flat_map f (numbers_below n) ++ f n
  joined_more n = ap (flat_map f) (numbers_more n) ∙ flat_map-append f (numbers_below n) (n ∷ []) ∙ ap (λ (l : List A). flat_map f (numbers_below n) ++ l) (append-nil (f n))

  pub joined_rest : ℕ → ℕ → List A
  joined_rest i n = flat_map f (range_with_len (0 + i) (n - i))

  pub joined_split : (i n : ℕ) → i ≤ n → flat_map f (numbers_below n) ≡ flat_map f (numbers_below i) ++ joined_rest i n
  unfolding joined_rest
  joined_split i n le = ap (flat_map f) (numbers_split i n le) ∙ flat_map-append f (numbers_below i) (range_with_len (0 + i) (n - i))

pub mapped_more : {A : Type 0} (f : ℕ → A) (n : ℕ) → map f (numbers_below (n + 1)) ≡ map f (numbers_below n) ++ f n ∷ []
mapped_more f n = ap (map f) (numbers_more n) ∙ map-append f (numbers_below n) (n ∷ [])
