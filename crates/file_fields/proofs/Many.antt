-- Numbers one after another: where they are cut, and what is made of them.
use Rattle.std.proofs.Common.{◌≡◌, ℕ, zero, suc, ◌+◌, ◌*◌, ◌<◌, ◌≤◌, List, [], ◌∷◌, ◌++◌, length, get_or, take, drop, Ok, Err, refl, sym, ap, ◌∙◌, arith, zero-add}
use Rattle.std.specs.Int.{Width, byte_len, from_le_bytes}
use Rattle.std.proofs.Math.Nat.{suc-mul, zero-mul}
use Rattle.std.proofs.lemmas.Bool.{le-ltb, lt-ltb}
use Rattle.adc_ports.specs.Reading.{Malformed, Read, ◌>>=◌, number_at, numbers_at}
use Rattle.file_fields.proofs.Steps.{bind_then, bind_same, bind_none, bind_ok}

pub number_there : (w : Width) (bytes : List ℕ) (at : ℕ) → at + byte_len w ≤ length bytes → number_at w bytes at ≡ Ok (from_le_bytes w (take (byte_len w) (drop at bytes)), at + byte_len w)
unfolding number_at
number_there w bytes at le = rw (le-ltb (length bytes) (at + byte_len w) le) refl

pub number_cut : (w : Width) (bytes : List ℕ) (at : ℕ) → length bytes < at + byte_len w → number_at w bytes at ≡ Err (Malformed at)
unfolding number_at
number_cut w bytes at lt = rw (lt-ltb (length bytes) (at + byte_len w) lt) refl

-- the first number that is cut or missing comes after k whole ones
pub numbers_cut : (w : Width) (n k : ℕ) (bytes : List ℕ) (at : ℕ) → k < n → at + k * byte_len w ≤ length bytes → length bytes < at + k * byte_len w + byte_len w → numbers_at w n bytes at ≡ Err (Malformed (at + k * byte_len w))
numbers_cut w zero k bytes at lt from to = absurd (omega arith)
numbers_cut w (suc n) zero bytes at lt from to =
    let none : zero * byte_len w ≡ 0 = zero-mul (byte_len w) in
    rw (number_cut w bytes at (omega (arith, none)), none) (ap (λ (p : ℕ). Err (Malformed p)) (omega arith))
numbers_cut w (suc n) (suc k) bytes at lt from to =
    let more : suc k * byte_len w ≡ k * byte_len w + byte_len w = suc-mul k (byte_len w) in
    rw (number_there w bytes at (omega (arith, more)), numbers_cut w n k bytes (at + byte_len w) (omega arith) (omega (arith, more)) (omega (arith, more))) (ap (λ (p : ℕ). Err (Malformed p)) (omega (arith, more)))

-- numbers are as many as were asked for
pub numbers_count : (w : Width) (n : ℕ) (bytes : List ℕ) (at : ℕ) (x : List ℕ × ℕ) → numbers_at w n bytes at ≡ Ok x → length x.0 ≡ n
numbers_count w zero bytes at x e = let same : ◌≡◌ {A = List ℕ × ℕ} ([], at) x = cc in ap (λ (y : List ℕ × ℕ). length y.0) (sym same)
numbers_count w (suc n) bytes at x e =
    let a = bind_ok (number_at w bytes at) _ x e in
    let b = bind_ok (numbers_at w n bytes a.0.1) _ x a.2 in
    let same : ◌≡◌ {A = List ℕ × ℕ} (a.0.0 ∷ b.0.0, b.0.1) x = cc in
    ap (λ (y : List ℕ × ℕ). length y.0) (sym same) ∙ ap suc (numbers_count w n bytes a.0.1 b.0 b.1)

-- what is made of a value
abbrev pub made : {A B : Type 0} → (A → B) → Read A → Read B
made f r = r >>= λ x. Ok (f x.0, x.1)

-- numbers are read in two parts
pub numbers_add : (w : Width) (n m : ℕ) (bytes : List ℕ) (at : ℕ) → numbers_at w (n + m) bytes at ≡ (numbers_at w n bytes at >>= λ x. made (λ ys. x.0 ++ ys) (numbers_at w m bytes x.1))
numbers_add w zero m bytes at = ap (λ (k : ℕ). numbers_at w k bytes at) (zero-add m) ∙ sym (bind_none (numbers_at w m bytes at))
numbers_add w (suc n) m bytes at =
    let e : suc n + m ≡ suc (n + m) = omega arith in
    ap (λ (k : ℕ). numbers_at w k bytes at) e
    ∙ bind_same (number_at w bytes at) _ _ (λ x is.
    ap (made (λ xs. x.0 ∷ xs)) (numbers_add w n m bytes x.1) ∙ bind_then (numbers_at w n bytes x.1) _ _
    ∙ bind_same (numbers_at w n bytes x.1) _ _ (λ y is. bind_then (numbers_at w m bytes y.1) _ _) ∙ sym (bind_then (numbers_at w n bytes x.1) _ _))
    ∙ sym (bind_then (number_at w bytes at) _ _)

-- a value and others behind it, made of numbers each, are made of all numbers
pub made_pair : {A : Type 0} (w : Width) (bytes : List ℕ) (n m : ℕ) (f : List ℕ → A) (g h : List ℕ → List A) (first : ℕ → Read A) (others : ℕ → Read (List A))
    → ((at : ℕ) → first at ≡ made f (numbers_at w n bytes at)) → ((at : ℕ) → others at ≡ made g (numbers_at w m bytes at))
    → ((xs ys : List ℕ) → length xs ≡ n → h (xs ++ ys) ≡ f xs ∷ g ys)
    → (at : ℕ) → (first at >>= λ x. others x.1 >>= λ xs. Ok (x.0 ∷ xs.0, xs.1)) ≡ made h (numbers_at w (n + m) bytes at)
made_pair {A} w bytes n m f g h first others of_first of_others cut at =
    let behind : A × ℕ → Read (List A) = λ x. made (λ xs. x.0 ∷ xs) (others x.1) in
    let taken : List ℕ × ℕ → Read A = λ x. Ok (f x.0, x.1) in
    let last : List ℕ × ℕ → Read (List A) = λ x. Ok (h x.0, x.1) in
    let joined : List ℕ × ℕ → Read (List ℕ) = λ x. made (λ ys. x.0 ++ ys) (numbers_at w m bytes x.1) in
    ap (λ (r : Read A). r >>= behind) (of_first at) ∙ bind_then (numbers_at w n bytes at) taken behind
    ∙ bind_same (numbers_at w n bytes at) (λ x. taken x >>= behind) (λ x. joined x >>= last) (λ x is.
    let cons : List A × ℕ → Read (List A) = λ xs. Ok (f x.0 ∷ xs.0, xs.1) in
    let of_others_is : List ℕ × ℕ → Read (List A) = λ y. Ok (g y.0, y.1) in
    let append : List ℕ × ℕ → Read (List ℕ) = λ y. Ok (x.0 ++ y.0, y.1) in
    ap (λ (r : Read (List A)). r >>= cons) (of_others x.1) ∙ bind_then (numbers_at w m bytes x.1) of_others_is cons
    ∙ bind_same (numbers_at w m bytes x.1) (λ y. of_others_is y >>= cons) (λ y. append y >>= last) (λ y also. ap (λ (zs : List A). Ok (zs, y.1)) (sym (cut x.0 y.0 (numbers_count w n bytes at x is))))
    ∙ sym (bind_then (numbers_at w m bytes x.1) append last))
    ∙ sym (bind_then (numbers_at w n bytes at) joined last) ∙ ap (made h) (sym (numbers_add w n m bytes at))

-- numbers of which each is the one that stands at its place
pub numbers_are : (w : Width) (xs bytes : List ℕ) (at : ℕ) → at + length xs * byte_len w ≤ length bytes
    → ((k : ℕ) → k < length xs → get_or xs k 0 ≡ from_le_bytes w (take (byte_len w) (drop (at + k * byte_len w) bytes))) → numbers_at w (length xs) bytes at ≡ Ok (xs, at + length xs * byte_len w)
numbers_are w [] bytes at le each =
    let none : 0 * byte_len w ≡ 0 = zero-mul (byte_len w) in
    ap (λ (k : ℕ). Ok ([], k)) (omega (arith, none))
numbers_are w (x ∷ xs) bytes at le each =
    let more : (k : ℕ) → suc k * byte_len w ≡ k * byte_len w + byte_len w = λ k. suc-mul k (byte_len w) in
    let number : ℕ → ℕ = λ place. from_le_bytes w (take (byte_len w) (drop place bytes)) in
    let first : number at ≡ x = sym (each 0 (omega arith) ∙ ap number (omega (arith, zero-mul (byte_len w)))) in
    let others = numbers_are w xs bytes (at + byte_len w) (omega (arith, more (length xs))) (λ k lt. each (suc k) (omega arith) ∙ ap number (omega (arith, more k))) in
    rw (number_there w bytes at (omega (arith, more (length xs))), others, first) (ap (λ (k : ℕ). Ok (x ∷ xs, k)) (omega (arith, more (length xs))))
