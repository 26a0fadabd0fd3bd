-- What was read or written up to a place, and one more read or write.
use Rattle.std.proofs.Common.{◌≡◌, ℕ, ◌+◌, ◌-◌, min, Bool, ◌||◌, List, [], ◌∷◌, ◌++◌, map, Option, None, Some, Result, Ok, Err, OnErr, arith, refl, length, take, drop, slice_range, sym, ap, ◌∙◌, subst}
use Rattle.std.specs.List.{list_any}
use Rattle.std.specs.Io.KnownBytes.{Appends, Consumes, Keeps}
use Rattle.std.proofs.KnownBytes.{Appends-trans, Consumes-trans, Consumes-kept}
use Rattle.std.proofs.lemmas.List.{take_rest, take_min}
use lib.Seq.{take-add, take-append-le, take-append-add}
use Rattle.adc_ports.specs.Files.{AddsPrefix}

pub more_written : (a b c : Option (List ℕ)) (bytes : List ℕ) (at n : ℕ) → Appends a b (take at bytes) → Appends b c (take n (take (length bytes - at) (drop at bytes))) → Appends a c (take (at + n) bytes)
more_written a b c bytes at n before now =
    subst (Appends a c) (ap (λ xs. take at bytes ++ take n xs) (take_rest bytes at) ∙ sym (take-add at n bytes)) (Appends-trans a b c _ _ before now)

pub kept_written : (a b c : Option (List ℕ)) (bytes : List ℕ) → Appends a b bytes → Keeps b c → Appends a c bytes
kept_written None b c bytes before now = tt
kept_written (Some x) None c bytes before now = absurd before
kept_written (Some x) (Some y) None bytes before now = absurd now
kept_written (Some x) (Some y) (Some z) bytes before now = now ∙ before

pub more_read : (a b c : Option (List ℕ)) (old new : List ℕ) (at n : ℕ) → take at new ≡ take at old → Consumes a b (take at old) → Consumes b c (slice_range new at (at + n)) → Consumes a c (take (at + n) new)
more_read a b c old new at n front before now =
    let span : (at + n) - at ≡ n = omega arith in
    subst (Consumes a c)
    (ap (λ xs. xs ++ take ((at + n) - at) (drop at new)) (sym front) ∙ ap (λ k. take at new ++ take k (drop at new)) span ∙ sym (take-add at n new))
    (Consumes-trans a b c _ _ before now)

pub kept_read : (a b c : Option (List ℕ)) (old new : List ℕ) (at : ℕ) → new ≡ old → Consumes a b (take at old) → Keeps b c → Consumes a c (take at new)
kept_read a b c old new at same before now = subst (λ (xs : List ℕ). Consumes a c (take at xs)) (sym same) (Consumes-kept a b c _ before now)

pub any_of_map : {X Y : Type 0} (p : X → Bool) (h : Y → X) (ys : List Y) → list_any p (map h ys) ≡ list_any (λ y. p (h y)) ys
any_of_map p h [] = refl
any_of_map p h (y ∷ ys) = ap (λ b. p (h y) || b) (any_of_map p h ys)

-- the first bytes of some are the first of them and more
pub prefix_of_more : (a b : Option (List ℕ)) (xs ys : List ℕ) → AddsPrefix a b xs → AddsPrefix a b (xs ++ ys)
prefix_of_more a b xs ys p =
    (min p.0 (length xs), subst (Appends a b) (sym (take-append-le (min p.0 (length xs)) xs ys (omega arith) ∙ take_min p.0 xs)) p.1)

-- all of some bytes and then the first of others
pub prefix_behind : (a b c : Option (List ℕ)) (xs ys : List ℕ) → Appends a b xs → AddsPrefix b c ys → AddsPrefix a c (xs ++ ys)
prefix_behind a b c xs ys p q = (length xs + q.0, subst (Appends a c) (sym (take-append-add xs ys q.0)) (Appends-trans a b c xs _ p q.1))

pub on_err : {A E P Q : Type 0} (r : Result A E) → (P → Q) → OnErr r P → OnErr r Q
on_err (Ok x) f p = p
on_err (Err e) f p = f p
