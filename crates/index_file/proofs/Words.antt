-- Reading the words of a code one after another, as a loop does.
use Rattle.std.proofs.Common.{◌≡◌, ℕ, suc, ◌+◌, ◌-◌, ◌^◌, ◌≤◌, ◌<◌, List, [], ◌∷◌, ◌++◌, length, take, set, Ok, Err, refl, sym, ap, ◌∙◌, append_assoc, arith}
use Rattle.std.specs.Prelude.{sum}
use Rattle.std.specs.Int.{w16}
use Rattle.std.specs.List.{AllByRecursion}
use Rattle.std.proofs.lemmas.List.{append-nil}
use Rattle.std.proofs.Math.Seq.{take-suc-set}
use Rattle.adc_ports.specs.Reading.{Fault, Read, ◌>>=◌, allowed_at}
use Rattle.index_file.specs.Reading.{words_at}

-- what was read before, and what is still read
abbrev pub with_front : List ℕ → Read (List ℕ) → Read (List ℕ)
with_front front reading = reading >>= λ x. Ok (front ++ x.0, x.1)

regroup : (front : List ℕ) (n : ℕ) (reading : Read (List ℕ)) → with_front front (reading >>= λ x. Ok (n ∷ x.0, x.1)) ≡ with_front (front ++ n ∷ []) reading
regroup front n (Ok x) = ap (λ (ns : List ℕ). Ok (ns, x.1)) (simp append_assoc)
regroup front n (Err f) = refl

-- the first i + 1 after a write at i
pub take_written : (xs : List ℕ) (i x : ℕ) → i < length xs → take (i + 1) (set xs i x) ≡ take i xs ++ x ∷ []
take_written xs i x lt =
    let k : i + 1 ≡ suc i = omega arith in
    ap (λ (n : ℕ). take n (set xs i x)) k ∙ take-suc-set xs i x lt

pub all_push : (P : ℕ → Type 0) (xs : List ℕ) (x : ℕ) → AllByRecursion P xs → P x → AllByRecursion P (xs ++ x ∷ [])
all_push P [] x all here = (here, tt)
all_push P (y ∷ ys) x all here = (all.0, all_push P ys x all.1 here)

module _ (widths part : List ℕ) (count i place : ℕ) (total : Read (List ℕ)) where
  pub goes_on : (front : List ℕ) (word : ℕ) → i < count → allowed_at w16 0 (2 ^ sum widths - 1) part place ≡ Ok (word, place + 2)
      → with_front front (words_at widths (count - i) part place) ≡ total → with_front (front ++ word ∷ []) (words_at widths (count - (i + 1)) part (place + 2)) ≡ total
  goes_on front word lt h so_far =
      let left = count - (i + 1) in
      let k : count - i ≡ suc left = omega arith in
      sym (
      ap (λ (n : ℕ). with_front front (words_at widths n part place)) k
      ∙ ap (λ (r : Read ℕ). with_front front (r >>= λ w. words_at widths left part w.1 >>= λ ws. Ok (w.0 ∷ ws.0, ws.1))) h
      ∙ regroup front word (words_at widths left part (place + 2))
      ) ∙ so_far

  pub fails : (front : List ℕ) (fault : Fault) → i < count → allowed_at w16 0 (2 ^ sum widths - 1) part place ≡ Err fault
      → with_front front (words_at widths (count - i) part place) ≡ total → total ≡ Err fault
  fails front fault lt h so_far =
      let left = count - (i + 1) in
      let k : count - i ≡ suc left = omega arith in
      sym so_far ∙ ap (λ (n : ℕ). with_front front (words_at widths n part place)) k
      ∙ ap (λ (r : Read ℕ). with_front front (r >>= λ w. words_at widths left part w.1 >>= λ ws. Ok (w.0 ∷ ws.0, ws.1))) h

  pub ended : (front : List ℕ) → count ≤ i → with_front front (words_at widths (count - i) part place) ≡ total → total ≡ Ok (front, place)
  ended front le so_far =
      let k : count - i ≡ 0 = omega arith in
      sym so_far ∙ ap (λ (n : ℕ). with_front front (words_at widths n part place)) k ∙ ap (λ (ns : List ℕ). Ok (ns, place)) (append-nil front)
