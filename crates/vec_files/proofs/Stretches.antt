-- Stretches of a file, where a short one ends it, and what the length of a file says of what is to find in it.
use Rattle.std.proofs.Common.{◌≡◌, ℕ, ◌+◌, ◌-◌, ◌≤◌, List, length, take, drop, Option, None, Some, Ok, Err, sym, ap, ◌∙◌, subst, min, arith, [], nat_lt, if◌then◌else◌, Result, IfSome, IfOk, option_map, unwrap_or}
use Rattle.std.specs.Int.{w32, from_le_bytes}
use Rattle.std.proofs.lemmas.List.{drop-take, length-take, length-drop, take_min}
use Rattle.std.proofs.Math.Seq.{take-take, drop-drop}
use Rattle.adc_ports.specs.Reading.{Fault}
use Rattle.vec_files.specs.declared.Checked.{Checked}
use Rattle.vec_files.specs.declared.VecError.{VecError}
use Rattle.vec_files.specs.declared.progress.Progress.{Progress}
use Rattle.vec_files.specs.Found.{Refuses, Answers}
use Rattle.vec_files.specs.Progress.{rest, KeepsRest}

-- what stands within a stretch of the bytes stands in the bytes
pub inside : (bytes xs : List ℕ) (from place n : ℕ) → xs ≡ take (length xs) (drop from bytes) → place + n ≤ length xs
    → take n (drop place xs) ≡ take n (drop (from + place) bytes)
inside bytes xs from place n is le =
    let m : length xs ≡ place + (length xs - place) = omega arith in
    let one : drop place xs ≡ take (length xs - place) (drop place (drop from bytes)) =
    ap (drop place) is ∙ ap (λ (k : ℕ). drop place (take k (drop from bytes))) m ∙ drop-take place (length xs - place) (drop from bytes) in
    ap (take n) one ∙ take-take n (length xs - place) (drop place (drop from bytes)) (omega arith) ∙ ap (take n) (drop-drop place from bytes)

-- the same for the number of four bytes at a place of the file
pub header_inside : (bytes xs : List ℕ) (from at n : ℕ) → from ≤ at → xs ≡ take (length xs) (drop from bytes) → at - from + 4 ≤ length xs
    → n ≡ from_le_bytes w32 (take (at - from + 4 - (at - from)) (drop (at - from) xs)) → n ≡ from_le_bytes w32 (take 4 (drop at bytes))
header_inside bytes xs from at n le is fits value =
    let four : at - from + 4 - (at - from) ≡ 4 = omega arith in
    let there : from + (at - from) ≡ at = omega arith in
    rw (four, inside bytes xs from (at - from) 4 is fits, there) at value

-- a stretch is as much of the bytes as its own length says
pub to_its_length : (xs ys : List ℕ) (n : ℕ) → xs ≡ take n ys → xs ≡ take (length xs) ys
to_its_length xs ys n is =
    let k : length xs ≡ min n (length ys) = ap length is ∙ length-take n ys in
    is ∙ sym (ap (λ (m : ℕ). take m ys) k ∙ take_min n ys)

-- a fetch of a file that is told comes short only where the file ends
pub ends_there : (bytes : List ℕ) (at end count size : ℕ) → at ≤ end → end ≡ length bytes → count ≡ length (take size (drop at bytes))
    → (if nat_lt count size then min end (at + count) else end) ≡ end
ends_there bytes at end count size le is got =
    let k : count ≡ min size (length bytes - at) = got ∙ length-take size (drop at bytes) ∙ ap (min size) (length-drop at bytes) in
    grind arith

pub refuses_along : (e : VecError) {a b : Result Checked Fault} → a ≡ b → Refuses e (Some a) → Refuses e (Some b)
refuses_along e same refuses = subst (λ (x : Result Checked Fault). Refuses e (Some x)) same refuses

pub still_wanted : (wanted now next : Option ℕ) → IfSome wanted (λ d. now ≡ Some d) → IfSome now (λ d. next ≡ Some d) → IfSome wanted (λ d. next ≡ Some d)
still_wanted None now next before after = tt
still_wanted (Some d) now next before after = subst (λ (o : Option ℕ). IfSome o (λ e. next ≡ Some e)) before after

pub keeps_from : (width : ℕ) (bytes : List ℕ) (from same : Progress) (result : Result Progress VecError) → same.at ≡ from.at → same.rows ≡ from.rows → same.d ≡ from.d
    → KeepsRest width same bytes result → KeepsRest width from bytes result
keeps_from width bytes from same (Ok next) at rows d keeps = cc
keeps_from width bytes from same (Err error) at rows d keeps = let e : rest width same bytes ≡ rest width from bytes = cc in refuses_along error e keeps

pub as_long : (size : Checked → ℕ) (found : List ℕ → Result Checked Fault) → ((bytes : List ℕ) (checked : Checked) → found bytes ≡ Ok checked → size checked ≡ length bytes)
    → (r : Result Checked VecError) (file : Option (List ℕ)) → Answers r (option_map found file) → IfOk r (λ checked. size checked ≡ length (unwrap_or file []))
as_long size found long (Ok checked) None answers = cc
as_long size found long (Ok checked) (Some bytes) answers = long bytes checked (cc)
as_long size found long (Err e) file answers = tt
