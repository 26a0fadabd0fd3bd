-- Parts of a stretch of a file.
use Rattle.std.proofs.Common.{◌≡◌, ℕ, ◌+◌, ◌≤◌, ◌<◌, ◌⊎◌, List, length, take, drop, min, ap, ◌∙◌, arith, inl, inr}
use Rattle.std.proofs.lemmas.List.{length-take, take_all}
use Rattle.std.proofs.Math.Seq.{drop-drop}
use Rattle.vec_files.proofs.Stretches.{inside, to_its_length}

-- a part that is whole in a stretch, or in one that ends the file, is that of the file
pub part_is : (bytes stretch part : List ℕ) (at place n : ℕ) → part ≡ take n (drop place stretch) → stretch ≡ take 8192 (drop at bytes) → (place + n ≤ length stretch) ⊎ (length stretch < 8192)
    → part ≡ take n (drop (at + place) bytes)
part_is bytes stretch part at place n is fetched (inl le) = is ∙ inside bytes stretch at place n (to_its_length stretch (drop at bytes) 8192 fetched) le
part_is bytes stretch part at place n is fetched (inr lt) =
    let long : length stretch ≡ min 8192 (length (drop at bytes)) = ap length fetched ∙ length-take 8192 (drop at bytes) in
    let all : stretch ≡ drop at bytes = fetched ∙ take_all 8192 (drop at bytes) (omega arith) in
    is ∙ ap (λ (xs : List ℕ). take n (drop place xs)) all ∙ ap (take n) (drop-drop place at bytes)
