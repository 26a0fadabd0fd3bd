-- A list that is cut at its first element that passes.
use Rattle.std.proofs.Common.{◌≡◌, ◌≢◌, ℕ, ◌+◌, ◌-◌, ◌==◌, ◌<◌, ◌≤◌, Bool, true, false, cond, nat_lt, List, [], ◌∷◌, length, take, drop, Some, None, refl, sym, ap, ◌∙◌, subst, arith}
use Rattle.std.specs.List.{slice_split, position, position_or_len, join_with_byte}
use Rattle.std.proofs.lemmas.List.Splits.{slice_split_first, slice_split_none, length-slice_split, join_with_byte-slice_split}
use Rattle.std.proofs.lemmas.List.Sums.{fails_before_first}
use Rattle.std.proofs.lemmas.Option.{cond_some}
use Rattle.std.proofs.lemmas.Grind.{common_steps}
use Rattle.play_script.specs.Grammar.{lines_of, without_last_empty}
use borrow.Author.Tests.{ltb-true, ltb-false}

-- where it is found, one part stands before the place, and the others are those of what stands behind it
pub cut_at : (p : ℕ → Bool) (xs : List ℕ) (i : ℕ) → position p xs ≡ Some i → slice_split p xs ≡ take i xs ∷ slice_split p (take (length xs - (i + 1)) (drop (i + 1) xs))
cut_at p xs i found =
    let first : (nat_lt (position_or_len p xs) (length xs) ≡ true) × (position_or_len p xs ≡ i) = cond_some (nat_lt (position_or_len p xs) (length xs)) (position_or_len p xs) i found in
    let behind : take (length xs - (i + 1)) (drop (i + 1) xs) ≡ drop (i + 1) xs = grind (arith, common_steps) in
    let split : slice_split p xs ≡ take (position_or_len p xs) xs ∷ slice_split p (drop (position_or_len p xs + 1) xs) = slice_split_first p xs 0 (ltb-true _ _ first.0) in
    rw behind (subst (λ (n : ℕ). slice_split p xs ≡ take n xs ∷ slice_split p (drop (n + 1) xs)) first.1 split)

cond_none : (b : Bool) (i : ℕ) → cond b (Some i) None ≡ None → b ≡ false
cond_none true i none = cc
cond_none false i none = refl

-- where it is not, the list is the one part
pub cut_nowhere : (p : ℕ → Bool) (xs : List ℕ) → position p xs ≡ None → slice_split p xs ≡ xs ∷ []
cut_nowhere p xs none =
    let past : length xs ≤ position_or_len p xs = ltb-false _ _ (cond_none (nat_lt (position_or_len p xs) (length xs)) (position_or_len p xs) none) in
    slice_split_none p xs (λ k d lt. fails_before_first p xs k d (omega arith))

-- there is always a part
pub some_part : (p : ℕ → Bool) (xs : List ℕ) → slice_split p xs ≢ []
some_part p xs = λ none. absurd (omega (arith, ap length none, length-slice_split p xs))

not_last : (line : List ℕ) (parts : List (List ℕ)) → parts ≢ [] → without_last_empty (line ∷ parts) ≡ line ∷ without_last_empty parts
not_last line [] some = absurd (some refl)
not_last [] (part ∷ parts) some = refl
not_last (b ∷ bs) (part ∷ parts) some = refl

last_is_whole : (bytes line : List ℕ) → slice_split (λ b. b == 10) bytes ≡ line ∷ [] → line ≡ bytes
last_is_whole bytes line split = ap (join_with_byte 10) (sym split) ∙ join_with_byte-slice_split 10 bytes

not_empty : (line : List ℕ) → 0 < length line → without_last_empty (line ∷ []) ≡ line ∷ []
not_empty [] some = absurd (omega arith)
not_empty (b ∷ bs) some = refl

-- the part at the front is a line, and what stands behind it has the other lines
pub first_line : (bytes line rest : List ℕ) → slice_split (λ b. b == 10) bytes ≡ line ∷ slice_split (λ b. b == 10) rest → lines_of bytes ≡ line ∷ lines_of rest
first_line bytes line rest split = ap without_last_empty split ∙ not_last line (slice_split (λ b. b == 10) rest) (some_part (λ b. b == 10) rest)

-- a last part with a byte is a line
pub last_line : (bytes line : List ℕ) → 0 < length bytes → slice_split (λ b. b == 10) bytes ≡ line ∷ [] → lines_of bytes ≡ line ∷ []
last_line bytes line some split =
    let whole : line ≡ bytes = last_is_whole bytes line split in
    ap without_last_empty split ∙ not_empty line (rw whole some)
