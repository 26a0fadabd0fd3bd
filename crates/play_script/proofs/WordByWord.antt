-- A line of words, word by word.
use Rattle.std.proofs.Common.{◌≡◌, ℕ, List, [], ◌∷◌, ◌++◌, map, flat_map, ap, sym}
use Rattle.std.specs.List.{join_with_byte}
use Rattle.std.proofs.lemmas.List.{append-nil}
use Rattle.play_script.specs.Words.{bytes_of}
use Rattle.play_script.specs.declared.text.Word.{Word}

-- a first word, and each other behind a space
pub join_is_flat_map : (first : List ℕ) (words : List Word) → join_with_byte 32 (first ∷ map bytes_of words) ≡ first ++ flat_map (λ word. 32 ∷ bytes_of word) words
join_is_flat_map first [] = sym (append-nil first)
join_is_flat_map first (word ∷ words) = ap (λ (rest : List ℕ). first ++ 32 ∷ rest) (join_is_flat_map (bytes_of word) words)
