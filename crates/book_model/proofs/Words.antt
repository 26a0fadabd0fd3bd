-- The distances to words that stand one after another.
use Rattle.std.proofs.Common.{◌≡◌, ℕ, ◌*◌, ◌<◌, List, [], length, take, drop, slice_index, slice_index_or, sym, ap, ◌∙◌, arith}
use Rattle.std.proofs.lemmas.List.{get_or-map, length-map}
use Rattle.std.proofs.lemmas.Grind.{same_number_lists}
use Rattle.book_model.specs.Distance.{dist, distances}
use Rattle.book_model.specs.Words.{word_distance}

-- where the words of a list stand one after another, their distances by place are the distances of the list
pub distances_by_place : (f : ℕ) (list : List (List ℕ)) (words x found : List ℕ) → length found ≡ length list
    → ((i : ℕ) → i < length list → take (length x) (drop (i * length x) words) ≡ slice_index_or list i [])
    → ((i : ℕ) → i < length list → slice_index found i ≡ word_distance f words x i)
    → found ≡ distances f list x
distances_by_place f list words x found long places each =
    let count : length (distances f list x) ≡ length list = length-map list (dist f x) in
    same_number_lists found (distances f list x) (omega arith) (λ i lt.
    let there : i < length list = omega arith in
    each i there ∙ ap (dist f x) (places i there) ∙ sym (get_or-map (dist f x) list i [] 0 there))
