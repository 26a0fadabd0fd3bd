-- Worked rows of exact search, reranking and recall.
use Rattle.std.proofs.Common.{◌≡◌, [], ◌∷◌, refl}
use Rattle.std.specs.Prelude.{ℕ, List, pos, negsuc}
use Rattle.book_model.specs.Order.{sorted}
use Rattle.book_model.specs.Distance.{dist}
use Rattle.flat_truth.specs.Flat.{exact, rerank, is_hit, hits_in, padded}

abbrev origin : List ℕ
origin = 0 ∷ 0 ∷ 0 ∷ 0 ∷ []

abbrev four_rows : List (List ℕ)
four_rows = origin ∷ (130 ∷ 120 ∷ 10 ∷ 0 ∷ []) ∷ (64 ∷ 64 ∷ 64 ∷ 64 ∷ []) ∷ (0 ∷ 0 ∷ 128 ∷ 128 ∷ []) ∷ []

fewer_rows_than_k : exact four_rows origin 5 ≡ (0, 0) ∷ (16384, 2) ∷ (31400, 1) ∷ (32768, 3) ∷ []
unfolding exact dist sorted
fewer_rows_than_k = refl

a_tie_goes_by_the_row_number : exact ((1 ∷ []) ∷ (3 ∷ []) ∷ (1 ∷ []) ∷ []) (2 ∷ []) 2 ≡ (1, 0) ∷ (1, 1) ∷ []
unfolding exact dist sorted
a_tie_goes_by_the_row_number = refl

an_empty_base_answers_nothing : exact [] origin 3 ≡ []
unfolding exact sorted
an_empty_base_answers_nothing = refl

padded_to_five : padded 5 (0 ∷ 2 ∷ 1 ∷ 3 ∷ []) ≡ pos 0 ∷ pos 2 ∷ pos 1 ∷ pos 3 ∷ negsuc 0 ∷ []
padded_to_five = refl

exact_distances_decide : rerank ((7 ∷ 0 ∷ 0 ∷ 0 ∷ []) ∷ (1 ∷ 0 ∷ 0 ∷ 0 ∷ []) ∷ []) origin (0 ∷ 1 ∷ []) 1 ≡ (1, 1) ∷ []
unfolding rerank dist sorted
exact_distances_decide = refl

an_id_beyond_the_base_is_left_out : rerank ((7 ∷ []) ∷ (1 ∷ []) ∷ []) (0 ∷ []) (2 ∷ 0 ∷ 9 ∷ []) 2 ≡ (49, 0) ∷ []
unfolding rerank dist sorted
an_id_beyond_the_base_is_left_out = refl

recalls : hits_in 1 ((pos 0 ∷ []) ∷ []) ((pos 1 ∷ []) ∷ []) ∷ hits_in 1 ((pos 1 ∷ []) ∷ []) ((pos 1 ∷ []) ∷ []) ∷ hits_in 1 ((negsuc 0 ∷ []) ∷ []) ((negsuc 0 ∷ []) ∷ []) ∷ [] ≡ 0 ∷ 1 ∷ 0 ∷ []
unfolding is_hit
recalls = refl
