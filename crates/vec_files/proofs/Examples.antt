use Rattle.std.proofs.Common.{◌≡◌, ℕ, List, [], ◌∷◌, ◌++◌, refl, Ok, Err, Some, map, take, pos, negsuc}
use Rattle.adc_ports.specs.declared.What.TheVariants.{D}
use Rattle.adc_ports.specs.Reading.{Malformed, Limit, number_at, bytes_at, limited_at}
use Rattle.vec_files.specs.Rows.{bvecs, ivecs, bvecs_outcome, ivecs_outcome, signed_at, header_at}
use Rattle.vec_files.specs.Standing.{rows_standing}

abbrev rows : List (List ℕ)
rows = (0 ∷ 0 ∷ 0 ∷ 0 ∷ []) ∷ (130 ∷ 120 ∷ 10 ∷ 0 ∷ []) ∷ (64 ∷ 64 ∷ 64 ∷ 64 ∷ []) ∷ (0 ∷ 0 ∷ 128 ∷ 128 ∷ []) ∷ []

base_is_read : bvecs_outcome (Some 4) (bvecs 4 rows) ≡ Ok rows
unfolding bvecs_outcome header_at limited_at number_at bytes_at
base_is_read = refl

rows_stand_in_the_base : rows_standing 4 4 (bvecs 4 rows) ≡ rows
unfolding rows_standing
rows_stand_in_the_base = refl

-- a cut header, a cut row, a second row of another length, and a length above the limit
refused : map (bvecs_outcome (Some 4)) ((4 ∷ 0 ∷ []) ∷ (4 ∷ 0 ∷ 0 ∷ 0 ∷ 0x82 ∷ 0x78 ∷ []) ∷ (take 8 (bvecs 4 rows) ++ bvecs 5 ((1 ∷ 2 ∷ []) ∷ [])) ∷ (1 ∷ 4 ∷ 0 ∷ 0 ∷ []) ∷ [])
    ≡ Err (Malformed 0) ∷ Err (Malformed 6) ∷ Err (Malformed 8) ∷ Err (Limit D 1025) ∷ []
unfolding bvecs_outcome header_at limited_at number_at bytes_at
refused = refl

-- a row, and one whose second component is cut
signed : map ivecs_outcome ((2 ∷ 0 ∷ 0 ∷ 0 ∷ 0 ∷ 0 ∷ 0 ∷ 0 ∷ 255 ∷ 255 ∷ 255 ∷ 255 ∷ []) ∷ (2 ∷ 0 ∷ 0 ∷ 0 ∷ 0 ∷ 0 ∷ 0 ∷ 0 ∷ 255 ∷ 255 ∷ []) ∷ []) ≡ Ok ((pos 0 ∷ negsuc 0 ∷ []) ∷ []) ∷ Err (Malformed 8) ∷ []
unfolding ivecs_outcome signed_at header_at limited_at number_at
signed = refl

written : ivecs 2 ((pos 0 ∷ negsuc 0 ∷ []) ∷ []) ≡ 2 ∷ 0 ∷ 0 ∷ 0 ∷ 0 ∷ 0 ∷ 0 ∷ 0 ∷ 255 ∷ 255 ∷ 255 ∷ 255 ∷ []
written = refl
