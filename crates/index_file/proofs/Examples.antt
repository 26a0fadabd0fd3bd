-- The worked indexes.
use Rattle.std.proofs.Common.{◌≡◌, ℕ, ◌*◌, List, [], ◌∷◌, ◌++◌, length, map, take, drop, set, refl, Ok, Err, Result}
use Rattle.adc_ports.specs.Reading.{Fault, Malformed, number_at, allowed_at, limited_at}
use Rattle.book_model.specs.Sums.{numbers_below}
use Rattle.book_model.specs.Book.{Book}
use Rattle.book_model.specs.Rows.{Row}
use Rattle.codebook_core.specs.Spelling.{book_bytes}
use Rattle.codebook_core.specs.Reading.{version_at as book_version_at, front_at, body_at, groups_at as book_groups_at, scale_at, book_at}
use Rattle.index_file.specs.Spelling.{plain_bytes, index_bytes, by_cell}
use Rattle.index_file.specs.Reading.{Indexed, id_at, row_at, member_at, head_at, counted_at, version_at, start_of, front_of, index_outcome}

abbrev scaled : List (List ℕ)
scaled = map (λ w. 16 * w ∷ []) (numbers_below 16)

abbrev book : Book
book = record {
  version = 1;
  scale = 0;
  d = 4;
  h = 2;
  k0 = 2;
  k1 = 2;
  widths = 4 ∷ 4 ∷ 4 ∷ 4 ∷ [];
  g = 1;
  lengths = 1 ∷ 1 ∷ 1 ∷ 1 ∷ [];
  coarse0 = (0 ∷ 0 ∷ []) ∷ (128 ∷ 128 ∷ []) ∷ [];
  coarse1 = (0 ∷ 0 ∷ []) ∷ (128 ∷ 128 ∷ []) ∷ [];
  subs = scaled ∷ scaled ∷ scaled ∷ scaled ∷ [];
}

abbrev row : ℕ → ℕ → List ℕ → Row
row id cell code = record { id = id; cell = cell; code = code }

abbrev inserted : List Row
inserted = row 0 0 (0 ∷ 0 ∷ 0 ∷ 0 ∷ []) ∷ row 1 2 (8 ∷ 7 ∷ 1 ∷ 0 ∷ []) ∷ row 2 0 (4 ∷ 4 ∷ 4 ∷ 4 ∷ []) ∷ []

abbrev rows : List Row
rows = row 0 0 (0 ∷ 0 ∷ 0 ∷ 0 ∷ []) ∷ row 2 0 (4 ∷ 4 ∷ 4 ∷ 4 ∷ []) ∷ row 1 2 (8 ∷ 7 ∷ 1 ∷ 0 ∷ []) ∷ []

in_order : by_cell 4 inserted ≡ rows
in_order = refl

abbrev plain : List ℕ
unfolding plain_bytes book_bytes
plain = plain_bytes book rows

abbrev grouped : List ℕ
unfolding index_bytes book_bytes
grouped = index_bytes book rows

abbrev outcome : List ℕ → Result Indexed Fault
unfolding index_outcome front_of start_of version_at counted_at id_at row_at member_at head_at book_at front_at body_at book_version_at book_groups_at scale_at number_at allowed_at limited_at
outcome bytes = index_outcome bytes

sizes : length plain ∷ length grouped ∷ [] ≡ 144 ∷ 152 ∷ []
unfolding plain grouped
sizes = refl

plain_rows : drop 110 plain ≡ 3 ∷ 0 ∷ 0 ∷ 0 ∷ 0 ∷ 0 ∷ 0 ∷ 0 ∷ 0 ∷ 0 ∷ 0 ∷ 0 ∷ 0 ∷ 0 ∷ 2 ∷ 0 ∷ 0 ∷ 0 ∷ 0 ∷ 0 ∷ 0 ∷ 0 ∷ 0x44 ∷ 0x44 ∷ 1 ∷ 0 ∷ 0 ∷ 0 ∷ 2 ∷ 0 ∷ 0 ∷ 0 ∷ 0x78 ∷ 0x01 ∷ []
unfolding plain
plain_rows = refl

both_read : outcome plain ∷ outcome grouped ∷ [] ≡ Ok (record { book = book; rows = rows }) ∷ Ok (record { book = book; rows = rows }) ∷ []
unfolding outcome plain grouped
both_read = refl

-- version 1, cut short
cut : map (λ n. outcome (take n plain)) (110 ∷ 113 ∷ 114 ∷ 117 ∷ 118 ∷ 122 ∷ 123 ∷ 124 ∷ 128 ∷ 132 ∷ 133 ∷ 134 ∷ 138 ∷ 142 ∷ 143 ∷ [])
    ≡ map (λ at. Err (Malformed at)) (110 ∷ 110 ∷ 114 ∷ 114 ∷ 118 ∷ 122 ∷ 122 ∷ 124 ∷ 128 ∷ 132 ∷ 132 ∷ 134 ∷ 138 ∷ 142 ∷ 142 ∷ [])
unfolding outcome plain
cut = refl

-- faults of version 2: the count of groups, a first count, a second cell and a second count
grouped_faults : map outcome (set grouped 114 0 ∷ set grouped 122 3 ∷ set grouped 138 0 ∷ set grouped 142 2 ∷ (grouped ++ 0 ∷ []) ∷ [])
    ≡ map (λ at. Err (Malformed at)) (114 ∷ 122 ∷ 138 ∷ 142 ∷ 152 ∷ [])
unfolding outcome grouped
grouped_faults = refl

-- a book of three fields of five bits, whose one word has its unused bit set
abbrev narrow : Book
narrow = record {
  version = 1;
  scale = 0;
  d = 3;
  h = 1;
  k0 = 1;
  k1 = 1;
  widths = 5 ∷ 5 ∷ 5 ∷ [];
  g = 1;
  lengths = 1 ∷ 1 ∷ 1 ∷ [];
  coarse0 = (0 ∷ []) ∷ [];
  coarse1 = (0 ∷ 0 ∷ []) ∷ [];
  subs = map (λ _. map (λ w. 8 * w ∷ []) (numbers_below 32)) (numbers_below 3);
}

abbrev narrow_bytes : List ℕ
unfolding plain_bytes book_bytes
narrow_bytes = plain_bytes narrow (row 0 0 (0 ∷ 0 ∷ 0 ∷ []) ∷ [])

narrow_size : length narrow_bytes ≡ 149
unfolding narrow_bytes
narrow_size = refl

stray_high_bit : outcome (set narrow_bytes 148 0x80) ≡ Err (Malformed 147)
unfolding outcome narrow_bytes
stray_high_bit = refl
