-- One step of reading leaves the same to find.
use Rattle.std.proofs.Common.{◌≡◌, ℕ, suc, ◌+◌, ◌-◌, ◌*◌, ◌<◌, List, [], ◌∷◌, ◌++◌, take, drop, Some, Result, Ok, Err, refl, sym, ap, ◌∙◌, arith}
use Rattle.adc_ports.specs.Reading.{Fault, Read, ◌>>=◌, ends_at}
use Rattle.book_model.specs.Rows.{Row}
use Rattle.cell_store.specs.State.{Store, live_rows}
use Rattle.index_file.specs.declared.fields.PartFault.{PartFault}
use Rattle.index_file.specs.declared.fields.PartFault.TheVariants as part
use Rattle.index_file.specs.declared.sizes.RowsAhead.{RowsAhead}
use Rattle.index_file.specs.declared.sizes.GroupsAhead.{GroupsAhead}
use Rattle.index_file.specs.declared.sizes.Ahead.TheVariants.{Rows, Groups}
use Rattle.index_file.specs.Parts.{fault_of, located_fault}
use Rattle.index_file.specs.Reading.{Layout, row_at, rows_at, member_at, members_at, head_at, groups_at}
use Rattle.index_file.specs.View.{Refuses}
use Rattle.index_file.specs.Ahead.{rest, KeepsRest}
use Rattle.index_file.proofs.Moved.{moved, moved_fault, row_in, member_in, head_in}

pub refuses_located : {A : Type 0} (fault : PartFault) (at : ℕ) (r : Result A Fault) → r ≡ Err (moved_fault at (fault_of fault)) → Refuses (located_fault fault at) (Some r)
refuses_located {A = A} (part.Malformed p) at r e = ap (λ (x : Result A Fault). Some x) e
refuses_located {A = A} (part.Limit what value) at r e = ap (λ (x : Result A Fault). Some x) e

pub bind_assoc : {A B C : Type 0} (r : Result A Fault) (f : A → Result B Fault) (g : B → Result C Fault) → ((r >>= f) >>= g) ≡ (r >>= (λ x. f x >>= g))
bind_assoc (Ok x) f g = refl
bind_assoc (Err e) f g = refl

module _ (layout : Layout) (rows : List Row) (bytes : List ℕ) (at : ℕ) where
  rows_next : ℕ → Row × ℕ → Read (List Row)
  rows_next n row = rows_at n layout (rows ++ row.0 ∷ []) row.0.cell bytes row.1

  rows_more : (a : RowsAhead) → 0 < a.left → rest layout (Rows a) rows bytes at ≡ ((row_at layout rows a.low bytes at >>= rows_next (a.left - 1)) >>= ends_at bytes)
  unfolding rows_next
  rows_more a more =
      let n : a.left ≡ suc (a.left - 1) = omega arith in
      ap (λ (k : ℕ). rows_at k layout rows a.low bytes at >>= ends_at bytes) n

  rows_keep : (a : RowsAhead) (next : ℕ) (row : Row) → 0 < a.left → row_at layout rows a.low bytes at ≡ Ok (row, next)
      → rest layout (Rows (record { left = a.left - 1; low = row.cell })) (rows ++ row ∷ []) bytes next ≡ rest layout (Rows a) rows bytes at
  unfolding rows_next
  rows_keep a next row more h = sym (rows_more a more ∙ ap (λ (r : Read Row). (r >>= rows_next (a.left - 1)) >>= ends_at bytes) h)

  rows_fail : (a : RowsAhead) (fault : Fault) → 0 < a.left → row_at layout rows a.low bytes at ≡ Err fault → rest layout (Rows a) rows bytes at ≡ Err fault
  rows_fail a fault more h = rows_more a more ∙ ap (λ (r : Read Row). (r >>= rows_next (a.left - 1)) >>= ends_at bytes) h

  members_next : ℕ → ℕ → Row × ℕ → Read (List Row)
  members_next n cell row = members_at n layout cell (rows ++ row.0 ∷ []) bytes row.1

  groups_next : GroupsAhead → List Row × ℕ → Result (List Row) Fault
  groups_next a x = groups_at a.groups layout a.left x.0 a.low bytes x.1 >>= ends_at bytes

  members_more : (a : GroupsAhead) → 0 < a.members → rest layout (Groups a) rows bytes at ≡ ((member_at layout a.cell rows bytes at >>= members_next (a.members - 1) a.cell) >>= groups_next a)
  unfolding members_next groups_next
  members_more a more =
      let n : a.members ≡ suc (a.members - 1) = omega arith in
      ap (λ (k : ℕ). members_at k layout a.cell rows bytes at >>= groups_next a) n

  members_keep : (a : GroupsAhead) (next : ℕ) (row : Row) → 0 < a.members → member_at layout a.cell rows bytes at ≡ Ok (row, next)
      → rest layout (Groups (record { cell = a.cell; members = a.members - 1; groups = a.groups; left = a.left; low = a.low })) (rows ++ row ∷ []) bytes next ≡ rest layout (Groups a) rows bytes at
  unfolding members_next groups_next
  members_keep a next row more h = sym (members_more a more ∙ ap (λ (r : Read Row). (r >>= members_next (a.members - 1) a.cell) >>= groups_next a) h)

  members_fail : (a : GroupsAhead) (fault : Fault) → 0 < a.members → member_at layout a.cell rows bytes at ≡ Err fault → rest layout (Groups a) rows bytes at ≡ Err fault
  members_fail a fault more h = members_more a more ∙ ap (λ (r : Read Row). (r >>= members_next (a.members - 1) a.cell) >>= groups_next a) h

  head_next : ℕ → ℕ → (ℕ × ℕ) × ℕ → Read (List Row)
  head_next more left head = members_at head.0.1 layout head.0.0 rows bytes head.1 >>= (λ members. groups_at more layout (left - head.0.1) members.0 (head.0.0 + 1) bytes members.1)

  head_more : (a : GroupsAhead) → a.members ≡ 0 → 0 < a.groups
      → rest layout (Groups a) rows bytes at ≡ ((head_at layout.cells a.low (a.groups - 1) a.left bytes at >>= head_next (a.groups - 1) a.left) >>= ends_at bytes)
  unfolding head_next
  head_more a none more =
      let n : a.groups ≡ suc (a.groups - 1) = omega arith in
      ap (λ (k : ℕ). members_at k layout a.cell rows bytes at >>= (λ x. groups_at a.groups layout a.left x.0 a.low bytes x.1 >>= ends_at bytes)) none
      ∙ ap (λ (k : ℕ). groups_at k layout a.left rows a.low bytes at >>= ends_at bytes) n

  head_keep : (a : GroupsAhead) (next cell count : ℕ) → a.members ≡ 0 → 0 < a.groups → head_at layout.cells a.low (a.groups - 1) a.left bytes at ≡ Ok ((cell, count), next)
      → rest layout (Groups (record { cell = cell; members = count; groups = a.groups - 1; left = a.left - count; low = cell + 1 })) rows bytes next ≡ rest layout (Groups a) rows bytes at
  unfolding head_next
  head_keep a next cell count none more h =
      sym (
      head_more a none more
      ∙ ap (λ (r : Read (ℕ × ℕ)). (r >>= head_next (a.groups - 1) a.left) >>= ends_at bytes) h
      ∙ bind_assoc (members_at count layout cell rows bytes next) (λ members. groups_at (a.groups - 1) layout (a.left - count) members.0 (cell + 1) bytes members.1) (ends_at bytes)
      )

  head_fail : (a : GroupsAhead) (fault : Fault) → a.members ≡ 0 → 0 < a.groups → head_at layout.cells a.low (a.groups - 1) a.left bytes at ≡ Err fault → rest layout (Groups a) rows bytes at ≡ Err fault
  head_fail a fault none more h = head_more a none more ∙ ap (λ (r : Read (ℕ × ℕ)). (r >>= head_next (a.groups - 1) a.left) >>= ends_at bytes) h

module _ (layout : Layout) (old new : Store) (part bytes : List ℕ) (at : ℕ) where
  pub keeps_row : (a : RowsAhead) (row : Row) → 0 < a.left → part ≡ take (8 + 2 * layout.g) (drop at bytes) → row_at layout (live_rows old) a.low part 0 ≡ Ok (row, 8 + 2 * layout.g) → live_rows new ≡ live_rows old ++ row ∷ []
      → KeepsRest layout (Rows a) old new bytes at (Ok (Rows (record { left = a.left - 1; low = row.cell }), 8 + 2 * layout.g))
  keeps_row a row more is h live =
      ap (λ (rows : List Row). rest layout (Rows (record { left = a.left - 1; low = row.cell })) rows bytes (at + (8 + 2 * layout.g))) live
      ∙ rows_keep layout (live_rows old) bytes at a (at + (8 + 2 * layout.g)) row more (row_in layout (live_rows old) a.low part bytes at is ∙ ap (λ (r : Read Row). moved at r) h)

  pub fails_row : (a : RowsAhead) (fault : PartFault) → 0 < a.left → part ≡ take (8 + 2 * layout.g) (drop at bytes) → row_at layout (live_rows old) a.low part 0 ≡ Err (fault_of fault)
      → KeepsRest layout (Rows a) old new bytes at (Err (located_fault fault at))
  fails_row a fault more is h =
      refuses_located fault at _ (rows_fail layout (live_rows old) bytes at a (moved_fault at (fault_of fault)) more (row_in layout (live_rows old) a.low part bytes at is ∙ ap (λ (r : Read Row). moved at r) h))

  pub keeps_member : (a : GroupsAhead) (row : Row) → 0 < a.members → part ≡ take (4 + 2 * layout.g) (drop at bytes) → member_at layout a.cell (live_rows old) part 0 ≡ Ok (row, 4 + 2 * layout.g) → live_rows new ≡ live_rows old ++ row ∷ []
      → KeepsRest layout (Groups a) old new bytes at (Ok (Groups (record { cell = a.cell; members = a.members - 1; groups = a.groups; left = a.left; low = a.low }), 4 + 2 * layout.g))
  keeps_member a row more is h live =
      ap (λ (rows : List Row). rest layout (Groups (record { cell = a.cell; members = a.members - 1; groups = a.groups; left = a.left; low = a.low })) rows bytes (at + (4 + 2 * layout.g))) live
      ∙ members_keep layout (live_rows old) bytes at a (at + (4 + 2 * layout.g)) row more (member_in layout a.cell (live_rows old) part bytes at is ∙ ap (λ (r : Read Row). moved at r) h)

  pub fails_member : (a : GroupsAhead) (fault : PartFault) → 0 < a.members → part ≡ take (4 + 2 * layout.g) (drop at bytes) → member_at layout a.cell (live_rows old) part 0 ≡ Err (fault_of fault)
      → KeepsRest layout (Groups a) old new bytes at (Err (located_fault fault at))
  fails_member a fault more is h =
      refuses_located fault at _ (members_fail layout (live_rows old) bytes at a (moved_fault at (fault_of fault)) more (member_in layout a.cell (live_rows old) part bytes at is ∙ ap (λ (r : Read Row). moved at r) h))

  pub keeps_head : (a : GroupsAhead) (cell count : ℕ) → a.members ≡ 0 → 0 < a.groups → part ≡ take 8 (drop at bytes) → head_at layout.cells a.low (a.groups - 1) a.left part 0 ≡ Ok ((cell, count), 8)
      → KeepsRest layout (Groups a) old old bytes at (Ok (Groups (record { cell = cell; members = count; groups = a.groups - 1; left = a.left - count; low = cell + 1 }), 8))
  keeps_head a cell count none more is h =
      head_keep layout (live_rows old) bytes at a (at + 8) cell count none more (head_in layout.cells a.low (a.groups - 1) a.left part bytes at is ∙ ap (λ (r : Read (ℕ × ℕ)). moved at r) h)

  pub fails_head : (a : GroupsAhead) (fault : PartFault) → a.members ≡ 0 → 0 < a.groups → part ≡ take 8 (drop at bytes) → head_at layout.cells a.low (a.groups - 1) a.left part 0 ≡ Err (fault_of fault)
      → KeepsRest layout (Groups a) old old bytes at (Err (located_fault fault at))
  fails_head a fault none more is h =
      refuses_located fault at _ (head_fail layout (live_rows old) bytes at a (moved_fault at (fault_of fault)) none more (head_in layout.cells a.low (a.groups - 1) a.left part bytes at is ∙ ap (λ (r : Read (ℕ × ℕ)). moved at r) h))
