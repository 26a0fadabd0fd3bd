-- The fields of groups, and groups that are read behind rows.
use Rattle.std.proofs.Common.{◌≡◌, ℕ, zero, suc, ◌+◌, ◌-◌, ◌^◌, ◌≤◌, cond, List, [], ◌∷◌, ◌++◌, length, Ok, Err, refl, sym, ap, ap₂, ◌∙◌, arith, append_assoc, inl, inr}
use Rattle.std.specs.Prelude.{◌==◌}
use Rattle.std.specs.List.{flat_map}
use Rattle.std.specs.Int.{w32, to_le_bytes}
use Rattle.std.proofs.lemmas.Bool.Decides.{eqb_tells}
use Rattle.std.proofs.lemmas.List.{append-nil}
use Rattle.std.proofs.lemmas.List.Concat.{flat_map-cons}
use Rattle.adc_ports.specs.Reading.{Read, ◌>>=◌}
use Rattle.file_fields.specs.Fields.{Reader, IsField, IsInFront}
use Rattle.file_fields.proofs.Steps.{bind_then, bind_same}
use Rattle.file_fields.proofs.Closure.{end_field, alike_field, then_field, front_field}
use Rattle.file_fields.proofs.Numbers.{wide32, within_field}
use Rattle.file_fields.proofs.Many.{made}
use Rattle.book_model.specs.Rows.{Row}
use Rattle.index_file.specs.Spelling.{Group, member_bytes, group_bytes}
use Rattle.index_file.specs.Reading.{Layout, member_at, members_at, head_at, groups_at}
use Rattle.index_file.proofs.RowFields.{AreSmall, IsMember, member_field, fresh, gathered, fresh_count, Follow, follow_count, fresh_field}

-- the rows of all groups
abbrev pub rows_of : List Group → List Row
rows_of groups = flat_map (λ (group : Group). group.1) groups

-- the least count of a group that so many follow, of which so many rows are left
abbrev pub least_count : ℕ → ℕ → ℕ
least_count more left = cond (more == 0) left 1

pub least_more : (n left : ℕ) → least_count (suc n) left ≡ 1
least_more n left = elim (eqb_tells (suc n) 0) [ inl is ↦ absurd (omega (arith, is.1)) | inr other ↦ rw other.0 refl ]

-- the front of a group that so many follow: its cell and its count
abbrev pub IsHead : ℕ → ℕ → ℕ → ℕ → ℕ × ℕ → Type 0
IsHead cells low more left head = ((low ≤ head.0) × (head.0 ≤ cells - 1)) × ((least_count more left ≤ head.1) × (head.1 ≤ left - more))

module _ (cells : ℕ) (few : cells ≤ 1048576) (low more left : ℕ) (small : left ≤ 4194304) where
  pub head_field : IsField (head_at cells low more left) (λ (head : ℕ × ℕ). to_le_bytes w32 head.0 ++ to_le_bytes w32 head.1) (IsHead cells low more left)
  unfolding head_at
  head_field = alike_field (λ bytes at. refl) (λ head is. ap (λ (l : List ℕ). to_le_bytes w32 head.0 ++ l) (sym (append-nil (to_le_bytes w32 head.1)))) (λ head is. (is.0, is.1.0)) (λ head is. (is.0, (is.1, refl)))
      (then_field (λ (head : ℕ × ℕ). head.0) (within_field w32 (2 ^ 32) wide32 low (cells - 1) (omega (arith, few))) (λ cell of_cell.
      then_field (λ (head : ℕ × ℕ). head.1) (within_field w32 (2 ^ 32) wide32 (least_count more left) (left - more) (omega (arith, small))) (λ count of_count.
      end_field {A = ℕ × ℕ} (cell, count))
      (λ count head of_count is. ap (λ (h : ℕ × ℕ). h.1) is))
      (λ cell head of_cell rest. ap (λ (h : ℕ × ℕ). h.0) rest.1))

module _ (widths : List ℕ) (small : AreSmall widths) (g cells : ℕ) (few : cells ≤ 1048576) where
  abbrev the_layout : Layout
  the_layout = record { widths = widths; g = g; cells = cells }

  abbrev pub one_member : ℕ → List Row → Reader Row
  one_member cell before = member_at the_layout cell before

  abbrev pub same_cell : ℕ → Row → ℕ
  same_cell cell row = cell

  abbrev pub IsOfCell : ℕ → List Row → Row → Type 0
  IsOfCell cell before row = IsMember widths g cell before row

  abbrev members : ℕ → ℕ → List Row → Reader (List Row)
  members n cell before = fresh one_member same_cell n cell before

  abbrev pub AreMembers : ℕ → ℕ → List Row → List Row → Type 0
  AreMembers n cell before rows = Follow one_member same_cell IsOfCell n cell before rows

  members_gathered : (n cell : ℕ) (before : List Row) (bytes : List ℕ) (at : ℕ) → members_at n the_layout cell before bytes at ≡ made (λ rows. before ++ rows) (members n cell before bytes at)
  members_gathered n cell before bytes at =
      gathered one_member same_cell (λ m c rows xs from. members_at m the_layout c rows xs from) (λ c rows xs from. refl) (λ m c rows xs from. refl) n cell before bytes at

  members_field : (n cell : ℕ) (before : List Row) → IsField (members n cell before) (flat_map (member_bytes widths g)) (AreMembers n cell before)
  members_field n cell before = fresh_field one_member same_cell IsOfCell (member_bytes widths g) (λ c rows. member_field widths small g cells few c rows) n cell before

  -- ---- a group

  abbrev pub IsGroup : ℕ → ℕ → List Row → ℕ → Group → Type 0
  IsGroup more left before low group = IsHead cells low more left (group.0, length group.1) × AreMembers (length group.1) group.0 before group.1

  abbrev group_read : ℕ → ℕ → List Row → ℕ → Reader Group
  group_read more left before low bytes at = head_at cells low more left bytes at >>= λ head. members head.0.1 head.0.0 before bytes head.1 >>= λ rows. Ok ((head.0.0, rows.0), rows.1)

  group_field : (more left : ℕ) (before : List Row) (low : ℕ) → left ≤ 4194304 → IsField (group_read more left before low) (group_bytes widths g) (IsGroup more left before low)
  group_field more left before low le = alike_field (λ bytes at. refl)
      (λ group is.
      ap (λ (l : List ℕ). to_le_bytes w32 group.0 ++ (to_le_bytes w32 (length group.1) ++ l)) (sym (append-nil (flat_map (member_bytes widths g) group.1)))
      ∙ sym (append_assoc (to_le_bytes w32 group.0) (to_le_bytes w32 (length group.1)) (flat_map (member_bytes widths g) group.1 ++ [])))
      (λ group is. (is.0, is.1.0)) (λ group is. (is.0, (is.1, refl)))
      (then_field (λ (group : Group). (group.0, length group.1)) (head_field cells few low more left le) (λ head of_head.
      then_field (λ (group : Group). group.1) (members_field head.1 head.0 before) (λ rows of_rows.
      end_field {A = Group} (head.0, rows))
      (λ rows group of_rows is. ap (λ (x : Group). x.1) is))
      (λ head group of_head rest. ap₂ (λ (a b : ℕ). pair a b) (ap (λ (x : Group). x.0) rest.1) (follow_count one_member same_cell IsOfCell head.1 head.0 before group.1 rest.0)))
    where
      pair : ℕ → ℕ → ℕ × ℕ
      pair a b = (a, b)

  -- ---- so many groups behind rows

  abbrev pub fresh_groups : ℕ → ℕ → List Row → ℕ → Reader (List Group)
  fresh_groups zero left before low bytes at = Ok ([], at)
  fresh_groups (suc more) left before low bytes at =
      group_read more left before low bytes at >>= λ group. fresh_groups more (left - length group.0.1) (before ++ group.0.1) (group.0.0 + 1) bytes group.1 >>= λ groups. Ok (group.0 ∷ groups.0, groups.1)

  abbrev pub FollowGroups : ℕ → ℕ → List Row → ℕ → List Group → Type 0
  FollowGroups zero left before low groups = groups ≡ []
  FollowGroups (suc more) left before low groups = IsInFront (IsGroup more left before low) (λ group. FollowGroups more (left - length group.1) (before ++ group.1) (group.0 + 1)) groups

  pub groups_field : (n left : ℕ) (before : List Row) (low : ℕ) → left ≤ 4194304 → IsField (fresh_groups n left before low) (flat_map (group_bytes widths g)) (FollowGroups n left before low)
  groups_field zero left before low le = alike_field (λ bytes at. refl) (λ groups e. rw e refl) (λ groups e. e) (λ groups e. e) (end_field [])
  groups_field (suc more) left before low le =
      alike_field (λ bytes at. refl) (λ groups is. refl) (λ groups is. is) (λ groups is. is)
      (front_field (group_field more left before low le) (λ group is. groups_field more (left - length group.1) (before ++ group.1) (group.0 + 1) (omega (arith, le))))

  abbrev behind : List Row → List Group × ℕ → Read (List Row)
  behind before groups = Ok (before ++ rows_of groups.0, groups.1)

  one_group : (before : List Row) (group : Group) (r : Read (List Group)) → (r >>= behind (before ++ group.1)) ≡ ((r >>= λ groups. Ok (group ∷ groups.0, groups.1)) >>= behind before)
  one_group before group (Ok x) = ap (λ (l : List Row). Ok (l, x.1)) (append_assoc before group.1 (rows_of x.0) ∙ ap (λ (l : List Row). before ++ l) (sym (flat_map-cons (λ (y : Group). y.1) group x.0)))
  one_group before group (Err fault) = refl

  -- the rows before, and those of these groups behind them
  pub groups_gathered : (n left : ℕ) (before : List Row) (low : ℕ) (bytes : List ℕ) (at : ℕ) → groups_at n the_layout left before low bytes at ≡ (fresh_groups n left before low bytes at >>= behind before)
  groups_gathered zero left before low bytes at = ap (λ (l : List Row). Ok (l, at)) (sym (append-nil before))
  groups_gathered (suc more) left before low bytes at =
      let heads = head_at cells low more left bytes at in
      let rest : (ℕ × ℕ) × ℕ → List Row × ℕ → Read (List Row) = λ head. λ rows. groups_at more the_layout (left - head.0.1) rows.0 (head.0.0 + 1) bytes rows.1 in
      let those : (ℕ × ℕ) × ℕ → Read (List Row) = λ head. members head.0.1 head.0.0 before bytes head.1 in
      let put : List Row × ℕ → Read (List Row) = λ rows. Ok (before ++ rows.0, rows.1) in
      let group : (ℕ × ℕ) × ℕ → List Row × ℕ → Read Group = λ head. λ rows. Ok ((head.0.0, rows.0), rows.1) in
      let others : Group × ℕ → Read (List Group) = λ x. fresh_groups more (left - length x.0.1) (before ++ x.0.1) (x.0.0 + 1) bytes x.1 >>= λ groups. Ok (x.0 ∷ groups.0, groups.1) in
      bind_same heads (λ head. members_at head.0.1 the_layout head.0.0 before bytes head.1 >>= rest head) (λ head. (those head >>= group head) >>= (λ x. others x >>= behind before)) (λ head is.
      ap (λ (r : Read (List Row)). r >>= rest head) (members_gathered head.0.1 head.0.0 before bytes head.1)
      ∙ bind_then (those head) put (rest head)
      ∙ bind_same (those head) (λ rows. rest head (before ++ rows.0, rows.1)) (λ rows. others ((head.0.0, rows.0), rows.1) >>= behind before) (λ rows read.
      let count : length rows.0 ≡ head.0.1 = fresh_count one_member same_cell head.0.1 head.0.0 before bytes head.1 rows read in
      ap (λ (k : ℕ). groups_at more the_layout (left - k) (before ++ rows.0) (head.0.0 + 1) bytes rows.1) (sym count)
      ∙ groups_gathered more (left - length rows.0) (before ++ rows.0) (head.0.0 + 1) bytes rows.1
      ∙ one_group before (head.0.0, rows.0) (fresh_groups more (left - length rows.0) (before ++ rows.0) (head.0.0 + 1) bytes rows.1))
      ∙ sym (bind_then (those head) (group head) (λ x. others x >>= behind before)))
      ∙ sym (bind_then heads (λ head. those head >>= group head) (λ x. others x >>= behind before))
      ∙ sym (bind_then (heads >>= (λ head. those head >>= group head)) others (behind before))
