-- The counts of an index and what they count, in either version.
use Rattle.std.proofs.Common.{◌≡◌, ℕ, zero, suc, ◌+◌, ◌-◌, ◌^◌, ◌<◌, ◌≤◌, List, [], ◌∷◌, ◌++◌, length, min, Ok, refl, sym, ap, subst, ◌∙◌, arith}
use Rattle.std.specs.List.{flat_map, AllByRecursion}
use Rattle.std.specs.Int.{w32, to_le_bytes}
use Rattle.std.proofs.lemmas.List.{append-nil}
use Rattle.adc_ports.specs.declared.What.TheVariants.{Rows}
use Rattle.adc_ports.specs.Reading.{◌>>=◌, allowed_at, limited_at}
use Rattle.file_fields.specs.Fields.{Reader, IsField}
use Rattle.file_fields.proofs.Steps.{bind_same, bind_none}
use Rattle.file_fields.proofs.Closure.{end_field, alike_field, then_field}
use Rattle.file_fields.proofs.Numbers.{wide32, within_field, limited_field}
use Rattle.book_model.specs.Rows.{Row}
use Rattle.index_file.specs.Spelling.{Group, groups_of, group_bytes}
use Rattle.index_file.specs.Laws.{AreByCell}
use Rattle.index_file.specs.Reading.{Layout, rows_at, groups_at, counted_at}
use Rattle.index_file.specs.declared.version.Version.{Version}
use Rattle.index_file.specs.declared.version.Version.TheVariants.{One, Two}
use Rattle.index_file.proofs.RowFields.{AreSmall, AreNew, row_bytes, row_field, fresh, gathered, fresh_field, follow_count}
use Rattle.index_file.proofs.GroupFields.{rows_of, fresh_groups, FollowGroups, groups_field, groups_gathered}
use Rattle.index_file.proofs.Groupings.{IsCoded, Stand, groups_again, rows_again, groups_stand, groups_few, groups_within, groups_some, AreBehind, AreGroups, one_row, next_low, IsNextRow, rows_told, rows_follow, groups_told, groups_follow, stand_from, stand_below, stand_by_cell}

-- the counts, and what they count
abbrev pub counted_bytes : Version → List ℕ → ℕ → List Row → List ℕ
counted_bytes One widths g rows = to_le_bytes w32 (length rows) ++ flat_map (row_bytes widths g) rows
counted_bytes Two widths g rows = to_le_bytes w32 (length rows) ++ (to_le_bytes w32 (length (groups_of rows)) ++ flat_map (group_bytes widths g) (groups_of rows))

-- rows that may stand in an index of these sizes
pub record MayStand (widths : List ℕ) (g cells : ℕ) (rows : List Row) : Type 0 where
  pub few : length rows ≤ 4194304
  pub are : AreBehind widths g cells 0 [] rows

module _ (widths : List ℕ) (small : AreSmall widths) (g cells : ℕ) (few : cells ≤ 1048576) (some : 1 ≤ cells) where
  abbrev its_layout : Layout
  its_layout = record { widths = widths; g = g; cells = cells }

  abbrev plain : ℕ → Reader (List Row)
  plain n = fresh (one_row widths small g cells few some) (next_low widths small g cells few some) n 0 []

  plain_is : (n : ℕ) (bytes : List ℕ) (at : ℕ) → rows_at n its_layout [] 0 bytes at ≡ plain n bytes at
  plain_is n bytes at =
      gathered (one_row widths small g cells few some) (next_low widths small g cells few some) (λ m low rows xs from. rows_at m its_layout rows low xs from) (λ low rows xs from. refl) (λ m low rows xs from. refl) n 0 [] bytes at
      ∙ bind_none (plain n bytes at)

  one_field : IsField (counted_at One its_layout) (counted_bytes One widths g) (MayStand widths g cells)
  unfolding counted_at
  one_field = alike_field
      (λ bytes at. bind_same (limited_at Rows w32 0 4194304 bytes at) (λ count. rows_at count.0 its_layout [] 0 bytes count.1) (λ count. plain count.0 bytes count.1) (λ count is. plain_is count.0 bytes count.1))
      (λ rows is. refl)
      (λ rows is. record { few = is.0.1; are = rows_told widths small g cells few some (length rows) 0 [] rows is.1 })
      (λ rows is. ((omega arith, is.few), rows_follow widths small g cells few some 0 [] rows is.are))
      (then_field (λ (rows : List Row). length rows) (limited_field w32 (2 ^ 32) wide32 0 4194304 (omega arith) Rows)
      (λ n of_n. fresh_field (one_row widths small g cells few some) (next_low widths small g cells few some) (IsNextRow widths small g cells few some) (row_bytes widths g) (λ low before. row_field widths small g cells few low before) n 0 [])
      (λ n rows of_n are. follow_count (one_row widths small g cells few some) (next_low widths small g cells few some) (IsNextRow widths small g cells few some) n 0 [] rows are))

  -- ---- version 2

  abbrev grouped : ℕ → ℕ → Reader (List Row)
  grouped m n bytes at = fresh_groups widths small g cells few m n [] 0 bytes at >>= λ groups. Ok (rows_of groups.0, groups.1)

  none_where_none : (n m : ℕ) → min 1 n ≤ m → m ≡ 0 → n ≡ 0
  none_where_none zero m le e = refl
  none_where_none (suc n) m le e = absurd (omega (arith, le, e))

  told : (n m : ℕ) (groups : List Group) → (min 1 n ≤ m) × (m ≤ min n cells) → FollowGroups widths small g cells few m n [] 0 groups → AreGroups widths g cells n 0 [] groups
  told n m groups of_m follow = groups_told widths small g cells few some m n [] 0 groups (omega (arith, of_m.1)) (none_where_none n m of_m.0) follow

  group_count : (m n : ℕ) (before : List Row) (low : ℕ) (groups : List Group) → FollowGroups widths small g cells few m n before low groups → length groups ≡ m
  group_count zero n before low groups e = ap (λ (l : List Group). length l) e
  group_count (suc m) n before low [] is = absurd is
  group_count (suc m) n before low (group ∷ groups) is = ap suc (group_count m (n - length group.1) (before ++ group.1) (group.0 + 1) groups is.1)

  abbrev IsGrouped : List Row → Type 0
  IsGrouped rows =
      ((0 ≤ length rows) × (length rows ≤ 4194304)) × (((min 1 (length rows) ≤ length (groups_of rows)) × (length (groups_of rows) ≤ min (length rows) cells))
      × (FollowGroups widths small g cells few (length (groups_of rows)) (length rows) [] 0 (groups_of rows) × (rows ≡ rows_of (groups_of rows))))

  there : (rows : List Row) → IsGrouped rows → MayStand widths g cells rows
  there rows is =
      let groups = groups_of rows in
      let are = told (length rows) (length groups) groups is.1.0 is.1.1.0 in
      let back : rows_of groups ≡ rows = rows_again rows in
      record {
        few = is.0.1;
        are = record {
          coded = subst (λ (l : List Row). AllByRecursion (IsCoded widths g) l) back are.coded;
          from = subst (λ (l : List Row). AllByRecursion (λ r. 0 ≤ r.cell) l) back (stand_from cells 0 groups are.stand);
          below = subst (λ (l : List Row). AllByRecursion (λ r. r.cell < cells) l) back (stand_below cells 0 groups are.stand);
          by_cell = subst (λ (l : List Row). AreByCell l) back (stand_by_cell cells 0 groups are.stand);
          new = subst (λ (l : List Row). AreNew [] l) back are.new;
        };
      }

  back : (rows : List Row) → MayStand widths g cells rows → IsGrouped rows
  back rows is =
      let groups = groups_of rows in
      let again : rows_of groups ≡ rows = rows_again rows in
      let stand : Stand cells 0 groups = groups_stand cells 0 rows is.are.from is.are.below is.are.by_cell in
      let long : length (rows_of groups) ≡ length rows = ap (λ (l : List Row). length l) again in
      let fewer : length groups ≤ length rows = omega (arith, groups_few cells 0 groups stand, long) in
      let within : length groups ≤ cells = omega (arith, groups_within cells 0 groups (omega arith) stand) in (
        (omega arith, is.few),
        (
          (at_least (length rows) (length groups) (λ e. omega (arith, groups_some groups e, long)), omega (arith, fewer, within)),
          (
            groups_follow widths small g cells few some (length rows) [] 0 groups (record {
              coded = subst (λ (l : List Row). AllByRecursion (IsCoded widths g) l) (sym again) is.are.coded;
              stand = stand;
              total = long;
              new = subst (λ (l : List Row). AreNew [] l) (sym again) is.are.new;
            }),
            sym again,
          ),
        ),
      )
    where
      at_least : (n m : ℕ) → (m ≡ 0 → n ≡ 0) → min 1 n ≤ m
      at_least n zero none = omega (arith, none refl)
      at_least n (suc m) none = omega arith

  two_field : IsField (counted_at Two its_layout) (counted_bytes Two widths g) (MayStand widths g cells)
  unfolding counted_at
  two_field = alike_field reads
      (λ rows is. ap (λ (l : List ℕ). to_le_bytes w32 (length rows) ++ (to_le_bytes w32 (length (groups_of rows)) ++ l)) (sym (append-nil (flat_map (group_bytes widths g) (groups_of rows)))))
      there back
      (then_field (λ (rows : List Row). length rows) (limited_field w32 (2 ^ 32) wide32 0 4194304 (omega arith) Rows) (λ n of_n.
      then_field (λ (rows : List Row). length (groups_of rows)) (within_field w32 (2 ^ 32) wide32 (min 1 n) (min n cells) (omega (arith, of_n.1))) (λ m of_m.
      then_field (λ (rows : List Row). groups_of rows) (groups_field widths small g cells few m n [] 0 of_n.1) (λ groups of_groups.
      end_field {A = List Row} (rows_of groups))
      (λ groups rows of_groups is. ap groups_of is ∙ groups_again cells 0 groups (told n m groups of_m of_groups).stand))
      (λ m rows of_m rest. group_count m n [] 0 (groups_of rows) rest.0))
      (λ n rows of_n rest. ap (λ (l : List Row). length l) rest.1.1 ∙ (told n (length (groups_of rows)) (groups_of rows) rest.0 rest.1.0).total))
    where
      reads : (bytes : List ℕ) (at : ℕ) → counted_at Two its_layout bytes at
          ≡ (limited_at Rows w32 0 4194304 bytes at >>= λ n. allowed_at w32 (min 1 n.0) (min n.0 cells) bytes n.1 >>= λ m. fresh_groups widths small g cells few m.0 n.0 [] 0 bytes m.1 >>= λ groups. Ok (rows_of groups.0, groups.1))
      reads bytes at =
          bind_same (limited_at Rows w32 0 4194304 bytes at) (λ n. allowed_at w32 (min 1 n.0) (min n.0 cells) bytes n.1 >>= λ m. groups_at m.0 its_layout n.0 [] 0 bytes m.1)
          (λ n. allowed_at w32 (min 1 n.0) (min n.0 cells) bytes n.1 >>= λ m. grouped m.0 n.0 bytes m.1) (λ n is.
          bind_same (allowed_at w32 (min 1 n.0) (min n.0 cells) bytes n.1) (λ m. groups_at m.0 its_layout n.0 [] 0 bytes m.1) (λ m. grouped m.0 n.0 bytes m.1) (λ m is. groups_gathered widths small g cells few m.0 n.0 [] 0 bytes m.1))

  -- what the counts count is a field in either version
  pub counted_field : (version : Version) → IsField (counted_at version its_layout) (counted_bytes version widths g) (MayStand widths g cells)
  counted_field One = one_field
  counted_field Two = two_field
