-- Groups as they are read, and rows whose cells do not fall.
use Rattle.std.proofs.Common.{◌≡◌, ℕ, zero, suc, ◌+◌, ◌-◌, ◌<◌, ◌≤◌, Bool, cond, List, [], ◌∷◌, ◌++◌, length, refl, sym, ap, subst, ◌∙◌, arith, length-append, inl, inr}
use Rattle.std.specs.Prelude.{⊤}
use Rattle.std.specs.List.{AllByRecursion}
use Rattle.std.proofs.lemmas.Bool.{cases_eq, cases_lt, eq-eqb, ne_eqb}
use Rattle.std.proofs.lemmas.List.Concat.{flat_map-cons}
use Rattle.file_fields.specs.Fields.{Reader}
use Rattle.shape_core.specs.Word.{IsCode}
use Rattle.book_model.specs.Rows.{Row}
use Rattle.book_model.proofs.AllLemmas.{all_append, all_front, all_back}
use Rattle.index_file.specs.Spelling.{Group, joined, groups_of}
use Rattle.index_file.specs.Laws.{AreByCell}
use Rattle.index_file.specs.Reading.{row_at}
use Rattle.index_file.proofs.Groups.{FirstFrom, AllIn, run_joins}
use Rattle.index_file.specs.Grouped.{group_at}
use Rattle.index_file.proofs.RowFields.{AreSmall, IsNext, Follow, AreNew, new_none, new_more, new_first, new_others, new_then, new_split}
use Rattle.index_file.proofs.GroupFields.{rows_of, least_count, least_more, AreMembers, FollowGroups}

-- groups of one row or more each, of cells from low on that rise, each row in the cell of its group
abbrev pub Stand : ℕ → ℕ → List Group → Type 0
Stand cells low [] = ⊤
Stand cells low (group ∷ groups) = (low ≤ group.0) × (group.0 < cells) × (1 ≤ length group.1) × AllIn group.0 group.1 × Stand cells (group.0 + 1) groups

pub rows_more : (group : Group) (groups : List Group) → rows_of (group ∷ groups) ≡ group.1 ++ rows_of groups
rows_more group groups = flat_map-cons (λ (x : Group). x.1) group groups

stand_first : (cells low : ℕ) (groups : List Group) → Stand cells low groups → FirstFrom low groups
stand_first cells low [] stand = tt
stand_first cells low (group ∷ groups) stand = stand.0

group_is : (cell : ℕ) (rows : List Row) → 1 ≤ length rows → group_at cell rows ≡ (cell, rows) ∷ []
group_is cell [] some = absurd (omega arith)
group_is cell (r ∷ rs) some = refl

-- groups are those of their rows
pub groups_again : (cells low : ℕ) (groups : List Group) → Stand cells low groups → groups_of (rows_of groups) ≡ groups
groups_again cells low [] stand = refl
groups_again cells low (group ∷ groups) stand =
    ap groups_of (rows_more group groups)
    ∙ run_joins group.0 group.1 (rows_of groups) groups (groups_again cells (group.0 + 1) groups stand.4) (stand_first cells (group.0 + 1) groups stand.4) stand.3
    ∙ ap (λ (l : List Group). l ++ groups) (group_is group.0 group.1 stand.2)

joined_rows : (row : Row) (groups : List Group) → rows_of (joined row groups) ≡ row ∷ rows_of groups
joined_rows row [] = refl
joined_rows row (group ∷ groups) = elim (cases_eq row.cell group.0) [
  | inl is ↦ ap (λ (b : Bool). rows_of (cond b ((group.0, row ∷ group.1) ∷ groups) ((row.cell, row ∷ []) ∷ group ∷ groups))) (eq-eqb row.cell group.0 is)
      ∙ rows_more (group.0, row ∷ group.1) groups ∙ ap (λ (l : List Row). row ∷ l) (sym (rows_more group groups))
  | inr other ↦ ap (λ (b : Bool). rows_of (cond b ((group.0, row ∷ group.1) ∷ groups) ((row.cell, row ∷ []) ∷ group ∷ groups))) (ne_eqb row.cell group.0 other)
      ∙ rows_more (row.cell, row ∷ []) (group ∷ groups)
]

-- rows are those of their groups
pub rows_again : (rows : List Row) → rows_of (groups_of rows) ≡ rows
rows_again [] = refl
rows_again (row ∷ rows) = joined_rows row (groups_of rows) ∙ ap (λ (l : List Row). row ∷ l) (rows_again rows)

joined_stand : (cells low : ℕ) (row : Row) (groups : List Group) → low ≤ row.cell → row.cell < cells → Stand cells row.cell groups → Stand cells low (joined row groups)
joined_stand cells low row [] le lt stand = (le, lt, omega arith, (refl, tt), tt)
joined_stand cells low row (group ∷ groups) le lt stand = elim (cases_eq row.cell group.0) [
  | inl is ↦
      subst (λ (b : Bool). Stand cells low (cond b ((group.0, row ∷ group.1) ∷ groups) ((row.cell, row ∷ []) ∷ group ∷ groups))) (sym (eq-eqb row.cell group.0 is))
      (omega (arith, le, is), stand.1, omega arith, (is, stand.3), stand.4)
  | inr other ↦
      subst (λ (b : Bool). Stand cells low (cond b ((group.0, row ∷ group.1) ∷ groups) ((row.cell, row ∷ []) ∷ group ∷ groups))) (sym (ne_eqb row.cell group.0 other))
      (le, lt, omega arith, (refl, tt), (above row.cell group.0 stand.0 other, stand.1, stand.2, stand.3, stand.4))
]
  where
    above : (a b : ℕ) → a ≤ b → (a ≡ b → ⊥) → a + 1 ≤ b
    above a b le ne = elim (cases_lt a b) [ inl lt ↦ omega (arith, lt) | inr ge ↦ absurd (ne (omega (arith, le, ge))) ]

-- the groups of rows whose cells do not fall
pub groups_stand : (cells low : ℕ) (rows : List Row) → AllByRecursion (λ r. low ≤ r.cell) rows → AllByRecursion (λ r. r.cell < cells) rows → AreByCell rows → Stand cells low (groups_of rows)
groups_stand cells low [] from below by_cell = tt
groups_stand cells low (row ∷ rows) from below by_cell = joined_stand cells low row (groups_of rows) from.0 below.0 (groups_stand cells row.cell rows by_cell.0 below.1 by_cell.1)

-- ---- how many groups

pub groups_few : (cells low : ℕ) (groups : List Group) → Stand cells low groups → length groups ≤ length (rows_of groups)
groups_few cells low [] stand = omega arith
groups_few cells low (group ∷ groups) stand =
    omega (arith, ap length (rows_more group groups), length-append group.1 (rows_of groups), stand.2, groups_few cells (group.0 + 1) groups stand.4)

pub groups_within : (cells low : ℕ) (groups : List Group) → low ≤ cells → Stand cells low groups → low + length groups ≤ cells
groups_within cells low [] le stand = omega (arith, le)
groups_within cells low (group ∷ groups) le stand = omega (arith, stand.0, groups_within cells (group.0 + 1) groups (omega (arith, stand.1)) stand.4)

pub groups_some : (groups : List Group) → length groups ≡ 0 → length (rows_of groups) ≡ 0
groups_some [] e = refl
groups_some (group ∷ groups) e = absurd (omega (arith, e))

-- ---- rows of groups are rows whose cells do not fall

pub in_cell : (low cell : ℕ) (rows : List Row) → low ≤ cell → AllIn cell rows → AllByRecursion (λ r. low ≤ r.cell) rows
in_cell low cell [] le all = tt
in_cell low cell (r ∷ rs) le all = (omega (arith, le, all.0), in_cell low cell rs le all.1)

below_cell : (cells cell : ℕ) (rows : List Row) → cell < cells → AllIn cell rows → AllByRecursion (λ r. r.cell < cells) rows
below_cell cells cell [] lt all = tt
below_cell cells cell (r ∷ rs) lt all = (omega (arith, lt, all.0), below_cell cells cell rs lt all.1)

pub higher : (low high : ℕ) (rows : List Row) → low ≤ high → AllByRecursion (λ r. high ≤ r.cell) rows → AllByRecursion (λ r. low ≤ r.cell) rows
higher low high [] le all = tt
higher low high (r ∷ rs) le all = (omega (arith, le, all.0), higher low high rs le all.1)

pub stand_from : (cells low : ℕ) (groups : List Group) → Stand cells low groups → AllByRecursion (λ r. low ≤ r.cell) (rows_of groups)
stand_from cells low [] stand = tt
stand_from cells low (group ∷ groups) stand = subst (λ (l : List Row). AllByRecursion (λ r. low ≤ r.cell) l) (sym (rows_more group groups))
    (all_append (λ r. low ≤ r.cell) group.1 (rows_of groups) (in_cell low group.0 group.1 stand.0 stand.3) (higher low (group.0 + 1) (rows_of groups) (omega (arith, stand.0)) (stand_from cells (group.0 + 1) groups stand.4)))

pub stand_below : (cells low : ℕ) (groups : List Group) → Stand cells low groups → AllByRecursion (λ r. r.cell < cells) (rows_of groups)
stand_below cells low [] stand = tt
stand_below cells low (group ∷ groups) stand = subst (λ (l : List Row). AllByRecursion (λ r. r.cell < cells) l) (sym (rows_more group groups))
    (all_append (λ r. r.cell < cells) group.1 (rows_of groups) (below_cell cells group.0 group.1 stand.1 stand.3) (stand_below cells (group.0 + 1) groups stand.4))

-- rows of one cell in front of rows of no lower cells
pub run_by_cell : (cell : ℕ) (rows others : List Row) → AllIn cell rows → AllByRecursion (λ r. cell ≤ r.cell) others → AreByCell others → AreByCell (rows ++ others)
run_by_cell cell [] others all from by_cell = by_cell
run_by_cell cell (r ∷ rs) others all from by_cell =
    (all_append (λ o. r.cell ≤ o.cell) rs others (in_cell r.cell cell rs (omega (arith, all.0)) all.1) (higher r.cell cell others (omega (arith, all.0)) from), run_by_cell cell rs others all.1 from by_cell)

pub stand_by_cell : (cells low : ℕ) (groups : List Group) → Stand cells low groups → AreByCell (rows_of groups)
stand_by_cell cells low [] stand = tt
stand_by_cell cells low (group ∷ groups) stand = subst AreByCell (sym (rows_more group groups))
    (run_by_cell group.0 group.1 (rows_of groups) stand.3 (higher group.0 (group.0 + 1) (rows_of groups) (omega arith) (stand_from cells (group.0 + 1) groups stand.4)) (stand_by_cell cells (group.0 + 1) groups stand.4))

-- ---- what rows and groups obey that are read

-- an id within its limit and a code of these widths
abbrev pub IsCoded : List ℕ → ℕ → Row → Type 0
IsCoded widths g row = (row.id ≤ 2147483647) × IsCode widths g row.code

-- rows of cells from low on that do not fall, and of ids that none before has
pub record AreBehind (widths : List ℕ) (g cells low : ℕ) (before rows : List Row) : Type 0 where
  pub coded : AllByRecursion (IsCoded widths g) rows
  pub from : AllByRecursion (λ r. low ≤ r.cell) rows
  pub below : AllByRecursion (λ r. r.cell < cells) rows
  pub by_cell : AreByCell rows
  pub new : AreNew before rows

-- rows of one cell
pub record AreOfCell (widths : List ℕ) (g cell : ℕ) (before rows : List Row) : Type 0 where
  pub coded : AllByRecursion (IsCoded widths g) rows
  pub all : AllIn cell rows
  pub new : AreNew before rows

-- groups of so many rows together
pub record AreGroups (widths : List ℕ) (g cells left low : ℕ) (before : List Row) (groups : List Group) : Type 0 where
  pub coded : AllByRecursion (IsCoded widths g) (rows_of groups)
  pub stand : Stand cells low groups
  pub total : length (rows_of groups) ≡ left
  pub new : AreNew before (rows_of groups)

module _ (widths : List ℕ) (small : AreSmall widths) (g cells : ℕ) (few : cells ≤ 1048576) (some : 1 ≤ cells) where
  -- ---- version 1

  abbrev pub one_row : ℕ → List Row → Reader Row
  one_row low before = row_at (record { widths = widths; g = g; cells = cells }) before low

  abbrev pub next_low : ℕ → Row → ℕ
  next_low low row = row.cell

  abbrev pub IsNextRow : ℕ → List Row → Row → Type 0
  IsNextRow low before row = IsNext widths g cells low before row

  pub rows_told : (n low : ℕ) (before rows : List Row) → Follow one_row next_low IsNextRow n low before rows → AreBehind widths g cells low before rows
  rows_told zero low before rows e = subst (λ (l : List Row). AreBehind widths g cells low before l) (sym e) (record { coded = tt; from = tt; below = tt; by_cell = tt; new = new_none before })
  rows_told (suc n) low before [] is = absurd is
  rows_told (suc n) low before (row ∷ rows) is =
      let here = is.0 in
      let others = rows_told n row.cell (before ++ row ∷ []) rows is.1 in
      record {
        coded = ((here.id.0.1, here.code), others.coded);
        from = (here.cell.0, higher low row.cell rows here.cell.0 others.from);
        below = (omega (arith, here.cell.1, some), others.below);
        by_cell = (others.from, others.by_cell);
        new = new_more before row rows here.id.1 others.new;
      }

  pub rows_follow : (low : ℕ) (before rows : List Row) → AreBehind widths g cells low before rows → Follow one_row next_low IsNextRow (length rows) low before rows
  rows_follow low before [] are = refl
  rows_follow low before (row ∷ rows) are = (
    record { id = ((omega arith, are.coded.0.0), new_first before row rows are.new); cell = (are.from.0, omega (arith, are.below.0)); code = are.coded.0.1 },
    rows_follow row.cell (before ++ row ∷ []) rows (record { coded = are.coded.1; from = are.by_cell.0; below = are.below.1; by_cell = are.by_cell.1; new = new_others before row rows are.new }),
  )

  -- ---- version 2

  members_told : (n cell : ℕ) (before rows : List Row) → AreMembers widths small g cells few n cell before rows → AreOfCell widths g cell before rows
  members_told zero cell before rows e = subst (λ (l : List Row). AreOfCell widths g cell before l) (sym e) (record { coded = tt; all = tt; new = new_none before })
  members_told (suc n) cell before [] is = absurd is
  members_told (suc n) cell before (row ∷ rows) is =
      let here = is.0 in
      let others = members_told n cell (before ++ row ∷ []) rows is.1 in
      record { coded = ((here.id.0.1, here.code), others.coded); all = (here.cell, others.all); new = new_more before row rows here.id.1 others.new }

  members_follow : (cell : ℕ) (before rows : List Row) → AreOfCell widths g cell before rows → AreMembers widths small g cells few (length rows) cell before rows
  members_follow cell before [] are = refl
  members_follow cell before (row ∷ rows) are = (
    record { id = ((omega arith, are.coded.0.0), new_first before row rows are.new); cell = are.all.0; code = are.coded.0.1 },
    members_follow cell (before ++ row ∷ []) rows (record { coded = are.coded.1; all = are.all.1; new = new_others before row rows are.new }),
  )

  some_rows : (more left n : ℕ) → suc more ≤ left → least_count more left ≤ n → 1 ≤ n
  some_rows zero left n le h = omega (arith, le, h)
  some_rows (suc more) left n le h = omega (arith, h, least_more more left)

  none_left : (more left n : ℕ) → least_count more left ≤ n → more ≡ 0 → left - n ≡ 0
  none_left zero left n h e = omega (arith, h)
  none_left (suc more) left n h e = absurd (omega (arith, e))

  pub groups_told : (n left : ℕ) (before : List Row) (low : ℕ) (groups : List Group) → n ≤ left → (n ≡ 0 → left ≡ 0) → FollowGroups widths small g cells few n left before low groups → AreGroups widths g cells left low before groups
  groups_told zero left before low groups le none e = subst (λ (l : List Group). AreGroups widths g cells left low before l) (sym e) (record { coded = tt; stand = tt; total = sym (none refl); new = new_none before })
  groups_told (suc more) left before low [] le none is = absurd is
  groups_told (suc more) left before low (group ∷ groups) le none is =
      let head = is.0.0 in
      let count = length group.1 in
      let here = members_told count group.0 before group.1 is.0.1 in
      let others = groups_told more (left - count) (before ++ group.1) (group.0 + 1) groups (omega (arith, le, head.1.1)) (none_left more left count head.1.0) is.1 in
      let whole = sym (rows_more group groups) in
      record {
        coded = subst (λ (l : List Row). AllByRecursion (IsCoded widths g) l) whole (all_append (IsCoded widths g) group.1 (rows_of groups) here.coded others.coded);
        stand = (head.0.0, omega (arith, head.0.1, some), some_rows more left count le head.1.0, here.all, others.stand);
        total = omega (arith, ap length (rows_more group groups), length-append group.1 (rows_of groups), others.total, head.1.1, le);
        new = subst (λ (l : List Row). AreNew before l) whole (new_then before group.1 (rows_of groups) here.new others.new);
      }

  least_here : (groups : List Group) (left n : ℕ) → 1 ≤ n → n + length (rows_of groups) ≡ left → least_count (length groups) left ≤ n
  least_here [] left n le e = omega (arith, e)
  least_here (group ∷ groups) left n le e = omega (arith, le, least_more (length groups) left)

  pub groups_follow : (left : ℕ) (before : List Row) (low : ℕ) (groups : List Group) → AreGroups widths g cells left low before groups → FollowGroups widths small g cells few (length groups) left before low groups
  groups_follow left before low [] are = refl
  groups_follow left before low (group ∷ groups) are =
      let count = length group.1 in
      let stand = are.stand in
      let long : count + length (rows_of groups) ≡ left = sym (ap length (rows_more group groups) ∙ length-append group.1 (rows_of groups)) ∙ are.total in
      let coded : AllByRecursion (IsCoded widths g) (group.1 ++ rows_of groups) = subst (λ (l : List Row). AllByRecursion (IsCoded widths g) l) (rows_more group groups) are.coded in
      let new = new_split before group.1 (rows_of groups) (subst (λ (l : List Row). AreNew before l) (rows_more group groups) are.new) in (
        (
          ((stand.0, omega (arith, stand.1)), (least_here groups left count stand.2 long, omega (arith, long, groups_few cells (group.0 + 1) groups stand.4))),
          members_follow group.0 before group.1 (record { coded = all_front (IsCoded widths g) group.1 (rows_of groups) coded; all = stand.3; new = new.0 }),
        ),
        groups_follow (left - count) (before ++ group.1) (group.0 + 1) groups
            (record { coded = all_back (IsCoded widths g) group.1 (rows_of groups) coded; stand = stand.4; total = omega (arith, long); new = new.1 }),
      )
