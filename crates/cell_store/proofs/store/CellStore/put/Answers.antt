use Rattle.cell_store.proofs.Words.{IsTimed, ◌≡◌, ◌*◌, ◌+◌, ◌^◌, ◌<◌, ◌≤◌, ap, sym, ◌∙◌, subst, take, rules, arith, ℕ, Bool, true, false, Some, None, is_some, if◌then◌else◌, nat_le, nat_lt, ◌&&◌, Result, Option, refl, list_any, common_steps, has_id, PutRefusal, put_refusal, RefusesAs, Store, live_rows, rows_for, put_done, put_cause, KeepsAs}
use Rattle.cell_store.specs.declared.PutRefusal.TheVariants as put
use Rattle.std.specs.FinMap as fin
use Rattle.std.proofs.lemmas.Bool.{cond-true}
use Rattle.id_table.specs.declared.Place.{Place as Spot}
use Rattle.id_table.specs.Table.{Places}
use Rattle.id_table.proofs.Maps.{insert_own, insert_other}
use Rattle.cell_store.specs.Groups.{listed_at}
use Rattle.cell_store.proofs.Counts.{few_here}
use Rattle.cell_store.proofs.Grouped.{listed_small, added_length}
use Rattle.cell_store.proofs.Indexed.{there_is, found_is, IsIndexed-same}
use Rattle.cell_store.proofs.Putting.{timed_kept, put_cause_kept, keeps_same, keeps_of, put_added, err_gives, ok_gives, ok_then, has_id_is, all_kept_same, live_added, row_from, put_cause_there, added_are, IsIndexed-put, put_few, put_keeps, few_same}
use Rattle.cell_store.proofs.store.CellStore.put.Given.{Over}
use Rattle.cell_store.proofs.store.CellStore.put.Goals as goal
use Rattle.cell_store.proofs.store.CellStore.put.Goals.{After-is_needed-needs, In_default}

-- the id's place is that of the index
found_place : (g : Over) (c : After-is_needed-needs g) → c.self.invariant.0.places c.args.id ≡ Some c.in-Some.place
found_place g c = found_is c.self.invariant.0 c.args.id c.find_row.result c.find_row.ensures ∙ c.in-Some.is

time : (g : Over) (c : After-is_needed-needs g) → c.self.inside.stamp < 2 ^ 62
time g c = subst (λ (s : Store). s.stamp < 2 ^ 62) (sym c.self.view_is) c.requires.stamp

small : (g : Over) (c : After-is_needed-needs g) → c.args.cell < c.self.inside.cells
small g c = subst (λ (s : Store). c.args.cell < s.cells) (sym c.self.view_is) c.requires.cell

is_there : (g : Over) (c : After-is_needed-needs g) → has_id (live_rows c.args.self.now) c.args.id ≡ true
is_there g c = ap (λ (s : Store). has_id (live_rows s) c.args.id) (sym c.self.view_is) ∙ has_id_is c.self.invariant.0.kept c.args.id ∙ ap is_some (found_place g c)

-- what the bound tells of the cause
tells : {T : Type 0} (g : Over) (c : After-is_needed-needs g) (b : Bool) (r : Result T PutRefusal)
    → nat_lt (2 * c.self.inside.most) (c.self.inside.live + (c.self.inside.needed + (if c.is_needed-needs.result then 1 else 0))) ≡ b → RefusesAs {T = T} (if b then Some put.Held else None) put.Memory r
    → RefusesAs {T = T} (put_cause c.args.self.now (row_from g.S.Shape.widths c.args.id c.args.cell c.args.code.now)) put.Memory r
tells {T} g c b r is refused =
    let cause = put_cause_there c.self.invariant.0.kept c.args.id c.in-Some.place (found_place g c) (time g c) (row_from g.S.Shape.widths c.args.id c.args.cell c.args.code.now) refl c.is_needed-needs.result (sym c.is_needed-needs.ensures) in
    subst (λ (v : Store). RefusesAs {T = T} (put_cause v (row_from g.S.Shape.widths c.args.id c.args.cell c.args.code.now)) put.Memory r) c.self.view_is
    (subst (λ (o : Option PutRefusal). RefusesAs {T = T} o put.Memory r) (sym (cause ∙ ap (λ (b : Bool). let o : Option PutRefusal = if b then Some put.Held else None in o) is)) refused)

above : (a b n : ℕ) → n ≡ b → a < n → nat_lt a b ≡ true
above a b n e h = grind (arith, common_steps)

within : (a b n : ℕ) → n ≡ b → n ≤ a → nat_lt a b ≡ false
within a b n e h = grind (arith, common_steps)

absent : (g : Over) (c : In_default g) → has_id (live_rows c.args.self.now) c.args.id ≡ false
absent g c =
    let none : is_some c.find_row.result ≡ false = search rules in
    ap (λ (s : Store). has_id (live_rows s) c.args.id) (sym c.self.view_is) ∙ has_id_is c.self.invariant.0.kept c.args.id ∙ ap is_some (found_is c.self.invariant.0 c.args.id c.find_row.result c.find_row.ensures) ∙ none

pub put_new-requires-clause-absent : goal.put_new-requires-clause-absent
put_new-requires-clause-absent g c = absent g (goal.at.put_new-requires-clause-absent g c).In_default

pub returns-in_default-clause-replaced : goal.returns-in_default-clause-replaced
returns-in_default-clause-replaced g c = rw (absent g (goal.at.returns-in_default-clause-replaced g c).In_default) c.put_new.ensures.replaced

pub invariant_of-self : goal.invariant_of-self
invariant_of-self g c =
    let same = err_gives c.add_row.result (sym c.is_err.ensures.value ∙ c.if-is_err.true) c.add_row.ensures.err in
    (IsIndexed-same c.self.invariant.0 c.add_row.new.lists c.self.inside.ids same (c.add_row.ensures.g ∙ c.self.invariant.0.kept.g_is) refl, c.self.invariant.1, c.self.invariant.2, c.add_row.ensures.counted, few_same c.self.inside.most (take c.self.inside.pinned c.self.inside.pins) (rows_for c.self.inside.lists) (rows_for c.add_row.new.lists) c.self.inside.cells same c.self.invariant.4)

pub returns-then-is_err-clause-err : goal.returns-then-is_err-clause-err
returns-then-is_err-clause-err g c =
    rw (all_kept_same (rows_for c.self.inside.lists) (rows_for c.add_row.new.lists) (err_gives c.add_row.result (sym c.is_err.ensures.value ∙ c.if-is_err.true) c.add_row.ensures.err) c.self.inside.cells) c.self.view_is

pub end_row-requires-clause-rising : goal.end_row-requires-clause-rising
end_row-requires-clause-rising g c =
    (added_are c.self.invariant.0.kept (row_from g.S.Shape.widths c.args.id c.args.cell c.args.code.now) c.requires.id (small g (goal.at.end_row-requires-clause-rising g c).After-is_needed-needs) c.add_row.new.lists
    (ok_gives c.add_row.result (sym c.is_err.ensures.value ∙ c.if-is_err.false) c.add_row.ensures.ok)).rising c.in-Some.place.cell

pub end_row-requires-clause-there : goal.end_row-requires-clause-there
end_row-requires-clause-there g c =
    let was = c.self.invariant.0.kept.index.live c.args.id c.in-Some.place (found_place g (goal.at.end_row-requires-clause-there g c).After-is_needed-needs) in
    let at = live_added c.args.cell (rows_for c.self.inside.lists) (rows_for c.add_row.new.lists) _ (ok_gives c.add_row.result (sym c.is_err.ensures.value ∙ c.if-is_err.false) c.add_row.ensures.ok) c.in-Some.place.cell c.args.id c.in-Some.place.born was in
    (at.0, at.1, (at.2, at.4))

pub invariant_of-self-2 : goal.invariant_of-self-2
invariant_of-self-2 g c =
    let at = (goal.at.invariant_of-self-2 g c).After-is_needed-needs in
    let changes = ok_gives c.add_row.result (sym c.is_err.ensures.value ∙ c.if-is_err.false) c.add_row.ensures.ok in
    let ends = c.end_row.ensures in
    let same : c.is_needed-needs.result ≡ c.end_row.result = c.is_needed-needs.ensures ∙ ap (λ b. list_any (λ s. nat_le b s && nat_lt s (c.self.inside.stamp + 1)) (take c.self.inside.pinned c.self.inside.pins)) (sym ends.ends.at) ∙ sym ends.ends.needed_is in
    let count : c.one_if-2.result ≡ (if c.end_row.result then 1 else 0) = c.one_if-2.ensures ∙ ap (λ (b : Bool). if b then 1 else 0) same in
    let room : c.self.inside.live + (c.self.inside.needed + (if c.end_row.result then 1 else 0)) ≤ 2 * c.self.inside.most = omega (arith, c.if-self-one_if.false, c.one_if.ensures, ap {B = ℕ} (λ (b : Bool). if b then 1 else 0) same) in
    let set_is : c.set.new.self ≡ fin.insert c.self.inside.ids c.args.id c.place_at-last.result =
    c.set.ensures ∙ cond-true (fin.contains_key c.self.inside.ids c.args.id) (fin.insert c.self.inside.ids c.args.id c.place_at-last.result) c.self.inside.ids (there_is c.self.invariant.0 c.args.id ∙ ap is_some (found_place g at)) in
    rw count (
      IsIndexed-put c.self.invariant.0.kept c.args.id c.in-Some.place (found_place g at) (time g at) (row_from g.S.Shape.widths c.args.id c.args.cell c.args.code.now) refl c.requires.id (small g at) c.add_row.new.lists changes
          c.end_row.new.lists c.end_row.result ends.ends ends.others c.self.inside.ids c.set.new.self c.end_row.new.ids c.self.invariant.0.grouped
          (ap (λ (m : Places). fin.get m c.args.id) set_is ∙ insert_own c.self.inside.ids c.args.id c.place_at-last.result ∙ ap (λ (s : Spot). Some s) (c.place_at-last.ensures ∙ ap (listed_at c.args.cell) c.kept_count.ensures))
          (λ q off. ap (λ (m : Places). fin.get m q) set_is ∙ insert_other c.self.inside.ids c.args.id c.place_at-last.result q off) ends.groups (ends.g ∙ c.add_row.ensures.g ∙ c.self.invariant.0.kept.g_is) room,
      c.self.invariant.1,
      c.self.invariant.2,
      ends.counted,
      put_few c.self.invariant.0.kept c.args.id c.in-Some.place (found_place g at) (time g at) (row_from g.S.Shape.widths c.args.id c.args.cell c.args.code.now) refl c.requires.id (small g at) c.add_row.new.lists changes
          c.end_row.new.lists c.end_row.result ends.ends ends.others c.self.invariant.4,
    )

pub returns-clause-replaced : goal.returns-clause-replaced
returns-clause-replaced g c = sym (is_there g (goal.at.returns-clause-replaced g c).After-is_needed-needs)

pub returns-clause-insert : goal.returns-clause-insert
returns-clause-insert g c = λ absent. absurd (let e : true ≡ false = sym (is_there g (goal.at.returns-clause-insert g c).After-is_needed-needs) ∙ absent in cc)

pub returns-clause-keeps : goal.returns-clause-keeps
returns-clause-keeps g c =
    let at = (goal.at.returns-clause-keeps g c).After-is_needed-needs in
    let changes = ok_gives c.add_row.result (sym c.is_err.ensures.value ∙ c.if-is_err.false) c.add_row.ensures.ok in
    keeps_of (λ s. put_done s (row_from g.S.Shape.widths c.args.id c.args.cell c.args.code.now)) c.self.view_is
    (put_keeps c.self.invariant.0.kept c.args.id c.in-Some.place (found_place g at) (time g at) (row_from g.S.Shape.widths c.args.id c.args.cell c.args.code.now) refl c.requires.id (small g at) c.add_row.new.lists changes
    c.end_row.new.lists c.end_row.result c.end_row.ensures.ends c.end_row.ensures.others)

pub returns-then-self-one_if-clause-refusals : goal.returns-then-self-one_if-clause-refusals
returns-then-self-one_if-clause-refusals g c =
    tells g (goal.at.returns-then-self-one_if-clause-refusals g c).After-is_needed-needs true _ (above _ _ _ (ap (λ n. c.self.inside.live + (c.self.inside.needed + n)) c.one_if.ensures) c.if-self-one_if.true) refl

pub returns-then-is_err-clause-refusals : goal.returns-then-is_err-clause-refusals
returns-then-is_err-clause-refusals g c =
    tells g (goal.at.returns-then-is_err-clause-refusals g c).After-is_needed-needs false _ (within _ _ _ (ap (λ n. c.self.inside.live + (c.self.inside.needed + n)) c.one_if.ensures) c.if-self-one_if.false) refl

pub returns-clause-refusals : goal.returns-clause-refusals
returns-clause-refusals g c =
    tells g (goal.at.returns-clause-refusals g c).After-is_needed-needs false _ (within _ _ _ (ap (λ n. c.self.inside.live + (c.self.inside.needed + n)) c.one_if.ensures) c.if-self-one_if.false) tt

pub returns-in_default-clause-refusals : goal.returns-in_default-clause-refusals
returns-in_default-clause-refusals g c =
    let same = sym (put_cause_kept c.self.invariant.0.kept (row_from g.S.Shape.widths c.args.id c.args.cell c.args.code.now)) ∙ ap (λ v. put_cause v (row_from g.S.Shape.widths c.args.id c.args.cell c.args.code.now)) c.self.view_is in
    subst (λ (o : Option PutRefusal). RefusesAs {T = Bool} o put.Memory c.put_new.result) (ap (λ v. put_refusal v c.args.id) (sym c.self.view_is) ∙ same) c.put_new.ensures.refusals

pub returns-in_default-clause-keeps : goal.returns-in_default-clause-keeps
returns-in_default-clause-keeps g c =
    let same = put_added c.args.self.now (subst IsTimed c.self.view_is (timed_kept c.self.invariant.0.kept)) (row_from g.S.Shape.widths c.args.id c.args.cell c.args.code.now) (absent g (goal.at.returns-in_default-clause-keeps g c).In_default) in
    ok_then c.put_new.result (λ is. subst (λ v. KeepsAs v (put_done c.args.self.now (row_from g.S.Shape.widths c.args.id c.args.cell c.args.code.now))) (sym (is ∙ same)) (keeps_same _)) c.put_new.ensures.new

pub place_at-last-requires : goal.place_at-last-requires
place_at-last-requires g c = omega (arith, c.kept_count.ensures, few_here c.self.invariant.0.kept c.args.cell)

pub set-requires-clause-place : goal.set-requires-clause-place
set-requires-clause-place g c =
    let cell : c.args.cell < c.self.inside.cells = subst (λ (s : Store). c.args.cell < s.cells) (sym c.self.view_is) c.requires.cell in
    let few = few_here c.self.invariant.0.kept c.args.cell in
    rw c.place_at-last.ensures (listed_small c.args.cell c.kept_count.result (omega (arith, cell, c.self.invariant.0.kept.cells_small.1)) (omega (arith, few, c.kept_count.ensures)))

pub end_row-requires-clause-few : goal.end_row-requires-clause-few
end_row-requires-clause-few g c =
    added_length c.args.cell (rows_for c.self.inside.lists) (rows_for c.add_row.new.lists) _ (ok_gives c.add_row.result (sym c.is_err.ensures.value ∙ c.if-is_err.false) c.add_row.ensures.ok) (few_here c.self.invariant.0.kept) c.in-Some.place.cell

pub end_row-requires-clause-ids : goal.end_row-requires-clause-ids
end_row-requires-clause-ids g c =
    (added_are c.self.invariant.0.kept (row_from g.S.Shape.widths c.args.id c.args.cell c.args.code.now) c.requires.id (small g (goal.at.end_row-requires-clause-ids g c).After-is_needed-needs) c.add_row.new.lists
    (ok_gives c.add_row.result (sym c.is_err.ensures.value ∙ c.if-is_err.false) c.add_row.ensures.ok)).ids c.in-Some.place.cell
