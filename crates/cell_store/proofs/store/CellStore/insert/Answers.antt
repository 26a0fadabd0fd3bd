use Rattle.cell_store.proofs.Words.{◌≡◌, ◌*◌, ◌+◌, ◌^◌, ◌<◌, ◌≤◌, ap, sym, ◌∙◌, subst, take, refl, arith, ℕ, Bool, true, false, Some, None, Err, IfErr, is_some, Result, Option, if◌then◌else◌, common_steps, InsertRefusal, insert_refusal, RefusesAs, Store, inserted, rows_for}
use Rattle.std.specs.Result.{is_err}
use Rattle.cell_store.specs.declared.InsertRefusal.TheVariants.{Present, Full, Held, Memory}
use Rattle.std.specs.FinMap as fin
use Rattle.id_table.specs.declared.Place.{Place as Spot}
use Rattle.id_table.specs.Table.{Places}
use Rattle.id_table.proofs.Maps.{insert_own, insert_other, remove_inserted}
use Rattle.cell_store.specs.Groups.{listed_at}
use Rattle.cell_store.proofs.Counts.{few_here}
use Rattle.cell_store.proofs.Grouped.{listed_small}
use Rattle.cell_store.proofs.Indexed.{there_is, free_is, IsIndexed-same}
use Rattle.cell_store.proofs.Putting.{err_gives, ok_gives, first_cause, refusal_is, all_kept_same, row_from, IsIndexed-added, kept_added, added_few, few_same}
use Rattle.cell_store.proofs.store.CellStore.insert.Given.{Over}
use Rattle.cell_store.proofs.store.CellStore.insert.Goals as goal
use Rattle.cell_store.proofs.store.CellStore.insert.Goals.{In-Ok}

-- the counts tell the cause
refuses : {T : Type 0} {s t : Store} {o : Option InsertRefusal} (id : ℕ) (r : Result T InsertRefusal) → s ≡ t → insert_refusal s id ≡ o → RefusesAs o Memory r → RefusesAs (insert_refusal t id) Memory r
refuses id r same is refused = subst (λ (o : Option InsertRefusal). RefusesAs o Memory r) (sym is ∙ ap (λ v. insert_refusal v id) same) refused

-- a cause that comes behind that of an id that is there
module _ (most live needed : ℕ) (there : Bool) (r : InsertRefusal) where
  full_first : most ≤ live → r ≡ (if there then Present else Full) → first_cause most there live needed ≡ Some r
  full_first full is = grind (arith, common_steps)

  held_first : live < most → 2 * most ≤ live + needed → r ≡ (if there then Present else Held) → first_cause most there live needed ≡ Some r
  held_first room held is = grind (arith, common_steps)

with_room : (most live needed : ℕ) (there : Bool) → live < most → live + needed < 2 * most → first_cause most there live needed ≡ (if there then Some Present else None)
with_room most live needed there room held = grind (arith, common_steps)

-- where there is room, an id that is there is the one cause
there_alone : (there : Bool) (r : InsertRefusal) → r ≡ (if there then Present else Memory) → RefusesAs {T = Unit {0}} (if there then Some Present else None) Memory (Err r)
there_alone true r is = is
there_alone false r is = is

-- and else there is none
none : (g : Over) (c : In-Ok g) → fin.get c.self.inside.ids c.args.id ≡ None
none g c = ok_gives c.give_place.result (ap is_err c.in-Ok.is) c.give_place.ensures.free

free : (g : Over) (c : In-Ok g) → c.self.invariant.0.places c.args.id ≡ None
free g c = free_is c.self.invariant.0 c.args.id (none g c)

given : (g : Over) (c : In-Ok g) → c.give_place.new.ids ≡ fin.insert c.self.inside.ids c.args.id c.place_at-place.result
given g c = ok_gives c.give_place.result (ap is_err c.in-Ok.is) c.give_place.ensures.put

small : (g : Over) (c : In-Ok g) → c.args.cell < c.self.inside.cells
small g c = subst (λ (s : Store). c.args.cell < s.cells) (sym c.self.view_is) c.requires.cell

no_cause : (g : Over) (c : In-Ok g) (r : Result (Unit {0}) InsertRefusal) → RefusesAs None Memory r → RefusesAs (insert_refusal c.args.self.now c.args.id) Memory r
no_cause g c r = refuses c.args.id r c.self.view_is
    (refusal_is c.self.invariant.0.kept c.args.id ∙ with_room c.self.inside.most c.self.inside.live c.self.inside.needed (is_some (c.self.invariant.0.places c.args.id)) c.if-self.false c.if-self-2.false ∙ ap (λ (b : Bool). if b then Some Present else None) (ap is_some (free g c)))

pub returns-then-self-clause-refusals : goal.returns-then-self-clause-refusals
returns-then-self-clause-refusals g c =
    refuses c.args.id _ c.self.view_is (refusal_is c.self.invariant.0.kept c.args.id ∙ full_first c.self.inside.most c.self.inside.live c.self.inside.needed _ c.there_or.result c.if-self.true (c.there_or.ensures ∙ ap (λ (b : Bool). if b then Present else Full) (there_is c.self.invariant.0 c.args.id))) refl

pub returns-then-self-2-clause-refusals : goal.returns-then-self-2-clause-refusals
returns-then-self-2-clause-refusals g c =
    refuses c.args.id _ c.self.view_is
    (refusal_is c.self.invariant.0.kept c.args.id ∙ held_first c.self.inside.most c.self.inside.live c.self.inside.needed _ c.there_or-then-self-2.result c.if-self.false c.if-self-2.true (c.there_or-then-self-2.ensures ∙ ap (λ (b : Bool). if b then Present else Held) (there_is c.self.invariant.0 c.args.id))) refl

pub invariant_of-self : goal.invariant_of-self
invariant_of-self g c =
    let same = err_gives c.give_place.result (ap is_err c.in-Err.is) c.give_place.ensures.err in
    rw same c.self.invariant

pub returns-in-Err-clause-refusals : goal.returns-in-Err-clause-refusals
returns-in-Err-clause-refusals g c =
    let there = is_some (c.self.invariant.0.places c.args.id) in
    refuses c.args.id _ c.self.view_is (refusal_is c.self.invariant.0.kept c.args.id ∙ with_room c.self.inside.most c.self.inside.live c.self.inside.needed there c.if-self.false c.if-self-2.false)
    (there_alone there c.in-Err.refusal (subst (λ (r : Result (Unit {0}) InsertRefusal). IfErr r (λ cause. cause ≡ (if there then Present else Memory))) c.in-Err.is (subst (λ (b : Bool). IfErr c.give_place.result (λ cause. cause ≡ (if b then Present else Memory))) (there_is c.self.invariant.0 c.args.id) c.give_place.ensures.refused)))

pub returns-then-is_err-clause-refusals : goal.returns-then-is_err-clause-refusals
returns-then-is_err-clause-refusals g c = no_cause g (goal.at.returns-then-is_err-clause-refusals g c).In-Ok _ refl

pub invariant_of-self-then-is_err : goal.invariant_of-self-then-is_err
invariant_of-self-then-is_err g c =
    let at = (goal.at.invariant_of-self-then-is_err g c).In-Ok in
    let same = err_gives c.add_row.result (sym c.is_err.ensures.value ∙ c.if-is_err.true) c.add_row.ensures.err in (
      IsIndexed-same c.self.invariant.0 c.add_row.new.lists c.remove.new.self same (c.add_row.ensures.g ∙ c.self.invariant.0.kept.g_is)
          (c.remove.ensures.others ∙ ap (λ (m : Places). fin.remove m c.args.id) (given g at) ∙ remove_inserted c.self.inside.ids c.args.id c.place_at-place.result (none g at)),
      c.self.invariant.1,
      c.self.invariant.2,
      c.add_row.ensures.counted,
      few_same c.self.inside.most (take c.self.inside.pinned c.self.inside.pins) (rows_for c.self.inside.lists) (rows_for c.add_row.new.lists) c.self.inside.cells same c.self.invariant.4,
    )

pub returns-then-is_err-clause-err : goal.returns-then-is_err-clause-err
returns-then-is_err-clause-err g c =
    rw (all_kept_same (rows_for c.self.inside.lists) (rows_for c.add_row.new.lists) (err_gives c.add_row.result (sym c.is_err.ensures.value ∙ c.if-is_err.true) c.add_row.ensures.err) c.self.inside.cells) c.self.view_is

pub invariant_of-self-2 : goal.invariant_of-self-2
invariant_of-self-2 g c =
    let at = (goal.at.invariant_of-self-2 g c).In-Ok in
    let changes = ok_gives c.add_row.result (sym c.is_err.ensures.value ∙ c.if-is_err.false) c.add_row.ensures.ok in
    let time : c.self.inside.stamp < 2 ^ 62 = subst (λ (s : Store). s.stamp < 2 ^ 62) (sym c.self.view_is) c.requires.stamp in (
      IsIndexed-added c.self.invariant.0.kept (row_from g.S.Shape.widths c.args.id c.args.cell c.args.code.now) c.requires.id (small g at) c.add_row.new.lists changes c.self.inside.ids c.give_place.new.ids c.self.invariant.0.grouped (free g at)
          (ap (λ (m : Places). fin.get m c.args.id) (given g at) ∙ insert_own c.self.inside.ids c.args.id c.place_at-place.result ∙ ap (λ (s : Spot). Some s) (c.place_at-place.ensures ∙ ap (listed_at c.args.cell) c.kept_count.ensures))
          (λ q off. ap (λ (m : Places). fin.get m q) (given g at) ∙ insert_other c.self.inside.ids c.args.id c.place_at-place.result q off) (c.add_row.ensures.g ∙ c.self.invariant.0.kept.g_is) c.if-self.false c.if-self-2.false time,
      c.self.invariant.1,
      c.self.invariant.2,
      c.add_row.ensures.counted,
      added_few c.self.invariant.0.kept (row_from g.S.Shape.widths c.args.id c.args.cell c.args.code.now) c.requires.id (small g at) c.add_row.new.lists changes c.self.invariant.4,
    )

pub returns-clause-refusals : goal.returns-clause-refusals
returns-clause-refusals g c = no_cause g (goal.at.returns-clause-refusals g c).In-Ok _ tt

pub returns-clause-ok : goal.returns-clause-ok
returns-clause-ok g c =
    let changes = ok_gives c.add_row.result (sym c.is_err.ensures.value ∙ c.if-is_err.false) c.add_row.ensures.ok in
    rw (kept_added c.self.invariant.0.kept (row_from g.S.Shape.widths c.args.id c.args.cell c.args.code.now) c.requires.id (small g (goal.at.returns-clause-ok g c).In-Ok) c.add_row.new.lists changes)
    (ap (λ (s : Store). inserted s (row_from g.S.Shape.widths c.args.id c.args.cell c.args.code.now)) c.self.view_is)

pub place_at-place-requires : goal.place_at-place-requires
place_at-place-requires g c = omega (arith, c.kept_count.ensures, few_here c.self.invariant.0.kept c.args.cell)

pub give_place-requires-clause-place : goal.give_place-requires-clause-place
give_place-requires-clause-place g c =
    let cell : c.args.cell < c.self.inside.cells = subst (λ (s : Store). c.args.cell < s.cells) (sym c.self.view_is) c.requires.cell in
    let few = few_here c.self.invariant.0.kept c.args.cell in
    rw c.place_at-place.ensures (listed_small c.args.cell c.kept_count.result (omega (arith, cell, c.self.invariant.0.kept.cells_small.1)) (omega (arith, few, c.kept_count.ensures)))
