use Rattle.cell_store.proofs.Words.{◌≡◌, ◌^◌, ◌<◌, ap, sym, ◌∙◌, subst, arith, rules, false, Some, is_some, has_id, Store, live_rows, deleted}
use Rattle.cell_store.proofs.Putting.{has_id_is, keeps_of, some_live, IsIndexed-ended, ended_few, ended_keeps}
use Rattle.cell_store.proofs.Counts.{few_here}
use Rattle.cell_store.proofs.Indexed.{found_is}
use Rattle.std.specs.FinMap as fin
use Rattle.id_table.specs.Table.{Places}
use Rattle.id_table.proofs.Maps.{remove_own, remove_other}
use Rattle.cell_store.proofs.store.CellStore.delete.Given.{Over}
use Rattle.cell_store.proofs.store.CellStore.delete.Goals as goal
use Rattle.cell_store.proofs.store.CellStore.delete.Goals.{In-Some}

found : (g : Over) (c : In-Some g) → c.self.invariant.0.places c.args.id ≡ Some c.in-Some.place
found g c = found_is c.self.invariant.0 c.args.id c.find_row.result c.find_row.ensures ∙ c.in-Some.is

time : (g : Over) (c : In-Some g) → c.self.inside.stamp < 2 ^ 62
time g c = subst (λ (s : Store). s.stamp < 2 ^ 62) (sym c.self.view_is) c.requires.stamp

pub returns-in_default-clause-absent : goal.returns-in_default-clause-absent
returns-in_default-clause-absent g c =
    let none : is_some c.find_row.result ≡ false = search rules in
    ap (λ (s : Store). has_id (live_rows s) c.args.id) (sym c.self.view_is) ∙ has_id_is c.self.invariant.0.kept c.args.id ∙ ap is_some (found_is c.self.invariant.0 c.args.id c.find_row.result c.find_row.ensures) ∙ none

pub returns-clause-there : goal.returns-clause-there
returns-clause-there g c =
    ap (λ (s : Store). has_id (live_rows s) c.args.id) (sym c.self.view_is) ∙ has_id_is c.self.invariant.0.kept c.args.id ∙ ap is_some (found g (goal.at.returns-clause-there g c).In-Some)

pub overflow_sub-self : goal.overflow_sub-self
overflow_sub-self g c = (let at = (goal.at.overflow_sub-self g c).In-Some in some_live c.self.invariant.0.kept c.args.id c.in-Some.place (found g at) (time g at))

pub invariant_of-self : goal.invariant_of-self
invariant_of-self g c =
    let at = (goal.at.invariant_of-self g c).In-Some in
    let ends = c.end_row-needed.ensures in
    rw c.one_if.ensures (
      IsIndexed-ended c.self.invariant.0.kept c.args.id c.in-Some.place (found g at) (time g at) c.end_row-needed.new.lists c.end_row-needed.result ends.ends ends.others
          c.self.inside.ids c.remove.new.self c.end_row-needed.new.ids c.self.invariant.0.grouped (ap (λ (m : Places). fin.get m c.args.id) c.remove.ensures.others ∙ remove_own c.self.inside.ids c.args.id)
          (λ q off. ap (λ (m : Places). fin.get m q) c.remove.ensures.others ∙ remove_other c.self.inside.ids c.args.id q off) ends.groups (ends.g ∙ c.self.invariant.0.kept.g_is),
      c.self.invariant.1,
      c.self.invariant.2,
      ends.counted,
      ended_few c.self.invariant.0.kept c.args.id c.in-Some.place (found g at) (time g at) c.end_row-needed.new.lists c.end_row-needed.result ends.ends ends.others c.self.invariant.4,
    )

pub returns-clause-keeps : goal.returns-clause-keeps
returns-clause-keeps g c =
    let at = (goal.at.returns-clause-keeps g c).In-Some in
    let ends = c.end_row-needed.ensures in
    keeps_of (λ s. deleted s c.args.id) c.self.view_is (ended_keeps c.self.invariant.0.kept c.args.id c.in-Some.place (found g at) (time g at) c.end_row-needed.new.lists c.end_row-needed.result ends.ends ends.others)

pub end_row-needed-requires-clause-few : goal.end_row-needed-requires-clause-few
end_row-needed-requires-clause-few g c = (let few = few_here c.self.invariant.0.kept c.in-Some.place.cell in omega (arith, few))
