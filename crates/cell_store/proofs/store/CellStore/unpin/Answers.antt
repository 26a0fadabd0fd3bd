use Rattle.cell_store.proofs.Words.{refl, ◌≡◌, ◌≤◌, sym, ◌∙◌, subst, length, take, arith, rules, length-take, Store, Unpins, rows_for}
use Rattle.cell_store.specs.Groups.{IsIndexed}
use Rattle.cell_store.proofs.Counts.{few_here}
use Rattle.cell_store.proofs.Used.{used_tidied}
use Rattle.cell_store.proofs.StoreLemmas.{keeps_of}
use Rattle.cell_store.proofs.Unpinning.{IsKept-unpinned, unpinned_few, unpinned_held}
use Rattle.cell_store.proofs.store.CellStore.unpin.Given.{Over}
use Rattle.cell_store.proofs.store.CellStore.unpin.Goals as goal
use Rattle.cell_store.proofs.store.CellStore.unpin.Goals.{After-settle_all-needed}

kept : (g : Over) (c : After-settle_all-needed g)
    → IsIndexed c.self.inside.g c.self.inside.cells c.self.inside.most c.self.inside.stamp c.self.inside.live c.settle_all-needed.result (take c.remove_pin-self-inside.result c.remove_pin-self-inside.new.pins) c.settle_all-needed.new.lists c.settle_all-needed.new.ids
kept g c =
    let few : length (take c.remove_pin-self-inside.result c.remove_pin-self-inside.new.pins) ≤ 64 = (let a = c.self.invariant.1 in omega (arith, c.remove_pin-self-inside.ensures.left, length-take c.remove_pin-self-inside.result c.remove_pin-self-inside.new.pins)) in
    let settled = c.settle_all-needed.ensures in
    record {
      places = c.self.invariant.0.places;
      kept = IsKept-unpinned c.self.invariant.0.kept (take c.remove_pin-self-inside.result c.remove_pin-self-inside.new.pins) c.settle_all-needed.new.lists settled.tidied c.args.stamp c.remove_pin-self-inside.ensures.pins
          c.settle_all-needed.result settled.needed (settled.g ∙ c.self.invariant.0.kept.g_is) few settled.few;
      grouped = settled.groups c.self.invariant.0.places c.self.invariant.0.kept.index c.self.invariant.0.grouped;
    }

pub settle_all-needed-requires-clause-few : goal.settle_all-needed-requires-clause-few
settle_all-needed-requires-clause-few g c = few_here c.self.invariant.0.kept

pub overflow_cast-self : goal.overflow_cast-self
overflow_cast-self g c = (let is = (kept g (goal.at.overflow_cast-self g c).After-settle_all-needed).kept in omega (arith, is.few_needed, is.most_small.1))

pub invariant_of-self : goal.invariant_of-self
invariant_of-self g c = (
  kept g (goal.at.invariant_of-self g c).After-settle_all-needed,
  (let a = c.self.invariant.1 in omega (arith, c.remove_pin-self-inside.ensures.left)),
  (let size : length c.remove_pin-self-inside.new.pins ≡ length c.self.inside.pins = search rules in size ∙ c.self.invariant.2),
  c.self.invariant.3 ∙ sym (used_tidied (take c.remove_pin-self-inside.result c.remove_pin-self-inside.new.pins) (rows_for c.self.inside.lists) (rows_for c.settle_all-needed.new.lists) c.self.inside.cells c.settle_all-needed.ensures.tidied),
  unpinned_few c.self.invariant.0.kept (take c.remove_pin-self-inside.result c.remove_pin-self-inside.new.pins) c.settle_all-needed.new.lists c.settle_all-needed.ensures.tidied c.args.stamp c.remove_pin-self-inside.ensures.pins c.self.invariant.4,
)

pub returns-clause-pins : goal.returns-clause-pins
returns-clause-pins g c = subst (λ (s : Store). Unpins c.args.stamp s.pins (take c.remove_pin-self-inside.result c.remove_pin-self-inside.new.pins)) c.self.view_is c.remove_pin-self-inside.ensures.pins

pub returns-clause-keeps : goal.returns-clause-keeps
returns-clause-keeps g c =
    let held = unpinned_held c.self.invariant.0.kept (take c.remove_pin-self-inside.result c.remove_pin-self-inside.new.pins) c.settle_all-needed.new.lists c.settle_all-needed.ensures.tidied c.args.stamp c.remove_pin-self-inside.ensures.pins in
    keeps_of (λ s. record s { pins = take c.remove_pin-self-inside.result c.remove_pin-self-inside.new.pins }) c.self.view_is (record { sizes = (refl, refl, refl); stamp = refl; pins = refl; held = held })
