use Rattle.std.specs.FinMap as fin
use Rattle.cell_store.proofs.Words.{ℕ, suc, ◌+◌, ap, ◌∙◌, refl, arith, slot_at, never, Slot}
use Rattle.std.proofs.lemmas.Bool.{eq-eqb, ne_eqb}
use Rattle.cell_store.specs.Groups.{listed_anew}
use Rattle.cell_store.proofs.Grouped.{anew_let, anew_set}
use Rattle.cell_store.proofs.groups.list_groups.Goals as goal
use Rattle.cell_store.proofs.groups.list_groups.Goals.{then-slot, else-slot}

pub loop-at-preserved : goal.loop-at-preserved
loop-at-preserved c =
    let s : Slot = slot_at c.args.slots.now c.loop-at.at in
    λ id.
    elim c.if-slot.branch [
      | then-slot w ↦ anew_set c.args.cell c.loop-at.at c.args.slots.now c.loop-at.ids c.if-slot.ids c.args.ids.now s refl c.loop-at.invariant (eq-eqb s.died never w.if-slot.true) w.place_at.result w.place_at.ensures (w.ids-is ∙ w.set.ensures) id
      | else-slot w ↦ anew_let c.args.cell c.loop-at.at c.args.slots.now c.loop-at.ids c.if-slot.ids c.args.ids.now s refl c.loop-at.invariant (ne_eqb s.died never w.if-slot.false) w.ids-is id
    ]
    ∙ ap (λ (n : ℕ). listed_anew c.args.cell c.args.slots.now n id (fin.get c.args.ids.now id)) {x = suc c.loop-at.at} {y = c.loop-at.at + 1} (omega arith)
