use Rattle.cell_store.proofs.Words.{◌≡◌, ◌+◌, ◌<◌, ap, ◌∙◌, subst, length, take, ℕ, arith, List, [], set, suc, ◌++◌, ◌∷◌, Store, length-set, length-take}
use Rattle.std.proofs.Math.Seq.{take-suc-set}
use Rattle.cell_store.proofs.Counts.{IsKept-pinned}
use Rattle.cell_store.proofs.Pinned.{few_pushed}
use Rattle.cell_store.proofs.store.CellStore.pin.Goals as goal

pin_pushed : (n : ℕ) (xs : List ℕ) (x : ℕ) → n < length xs → take (n + 1) (set xs n x) ≡ take n xs ++ x ∷ []
pin_pushed n xs x h = ap (λ m. take m (set xs n x)) {x = n + 1} {y = suc n} (omega arith) ∙ take-suc-set xs n x h

pub invariant_of-self : goal.invariant_of-self
invariant_of-self g c =
    let room : c.self.inside.pinned < length c.self.inside.pins = (let a = c.self.invariant.1 in let b = c.self.invariant.2 in omega (arith, c.if-self-eq64.false)) in
    let few : length (take c.self.inside.pinned c.self.inside.pins) < 64 = (let a = c.self.invariant.1 in omega (arith, c.if-self-eq64.false, length-take c.self.inside.pinned c.self.inside.pins)) in
    rw (pin_pushed c.self.inside.pinned c.self.inside.pins c.self.inside.stamp room) (
      record { places = c.self.invariant.0.places; kept = IsKept-pinned c.self.invariant.0.kept few; grouped = c.self.invariant.0.grouped },
      (let a = c.self.invariant.1 in omega (arith, c.if-self-eq64.false)),
      length-set c.self.inside.pins c.self.inside.pinned c.self.inside.stamp ∙ c.self.invariant.2,
      c.self.invariant.3,
      few_pushed c.self.invariant.0.kept c.self.invariant.4,
    )

pub returns-clause-pins : goal.returns-clause-pins
returns-clause-pins g c =
    let room : c.self.inside.pinned < length c.self.inside.pins = (let a = c.self.invariant.1 in let b = c.self.invariant.2 in omega (arith, c.if-self-eq64.false)) in
    rw (pin_pushed c.self.inside.pinned c.self.inside.pins c.self.inside.stamp room) (ap (λ (s : Store). let t : Store = record s { pins = s.pins ++ s.stamp ∷ [] } in t) c.self.view_is)

pub returns-clause-room : goal.returns-clause-room
returns-clause-room g c =
    subst (λ (s : Store). length s.pins < 64) c.self.view_is (let a = c.self.invariant.1 in omega (arith, c.if-self-eq64.false, length-take c.self.inside.pinned c.self.inside.pins))
