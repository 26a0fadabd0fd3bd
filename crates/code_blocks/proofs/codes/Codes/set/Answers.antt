use Rattle.code_blocks.proofs.Words.{ap, sym, ◌∙◌, length, arith, with_items_is, Coded}
use Rattle.code_blocks.proofs.Stretch.{code_room, put_stretch, put_shown}
use Rattle.code_blocks.proofs.codes.Codes.set.Goals as goal

pub put_in-requires-clause-room : goal.put_in-requires-clause-room
put_in-requires-clause-room c =
    omega (arith, code_room c.self.invariant c.self.view_is c.args.at c.requires.at, c.requires.words, ap (λ (v : Coded). v.g) (sym c.self.view_is), ap length c.deref_mut.ensures.value)

pub invariant_of-self : goal.invariant_of-self
invariant_of-self c =
    rw (with_items_is c.self.inside.lanes c.put_in.new.lanes (c.put_in.ensures.count ∙ c.deref_mut.ensures.len))
    (put_stretch c.self.invariant c.self.view_is c.args.at c.put_in.new.lanes c.args.code.now c.requires.at c.requires.words (rw c.deref_mut.ensures.value at c.put_in.ensures))

pub returns : goal.returns
returns c =
    rw (with_items_is c.self.inside.lanes c.put_in.new.lanes (c.put_in.ensures.count ∙ c.deref_mut.ensures.len))
    (put_shown c.self.invariant c.self.view_is c.args.at c.put_in.new.lanes c.args.code.now c.requires.at c.requires.words (rw c.deref_mut.ensures.value at c.put_in.ensures))
