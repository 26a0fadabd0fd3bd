use Rattle.code_blocks.proofs.Words.{◌≡◌, ap, sym, ◌∙◌, length, slice_set, with_items_is, word_count}
use Rattle.code_blocks.proofs.Lanes.{word_count-codes_of, AreLanes-put, codes_of-put}
use Rattle.code_blocks.proofs.Block.set.Given.{Over}
use Rattle.code_blocks.proofs.Block.set.Goals as goal
use Rattle.code_blocks.proofs.Block.set.Goals.{After-self}

size : (g : Over) (c : After-self g) → word_count c.args.self.now ≡ length c.self.inside.lanes.items
size g c = ap word_count (sym c.self.view_is) ∙ word_count-codes_of c.self.inside.lanes.items

pub put_code-requires-clause-words : goal.put_code-requires-clause-words
put_code-requires-clause-words g c = c.requires.words.count ∙ size g (goal.at.put_code-requires-clause-words g c).After-self ∙ ap length (sym c.deref_mut.ensures.value)

pub invariant_of-self : goal.invariant_of-self
invariant_of-self g c =
    rw (with_items_is c.self.inside.lanes c.put_code.new.lanes (c.put_code.ensures.count ∙ c.deref_mut.ensures.len))
    (AreLanes-put _ _ _ _ _ c.requires.slot (rw c.deref_mut.ensures.value at c.put_code.ensures) (rw (size g (goal.at.invariant_of-self g c).After-self) at c.requires.words) c.self.invariant)

pub returns : goal.returns
returns g c =
    let new = with_items_is c.self.inside.lanes c.put_code.new.lanes (c.put_code.ensures.count ∙ c.deref_mut.ensures.len) in
    let size = size g (goal.at.returns g c).After-self in
    record {
      codes = rw new (codes_of-put _ _ _ _ c.requires.slot (rw c.deref_mut.ensures.value at c.put_code.ensures) (c.requires.words.count ∙ size) c.self.invariant.sizes)
          ∙ ap (λ codes. slice_set codes c.args.slot c.args.code.now) c.self.view_is;
      count = rw new (word_count-codes_of c.put_code.new.lanes ∙ c.put_code.ensures.count ∙ ap length c.deref_mut.ensures.value ∙ sym size);
    }
