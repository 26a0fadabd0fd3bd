use Rattle.code_blocks.proofs.Words.{◌∙◌, ap, length, arith}
use Rattle.code_blocks.proofs.Stretch.{code_room, code_slot}
use Rattle.code_blocks.proofs.codes.Codes.get.Goals as goal

pub overflow_add-first : goal.overflow_add-first
overflow_add-first c = omega (arith, code_room c.self.invariant c.self.view_is c.args.at c.requires.at, c.self.inside.lanes.ok.0, c.self.inside.lanes.ok.1, c.self.inside.lanes.small)

pub offset_bounds-deref-first : goal.offset_bounds-deref-first
offset_bounds-deref-first c = omega (arith, code_room c.self.invariant c.self.view_is c.args.at c.requires.at, ap length c.deref.ensures.value)

pub slice_bounds-copy_code-end : goal.slice_bounds-copy_code-end
slice_bounds-copy_code-end c = omega (arith, code_room c.self.invariant c.self.view_is c.args.at c.requires.at, ap length c.deref.ensures.value)

pub returns : goal.returns
returns c = c.copy_code.ensures ∙ rw c.deref.ensures.value (code_slot c.self.invariant c.self.view_is c.args.at c.requires.at)
