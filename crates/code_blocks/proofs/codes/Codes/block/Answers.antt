use Rattle.code_blocks.proofs.Words.{arith, ap, length}
use Rattle.code_blocks.proofs.Stretch.{block_room, one_block, AreLanes-block, IsBlock-block}
use Rattle.code_blocks.proofs.codes.Codes.block.Goals as goal

pub overflow_mul-first : goal.overflow_mul-first
overflow_mul-first g c = omega (arith, block_room c.self.invariant c.self.view_is c.args.n c.requires.there, c.self.inside.lanes.ok.0, c.self.inside.lanes.ok.1, c.self.inside.lanes.small)

pub overflow_add-result : goal.overflow_add-result
overflow_add-result g c = omega (arith, block_room c.self.invariant c.self.view_is c.args.n c.requires.there, c.self.inside.lanes.ok.0, c.self.inside.lanes.ok.1, c.self.inside.lanes.small)

pub offset_bounds-deref-first : goal.offset_bounds-deref-first
offset_bounds-deref-first g c = omega (arith, block_room c.self.invariant c.self.view_is c.args.n c.requires.there, ap length c.deref.ensures.value)

pub slice_bounds-result-end : goal.slice_bounds-result-end
slice_bounds-result-end g c = omega (arith, block_room c.self.invariant c.self.view_is c.args.n c.requires.there, ap length c.deref.ensures.value)

pub invariant_of-result : goal.invariant_of-result
invariant_of-result g c = rw c.deref.ensures.value (AreLanes-block c.self.invariant c.self.view_is c.args.n c.requires.there g.S.Shape.widths c.requires.words)

pub returns-clause-words : goal.returns-clause-words
returns-clause-words g c = rw c.deref.ensures.value (IsBlock-block c.self.invariant c.self.view_is c.args.n c.requires.there g.S.Shape.widths c.requires.words)

pub returns-clause-codes : goal.returns-clause-codes
returns-clause-codes g c = rw c.deref.ensures.value (one_block c.self.invariant c.self.view_is c.args.n c.requires.there)
