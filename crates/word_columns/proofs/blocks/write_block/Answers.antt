use Rattle.std.proofs.Common.{◌*◌, get_or, length, ◌∙◌, arith}
use lib.Lanes.{chunk}
use Rattle.std.proofs.lemmas.Simd.{get_or-chunk}
use Rattle.word_columns.specs.Columns.{component, pairs_of}
use Rattle.word_columns.proofs.Places.{squares_at}
use Rattle.word_columns.proofs.Sums.{component_lt}
use Rattle.word_columns.proofs.Squares.{block_is, squares_small}
use Rattle.word_columns.proofs.blocks.write_block.Goals as goal

pub differences-found-requires-clause-norms : goal.differences-found-requires-clause-norms
differences-found-requires-clause-norms c = λ k h.
    let n = length c.args.x.now in
    let at = c.args.b * (32 * pairs_of n) in
    omega (
      arith,
      c.requires.short,
      get_or-chunk (c.args.b * 16) 16 c.args.norms.now k 0 h,
      squares_at c.args.columns.now c.args.norms.now (length c.args.x.now) (length c.args.into.now) c.args.b c.requires.kept c.requires.some k h,
      squares_small n (component c.args.columns.now at k) (λ i _. component_lt c.args.columns.now c.type_inv.columns at k i),
    )

pub differences-found-requires-clause-enough : goal.differences-found-requires-clause-enough
differences-found-requires-clause-enough c = λ k h.
    let n = length c.args.x.now in
    let at = c.args.b * (32 * pairs_of n) in
    (block_is n c.args.scale (λ i. get_or c.args.x.now i 0) (component c.args.columns.now at k) c.args.base (get_or (chunk (c.args.b * 16) 16 c.args.norms.now) k 0) (get_or c.args.products k 0) c.requires.base
    (get_or-chunk (c.args.b * 16) 16 c.args.norms.now k 0 h ∙ squares_at c.args.columns.now c.args.norms.now (length c.args.x.now) (length c.args.into.now) c.args.b c.requires.kept c.requires.some k h)
    (c.requires.products.each k h)).0

pub returns-clause-block : goal.returns-clause-block
returns-clause-block c = λ k h l.
    let n = length c.args.x.now in
    let at = c.args.b * (32 * pairs_of n) in
    c.write_lanes.ensures.lanes k h l ∙ c.differences-found.ensures.each k h
    ∙ (block_is n c.args.scale (λ i. get_or c.args.x.now i 0) (component c.args.columns.now at k) c.args.base (get_or (chunk (c.args.b * 16) 16 c.args.norms.now) k 0) (get_or c.args.products k 0) c.requires.base
    (get_or-chunk (c.args.b * 16) 16 c.args.norms.now k 0 h ∙ squares_at c.args.columns.now c.args.norms.now n (length c.args.into.now) c.args.b c.requires.kept c.requires.some k h)
    (c.requires.products.each k h)).1
