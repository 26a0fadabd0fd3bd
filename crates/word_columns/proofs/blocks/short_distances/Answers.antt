use Rattle.std.proofs.Common.{ℕ, ◌≡◌, ◌+◌, ◌-◌, ◌*◌, ◌/◌, ◌<◌, get_or, length, refl, arith}
use Rattle.word_columns.specs.Columns.{column_distance}
use Rattle.word_columns.proofs.Places.{block_more, products_at}
use Rattle.word_columns.proofs.blocks.short_distances.Goals as goal

pub write_block-requires-clause-products : goal.write_block-requires-clause-products
write_block-requires-clause-products c = products_at c.args.columns.now c.args.x.now c.widened.result c.dots_two.result.0 (2 * c.loop-b.b) _ refl c.widened.ensures c.dots_two.ensures.first

pub write_block-requires-in-loop-b-clause-products : goal.write_block-requires-in-loop-b-clause-products
write_block-requires-in-loop-b-clause-products c =
    products_at c.args.columns.now c.args.x.now c.widened-in-loop-b.result c.dots_two.result.1 (2 * c.loop-b.b + 1) _ refl c.widened-in-loop-b.ensures c.dots_two.ensures.second

pub loop-b-preserved : goal.loop-b-preserved
loop-b-preserved c = λ w h l.
    let cs = c.args.columns.now in
    let x = c.args.x.now in
    let b = c.loop-b.b in
    let first : (v : ℕ) → v < (2 * b + 1) * 16 → v < length c.args.into.now → get_or c.write_block.new.into v 0 ≡ column_distance c.args.scale cs x v =
    block_more c.args.scale cs x (length c.args.into.now) c.loop-b.into c.write_block.new.into (2 * b) c.loop-b.invariant (λ k h l. c.write_block.ensures.block k h (omega (arith, l, c.loop-b.auto.into))) c.write_block.ensures.before in
    block_more c.args.scale cs x (length c.args.into.now) c.write_block.new.into c.write_block-in-loop-b.new.into (2 * b + 1) first (λ k h l. c.write_block-in-loop-b.ensures.block k h (omega (arith, l, c.loop-b.auto.into, c.write_block.ensures.long))) c.write_block-in-loop-b.ensures.before w (omega (arith, h)) l

pub write_block-requires-then-blocks-eq1-clause-products : goal.write_block-requires-then-blocks-eq1-clause-products
write_block-requires-then-blocks-eq1-clause-products c =
    products_at c.args.columns.now c.args.x.now c.widened-then-blocks-eq1.result c.dots-sums.result ((length c.args.into.now + 15) / 16 - 1) _ refl c.widened-then-blocks-eq1.ensures c.dots-sums.ensures

pub returns-then-blocks-eq1-clause-each : goal.returns-then-blocks-eq1-clause-each
returns-then-blocks-eq1-clause-each c = λ w h.
    let m = (length c.args.into.now + 15) / 16 in
    block_more c.args.scale c.args.columns.now c.args.x.now (length c.args.into.now) c.loop-b.into c.write_block-then-blocks-eq1.new.into (m - 1)
    (λ v l s. c.loop-b.invariant v (omega (arith, l, c.if-blocks-eq1.true, c.loop-b-test.false, c.loop-b.auto.b-end)) s) (λ k h l. c.write_block-then-blocks-eq1.ensures.block k h (omega (arith, l, c.loop-b.auto.into))) c.write_block-then-blocks-eq1.ensures.before w (omega (arith, h, c.if-blocks-eq1.true, c.write_block-then-blocks-eq1.ensures.long)) (omega (arith, h, c.write_block-then-blocks-eq1.ensures.long))
