use Rattle.std.proofs.Common.{length, arith}
use Rattle.word_columns.proofs.Places.{block_more}
use Rattle.word_columns.proofs.blocks.long_distances.Goals as goal

pub loop-b-preserved : goal.loop-b-preserved
loop-b-preserved c = block_more c.args.scale c.args.columns.now c.args.x.now (length c.args.into.now) c.loop-b.into c.write_block.new.into c.loop-b.b c.loop-b.invariant (λ k h l. c.write_block.ensures.block k h (omega (arith, l, c.loop-b.auto.into))) c.write_block.ensures.before
