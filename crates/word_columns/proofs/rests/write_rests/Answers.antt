use Rattle.std.proofs.Common.{length, ◌∙◌, arith}
use Rattle.word_columns.specs.Left.{column_rest}
use Rattle.word_columns.proofs.Places.{words_more}
use Rattle.word_columns.proofs.rests.write_rests.Goals as goal

pub loop-b-preserved : goal.loop-b-preserved
loop-b-preserved c =
    words_more (column_rest c.args.scale c.args.columns.now c.args.x.now c.args.coarse.now) (length c.args.into.now) c.loop-b.into c.write_lanes.new.into c.loop-b.b c.loop-b.invariant
    (λ k h l. c.write_lanes.ensures.lanes k h (omega (arith, l, c.loop-b.auto.into)) ∙ c.block_rests-found.ensures.each k h) c.write_lanes.ensures.before
