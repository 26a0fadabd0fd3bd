use Rattle.std.proofs.Common.{arith}
use Rattle.std.proofs.lemmas.Simd.{get_or-put_chunk_at, get_or-put_chunk_below}
use Rattle.word_columns.proofs.blocks.write_lanes.Goals as goal

pub returns-clause-lanes : goal.returns-clause-lanes
returns-clause-lanes c = λ k h l. get_or-put_chunk_at c.args.at c.args.into.now c.args.lanes k 0 (omega (arith, c.fits-lanes.0)) (omega (arith, c.fits-lanes.0, c.requires))

pub returns-clause-before : goal.returns-clause-before
returns-clause-before c = λ w h. get_or-put_chunk_below c.args.at c.args.into.now c.args.lanes w 0 h
