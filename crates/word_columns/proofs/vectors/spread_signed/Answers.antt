use Rattle.word_columns.proofs.Lanes.{spread_signed_lanes}
use Rattle.word_columns.proofs.vectors.spread_signed.Goals as goal

pub returns : goal.returns
returns c = spread_signed_lanes c.args.pair c.fits-pair.0
