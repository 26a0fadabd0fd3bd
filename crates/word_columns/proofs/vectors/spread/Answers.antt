use Rattle.word_columns.proofs.Lanes.{spread_lanes}
use Rattle.word_columns.proofs.vectors.spread.Goals as goal

pub returns : goal.returns
returns c = spread_lanes c.args.pair c.fits-pair.0
