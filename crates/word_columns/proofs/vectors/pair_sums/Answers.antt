use Rattle.word_columns.proofs.Lanes.{pair_sum_lanes}
use Rattle.word_columns.proofs.vectors.pair_sums.Goals as goal

pub returns : goal.returns
returns c = pair_sum_lanes c.args.v c.fits-v.0
