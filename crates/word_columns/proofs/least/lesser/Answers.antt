use Rattle.word_columns.proofs.Lanes.{lesser_lanes}
use Rattle.word_columns.proofs.least.lesser.Goals as goal

pub returns : goal.returns
returns c = lesser_lanes c.args.one c.args.other c.fits-one.0 c.fits-other.0
