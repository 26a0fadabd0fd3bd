use Rattle.word_columns.proofs.Keys.{place_is}
use Rattle.word_columns.proofs.least.first_least.Goals as goal

pub returns : goal.returns
returns c = place_is c.args.distances.now c.least_keys.result c.least_of.result c.requires.few c.least_keys.ensures c.least_of.ensures.least c.least_of.ensures.one
