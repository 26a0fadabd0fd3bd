use Rattle.std.proofs.Common.{arith}
use Rattle.coarse_rank.proofs.Keys.{keys_are}
use Rattle.coarse_rank.proofs.ranks.keys.Goals as goal

pub returns : goal.returns
returns c = keys_are c.args.scale c.args.words.now c.args.x.now c.distances.new.into c.number_each.new.distances (omega (arith, c.count-count.ensures)) c.distances.ensures.distances c.number_each.auto.distances c.number_each.ensures
