use Rattle.std.proofs.Common.{◌*◌, length, take, drop, ap, arith}
use Rattle.std.proofs.lemmas.List.{length-map, length-take}
use Rattle.cell_store.specs.Blocks.{slot_of}
use Rattle.cell_store.proofs.ShownLemmas.{slot_ids}
use Rattle.cell_store.proofs.snapshot.ShownCell.slots.Goals as goal

pub returns-clause-few : goal.returns-clause-few
returns-clause-few g c =
    let rest = drop (32 * c.args.n) c.self.inside.view.rows in
    omega (arith, ap length c.slots.ensures, length-map (take 32 rest) slot_of, length-take 32 rest)

pub returns-clause-ids : goal.returns-clause-ids
returns-clause-ids g c = slot_ids c.args.n c.self.inside.view.rows c.slots.result.now c.slots.ensures c.self.invariant.1.ids
