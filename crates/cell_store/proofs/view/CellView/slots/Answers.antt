use Rattle.cell_store.proofs.Words.{◌*◌, ap, take, drop, arith, map, slot_of, take-map, drop-map}
use Rattle.cell_store.proofs.view.CellView.slots.Goals as goal

pub returns : goal.returns
returns g c = rw (c.group.ensures, c.all_slots.ensures, drop-map, take-map) (ap (λ n. map slot_of (take 32 (drop n c.args.self.now.rows))) {x = c.args.n * 32} {y = 32 * c.args.n} (omega arith))
