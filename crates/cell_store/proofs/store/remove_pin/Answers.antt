use Rattle.cell_store.proofs.Words.{◌≡◌, ◌<◌, length, arith, rules, length-take}
use Rattle.cell_store.proofs.Unpinning.{closed_up}
use Rattle.cell_store.proofs.store.remove_pin.Goals as goal

pub returns-clause-pins : goal.returns-clause-pins
returns-clause-pins c =
    let size : length c.close_up.new.pins ≡ length c.args.pins.now = search rules in
    let below : c.find_pin-at.result < c.args.pinned = omega (arith, c.find_pin-at.ensures.within, length-take c.args.pinned c.args.pins.now) in (
      c.find_pin-at.result,
      c.find_pin-at.ensures.within,
      c.find_pin-at.ensures.found,
      closed_up c.args.pins.now c.close_up.new.pins c.find_pin-at.result c.args.pinned below c.requires.room size c.close_up.ensures.before c.close_up.ensures.behind,
    )
