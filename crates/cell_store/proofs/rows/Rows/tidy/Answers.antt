use Rattle.cell_store.proofs.Words.{◌≡◌, ap, sym, ◌∙◌, length, arith, filter, is_held, slot_held, rows_in, filter_through}
use Rattle.cell_store.proofs.FinishLemmas.{length-filter_slots}
use Rattle.cell_store.proofs.OwnRows.{length_rows, slots_are}
use Rattle.cell_store.proofs.Counting.{live_count, live_fewer}
use Rattle.cell_store.proofs.rows.Rows.tidy.Goals as goal

pub returns-then-kept-allowed-clause-few : goal.returns-then-kept-allowed-clause-few
returns-then-kept-allowed-clause-few g c = λ cell.
    let size = length_rows g.S.Shape.widths cell c.args.self.now c.requires.is.room in
    let live = c.requires.counted ∙ live_count g.S.Shape.widths cell c.args.self.now c.requires.is.room in
    omega (arith, size, live, live_fewer c.args.pins.now (rows_in g.S.Shape.widths cell c.args.self.now), c.if-kept-allowed.true, c.allowed.ensures, c.len-kept.ensures)

pub returns-then-allowed-kept-clause-few : goal.returns-then-allowed-kept-clause-few
returns-then-allowed-kept-clause-few g c = λ cell.
    rw (c.compact.ensures.rows cell) (omega (arith, ap length (filter_through (is_held c.args.pins.now) (is_held c.args.pins.now) (rows_in g.S.Shape.widths cell c.args.self.now) (λ k h. h))))

pub returns-else-allowed-kept-clause-few : goal.returns-else-allowed-kept-clause-few
returns-else-allowed-kept-clause-few g c = λ cell.
    let held : c.held_count-held.result ≡ length (filter (is_held c.args.pins.now) (rows_in g.S.Shape.widths cell c.args.self.now)) =
    c.held_count-held.ensures
    ∙ ap (λ l. length (filter (slot_held c.args.pins.now) l)) (c.deref.ensures.value ∙ sym (slots_are g.S.Shape.widths cell c.args.self.now c.requires.is.room))
    ∙ length-filter_slots (slot_held c.args.pins.now) (rows_in g.S.Shape.widths cell c.args.self.now) in
    omega (arith, held, c.if-allowed-kept.false, c.allowed-2.ensures, c.len-kept.ensures, c.args.self.now.slots.ok.0, length_rows g.S.Shape.widths cell c.args.self.now c.requires.is.room)
