use Rattle.cell_store.proofs.Words.{arith, ◌≡◌, ap, sym, ◌∙◌, refl, length, filter, inl, ℕ, is_live, slot_needed_dead, rows_in}
use Rattle.cell_store.proofs.FinishLemmas.{length-filter_slots}
use Rattle.cell_store.proofs.OwnRows.{slots_are, length_rows}
use Rattle.cell_store.proofs.Counting.{live_count, live_fewer, whole_needs}
use Rattle.cell_store.proofs.rows.Rows.settle.Goals as goal

pub returns-clause-needed : goal.returns-clause-needed
returns-clause-needed g c = λ cell.
    c.needed_dead_count.ensures
    ∙ ap (λ l. length (filter (slot_needed_dead c.args.pins.now) l)) (c.deref.ensures.value ∙ sym (slots_are g.S.Shape.widths cell c.tidy.new.self c.tidy.ensures.is.room))
    ∙ length-filter_slots (slot_needed_dead c.args.pins.now) (rows_in g.S.Shape.widths cell c.tidy.new.self)

pub returns-then-self-len : goal.returns-then-self-len
returns-then-self-len g c =
    let full : (cell : ℕ) → length (filter is_live (rows_in g.S.Shape.widths cell c.args.self.now)) ≡ length (rows_in g.S.Shape.widths cell c.args.self.now) = λ cell.
    sym (c.requires.counted ∙ live_count g.S.Shape.widths cell c.args.self.now c.requires.is.room) ∙ c.if-self-len.true ∙ c.len.ensures ∙ c.args.self.now.slots.ok.0 ∙ sym (length_rows g.S.Shape.widths cell c.args.self.now c.requires.is.room) in
    record {
      tidied = λ cell. inl refl;
      few = λ cell. omega (arith, full cell, live_fewer c.args.pins.now (rows_in g.S.Shape.widths cell c.args.self.now));
      needed = λ cell. sym (ap length (whole_needs c.args.pins.now (rows_in g.S.Shape.widths cell c.args.self.now) (full cell)));
      counted = c.requires.counted;
      is = c.requires.is;
    }
