use Rattle.cell_store.proofs.Words.{◌≡◌, ◌<◌, ap, sym, ◌∙◌, subst, length, ℕ, refl, arith, inr, filter, is_held, no_row, row_at, slot_held, rows_in, HasCodes}
use Rattle.cell_store.proofs.Compacting.{not_compacted, all_compacted, row_kept, row_gone}
use Rattle.cell_store.proofs.OwnRows.{own_codes, length_rows, slot_is}
use Rattle.cell_store.proofs.Counting.{live_count, tidied_live}
use Rattle.cell_store.proofs.rows.Rows.compact.Goals as goal
use Rattle.cell_store.proofs.rows.Rows.compact.Goals.{then-is_held, else-is_held}

pub copy-requires-clause-is : goal.copy-requires-clause-is
copy-requires-clause-is g c = own_codes c.loop-from.invariant.is

pub truncate-requires-clause-is : goal.truncate-requires-clause-is
truncate-requires-clause-is g c = own_codes c.loop-from.invariant.is

pub loop-from-init : goal.loop-from-init
loop-from-init g c = record { is = c.requires.is; size = refl; live = refl; order = omega arith; rows = λ cell. not_compacted (is_held c.args.pins.now) (rows_in g.S.Shape.widths cell c.args.self.now) }

pub loop-from-preserved : goal.loop-from-preserved
loop-from-preserved g c =
    let inv = c.loop-from.invariant in
    let at : c.loop-from.from < length c.loop-from.self.slots.items = omega (arith, c.loop-from-test.true, c.len-from-end.ensures, inv.size, c.args.self.now.slots.ok.0) in
    let here : (cell : ℕ) → c.loop-from.from < length (rows_in g.S.Shape.widths cell c.loop-from.self) = λ cell. omega (arith, at, length_rows g.S.Shape.widths cell c.loop-from.self inv.is.room) in
    let read : (cell : ℕ) → is_held c.args.pins.now (row_at (rows_in g.S.Shape.widths cell c.loop-from.self) c.loop-from.from) ≡ c.is_held.result = λ cell.
    sym (c.is_held.ensures ∙ ap (slot_held c.args.pins.now) (c.index.ensures ∙ slot_is g.S.Shape.widths cell c.loop-from.self inv.is.room c.loop-from.from c.index.result.now at)) in
    elim c.if-is_held.branch [
      | then-is_held w ↦ rw (w.self-is, w.to-is) (record {
        is = subst (λ (n : ℕ). HasCodes g.S.Shape.widths n w.copy.new.self) inv.is.g_is w.copy.ensures.is;
        size = w.copy.ensures.size ∙ inv.size;
        live = w.copy.ensures.live ∙ inv.live;
        order = omega (arith, inv.order);
        rows = λ cell. rw (w.copy.ensures.rows cell) (row_kept (inv.rows cell) inv.order no_row (here cell) (read cell ∙ w.if-is_held.true));
      })
      | else-is_held w ↦ rw (w.self-is, w.to-is) (record { is = inv.is; size = inv.size; live = inv.live; order = omega (arith, inv.order); rows = λ cell. row_gone (inv.rows cell) inv.order no_row (here cell) (read cell ∙ w.if-is_held.false) })
    ]

pub returns : goal.returns
returns g c =
    let inv = c.loop-from.invariant in
    let rows : (cell : ℕ) → rows_in g.S.Shape.widths cell c.truncate.new.self ≡ filter (is_held c.args.pins.now) (rows_in g.S.Shape.widths cell c.args.self.now) = λ cell.
    c.truncate.ensures.rows cell ∙ all_compacted (inv.rows cell) (omega (arith, c.loop-from-test.false, c.len-from-end.ensures, c.args.self.now.slots.ok.0, length_rows g.S.Shape.widths cell c.args.self.now c.requires.is.room)) in
    record {
      rows = rows;
      counted = c.truncate.ensures.live
          ∙ inv.live
          ∙ c.requires.counted
          ∙ live_count g.S.Shape.widths 0 c.args.self.now c.requires.is.room
          ∙ sym (tidied_live c.args.pins.now (rows_in g.S.Shape.widths 0 c.args.self.now) (rows_in g.S.Shape.widths 0 c.truncate.new.self) (inr (rows 0)))
          ∙ sym (live_count g.S.Shape.widths 0 c.truncate.new.self c.truncate.ensures.is.room);
      is = subst (λ (n : ℕ). HasCodes g.S.Shape.widths n c.truncate.new.self) inv.is.g_is c.truncate.ensures.is;
    }
