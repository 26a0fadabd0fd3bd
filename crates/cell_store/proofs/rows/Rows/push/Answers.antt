use Rattle.cell_store.proofs.Words.{◌≡◌, ◌<◌, ◌≤◌, ap, ◌∙◌, sym, subst, length, set, ℕ, arith, List, [], ◌∷◌, ◌++◌, rules, length-append, length-set, AreCodeWords, Coded, AreCodes, Slot, rows_of, nat_lt, is_live, rows_in, all_set, length_filter_le, slot_is_live}
use Rattle.cell_store.proofs.AllLemmas.{on_err}
use Rattle.cell_store.proofs.RowLemmas.{rows_of-kept, rows_of-pushed}
use Rattle.cell_store.proofs.OwnRows.{other_codes}
use Rattle.cell_store.proofs.Counting.{live_count, any_counts}
use Rattle.cell_store.proofs.rows.Rows.push.Goals as goal

pub returns-clause-ok : goal.returns-clause-ok
returns-clause-ok g c = λ cell.
    let slots : c.push_slot.new.slots.items ≡ c.args.self.now.slots.items ++ c.args.slot ∷ [] = search rules in
    let room : c.len-at.result < length c.reserve.new.self.codes = search rules in
    ap (λ (v : Coded). rows_of g.S.Shape.widths cell c.push_slot.new.slots.items v.codes) c.set.ensures
    ∙ ap (λ (slots : List Slot). rows_of g.S.Shape.widths cell slots (set c.reserve.new.self.codes c.len-at.result c.args.code.now)) slots
    ∙ rows_of-pushed g.S.Shape.widths cell c.args.self.now.slots.items c.args.self.now.codes.codes c.reserve.new.self.codes c.args.slot c.args.code.now c.len-at.result c.requires.is.room c.reserve.ensures.front (c.len-at.ensures ∙ c.args.self.now.slots.ok.0) room

pub overflow_add-self : goal.overflow_add-self
overflow_add-self g c = omega (arith, length_filter_le slot_is_live c.args.self.now.slots.items, c.requires.counted, c.args.self.now.slots.ok.0, c.args.self.now.slots.small, c.len-at.ensures, c.len-at.type_inv)

pub returns-clause-had : goal.returns-clause-had
returns-clause-had g c = λ cell.
    ap (λ (n : ℕ). nat_lt 0 n) (c.requires.counted ∙ live_count g.S.Shape.widths cell c.args.self.now c.requires.is.room) ∙ any_counts is_live (rows_in g.S.Shape.widths cell c.args.self.now)

pub returns-in_err-reserve-clause-err : goal.returns-in_err-reserve-clause-err
returns-in_err-reserve-clause-err g c =
    on_err c.from_residual.result (λ cell. rows_of-kept g.S.Shape.widths cell c.args.self.now.slots.items c.args.self.now.codes.codes c.reserve.new.self.codes c.requires.is.room c.reserve.ensures.front)

pub returns-in_err-reserve-clause-is : goal.returns-in_err-reserve-clause-is
returns-in_err-reserve-clause-is g c = other_codes c.requires.is c.reserve.ensures.g (omega (arith, c.requires.is.room, c.reserve.ensures.longer)) c.reserve.ensures.words

pub returns-in_err-push_slot-clause-err : goal.returns-in_err-push_slot-clause-err
returns-in_err-push_slot-clause-err g c =
    let slots : c.push_slot.new.slots.items ≡ c.args.self.now.slots.items = search rules in
    on_err c.from_residual-in_err-push_slot.result (λ cell.
    ap (λ (slots : List Slot). rows_of g.S.Shape.widths cell slots c.reserve.new.self.codes) slots
    ∙ rows_of-kept g.S.Shape.widths cell c.args.self.now.slots.items c.args.self.now.codes.codes c.reserve.new.self.codes c.requires.is.room c.reserve.ensures.front)

pub returns-in_err-push_slot-clause-is : goal.returns-in_err-push_slot-clause-is
returns-in_err-push_slot-clause-is g c =
    let slots : c.push_slot.new.slots.items ≡ c.args.self.now.slots.items = search rules in
    other_codes c.requires.is c.reserve.ensures.g (omega (arith, c.requires.is.room, c.reserve.ensures.longer, ap length slots)) c.reserve.ensures.words

pub returns-clause-is : goal.returns-clause-is
returns-clause-is g c =
    let slots : c.push_slot.new.slots.items ≡ c.args.self.now.slots.items ++ c.args.slot ∷ [] = search rules in
    let room : c.len-at.result < length c.reserve.new.self.codes = search rules in
    record {
      g_is = ap (λ (v : Coded). v.g) c.set.ensures ∙ c.reserve.ensures.g;
      room = subst (λ (n : ℕ). length c.push_slot.new.slots.items ≤ n) (sym (ap (λ (v : Coded). length v.codes) c.set.ensures))
          (omega (arith, ap length slots, length-append c.args.self.now.slots.items (c.args.slot ∷ []), length-set c.reserve.new.self.codes c.len-at.result c.args.code.now, room, c.len-at.ensures, c.args.self.now.slots.ok.0));
      words = subst (λ (v : Coded). AreCodes g.S.Shape.widths c.args.self.now.codes.g v.codes) (sym c.set.ensures)
          (all_set (AreCodeWords g.S.Shape.widths c.args.self.now.codes.g) c.reserve.new.self.codes c.len-at.result c.args.code.now (c.reserve.ensures.words g.S.Shape.widths c.requires.is.words) c.requires.words);
    }
