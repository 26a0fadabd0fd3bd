use Rattle.cell_store.proofs.Words.{IfOk-weaker, on_ok_weaker, on_err_weaker, ◌≡◌, ap, sym, ◌∙◌, subst, ℕ, [], ◌∷◌, ◌++◌, inl, inr, is_some, list_any, AreCodeWords, is_live, kept_of, rows_for, rows_in, eqb_tells}
use Rattle.cell_store.proofs.AllLemmas.{on_err}
use Rattle.cell_store.proofs.Entries.{IsEntry, table_at, table_g, shown_at, shown_g, entry_codes, entry_counted, entry_g, rows_before, rows_now, rows_others, g_now, AreEntries-changed}
use Rattle.cell_store.proofs.cells.Cells.push.Given.{Over}
use Rattle.cell_store.proofs.cells.Cells.push.Goals as goal
use Rattle.cell_store.proofs.cells.Cells.push.Goals.{After-index_mut-rows}

pub returns-in_err-key-clause-err : goal.returns-in_err-key-clause-err
returns-in_err-key-clause-err g c = on_err c.from_residual.result (λ e. table_at g.S.Shape.widths c.self.inside.g c.make_entry.new.keys.items c.make_entry.new.entries e ∙ c.make_entry.ensures.same e ∙ sym (shown_at c.self.invariant c.self.view_is e))

pub returns-in_err-key-clause-g : goal.returns-in_err-key-clause-g
returns-in_err-key-clause-g g c = table_g g.S.Shape.widths c.self.inside.g c.make_entry.new.keys.items c.make_entry.new.entries ∙ sym (shown_g c.self.invariant c.self.view_is)

pub index_mut-rows-requires : goal.index_mut-rows-requires
index_mut-rows-requires g c = ap is_some (c.make_entry.ensures.entries.entry c.args.cell c.in_ok-key.key c.in_ok-key.ensures.key).is

entry : (g : Over) (c : After-index_mut-rows g) → IsEntry g.S.Shape.widths c.self.inside.g c.make_entry.new.keys.items c.make_entry.new.entries c.args.self.now c.args.cell c.in_ok-key.key c.index_mut-rows.result.now
entry g c = record {
  are = c.make_entry.ensures.entries;
  at = c.in_ok-key.ensures.key;
  found = c.index_mut-rows.ensures.value;
  rows = λ e. shown_at c.self.invariant c.self.view_is e ∙ sym (c.make_entry.ensures.same e);
  g_is = shown_g c.self.invariant c.self.view_is;
}

pub push-requires-clause-is : goal.push-requires-clause-is
push-requires-clause-is g c = entry_codes (entry g (goal.at.push-requires-clause-is g c).After-index_mut-rows)

pub push-requires-clause-counted : goal.push-requires-clause-counted
push-requires-clause-counted g c = entry_counted (entry g (goal.at.push-requires-clause-counted g c).After-index_mut-rows)

pub push-requires-clause-words : goal.push-requires-clause-words
push-requires-clause-words g c = subst (λ (n : ℕ). AreCodeWords g.S.Shape.widths n c.args.code.now) (entry_g (entry g (goal.at.push-requires-clause-words g c).After-index_mut-rows)) c.requires.words

pub invariant_of-self-2 : goal.invariant_of-self-2
invariant_of-self-2 g c = AreEntries-changed (entry g (goal.at.invariant_of-self-2 g c).After-index_mut-rows) c.push.new.self c.push.ensures.is c.push.ensures.counted

pub returns : goal.returns
returns g c =
    let e = entry g (goal.at.returns g c).After-index_mut-rows in
    record {
      ok = on_ok_weaker c.push.result
          (λ pushed. record { own = rows_now e c.push.new.self ∙ pushed c.args.cell ∙ ap (λ l. l ++ kept_of g.S.Shape.widths c.args.cell c.args.slot c.args.code.now ∷ []) (sym (rows_before e)); others = rows_others e c.push.new.self })
          c.push.ensures.ok;
      err = on_err_weaker c.push.result
          (λ stays. λ k. elim (eqb_tells k c.args.cell) [
            | inl at ↦ rw (at.1, rows_now e c.push.new.self, rows_before e) (stays c.args.cell)
            | inr off ↦ rows_others e c.push.new.self k off.1
          ])
          c.push.ensures.err;
      had = IfOk-weaker c.push.result (λ had. (cell : ℕ) → had ≡ list_any is_live (rows_in g.S.Shape.widths cell c.index_mut-rows.result.now)) (λ had. had ≡ list_any is_live (rows_for c.args.self.now c.args.cell))
          (λ had any. rw (rows_before e) (any c.args.cell)) c.push.ensures.had;
      g = g_now e c.push.new.self;
    }
