use Rattle.cell_store.proofs.Words.{◌∙◌, length, arith, inl, inr, cases_lt}
use Rattle.cell_store.proofs.Entries.{shown_at, past_rows}
use Rattle.cell_store.proofs.cells.Cells.next.Goals as goal

pub returns : goal.returns
returns g c = λ e low. elim (cases_lt e (length c.self.inside.keys.items)) [
  | inl below ↦ c.loop-cell.invariant e low (omega (arith, below, c.loop-cell-test.false, c.len-cell-end.ensures, c.self.inside.keys.ok.0))
  | inr past ↦ shown_at c.self.invariant c.self.view_is e ∙ past_rows g.S.Shape.widths c.self.inside.keys.items c.self.inside.entries e past
]
