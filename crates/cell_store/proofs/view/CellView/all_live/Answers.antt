use Rattle.cell_store.proofs.Words.{ap, ap₂, sym, ◌∙◌, ℕ, ◌==◌, list_all, is_live, CellRows, rows_in}
use Rattle.cell_store.proofs.OwnRows.{length_rows}
use Rattle.cell_store.proofs.Counting.{live_count, all_counts}
use Rattle.cell_store.proofs.view.CellView.all_live.Goals as goal

pub returns : goal.returns
returns g c =
    let live = c.self.invariant.1 ∙ live_count g.S.Shape.widths c.self.inside.cell c.self.inside.rows.now c.self.invariant.0.room in
    let all = c.len.ensures ∙ c.self.inside.rows.now.slots.ok.0 ∙ sym (length_rows g.S.Shape.widths c.self.inside.cell c.self.inside.rows.now c.self.invariant.0.room) in
    ap₂ (λ (a b : ℕ). a == b) live all ∙ all_counts is_live (rows_in g.S.Shape.widths c.self.inside.cell c.self.inside.rows.now) ∙ ap (λ (v : CellRows). list_all is_live v.rows) c.self.view_is
