use Rattle.cell_store.proofs.Words.{ap, ◌∙◌, ℕ, nat_lt, list_any, is_live, CellRows, rows_in}
use Rattle.cell_store.proofs.Counting.{live_count, any_counts}
use Rattle.cell_store.proofs.view.CellView.has_live.Goals as goal

pub returns : goal.returns
returns g c =
    ap (λ (n : ℕ). nat_lt 0 n) (c.self.invariant.1 ∙ live_count g.S.Shape.widths c.self.inside.cell c.self.inside.rows.now c.self.invariant.0.room)
    ∙ any_counts is_live (rows_in g.S.Shape.widths c.self.inside.cell c.self.inside.rows.now)
    ∙ ap (λ (v : CellRows). list_any is_live v.rows) c.self.view_is
