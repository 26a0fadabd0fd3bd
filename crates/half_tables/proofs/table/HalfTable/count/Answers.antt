use Rattle.std.proofs.Common.{◌∙◌, sym}
use Rattle.half_tables.proofs.Views.{table_count}
use Rattle.half_tables.proofs.table.HalfTable.count.Goals as goal

pub returns : goal.returns
returns g c = c.count_of.ensures ∙ sym (table_count g.S.Shape.widths _ _ _ _ c.args.self.now c.self.view_is)
