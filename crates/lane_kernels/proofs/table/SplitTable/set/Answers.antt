use Rattle.std.proofs.Common.{◌<◌, ◌^◌, set, ap, ◌∙◌, subst, sym}
use Rattle.lane_kernels.specs.Table.{Table}
use Rattle.lane_kernels.proofs.Lanes.{take-set_within}
use Rattle.lane_kernels.proofs.table.SplitTable.set.Goals as goal

pub returns-clause-entries : goal.returns-clause-entries
returns-clause-entries c =
    let within : c.args.at < 2 ^ c.self.inside.bits = subst (λ (t : Table). c.args.at < 2 ^ t.width) (sym c.self.view_is) c.requires in
    take-set_within (2 ^ c.self.inside.bits) c.self.inside.filled c.args.at c.args.value within ∙ ap (λ (t : Table). set t.entries c.args.at c.args.value) c.self.view_is
