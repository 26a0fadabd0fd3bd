use Rattle.std.proofs.Common.{◌-◌, ◌/◌, ap, ap₂, ◌∙◌}
use Rattle.book_model.specs.Bound.{threshold}
use Rattle.adc_tables.specs.Small.{Small, small_of}
use Rattle.adc_tables.proofs.small.SmallTables.threshold.Goals as goal

pub returns-clause-value : goal.returns-clause-value
unfolding threshold small_of
returns-clause-value g c full is =
    ap₂ (λ base size. (c.args.theta - base) / size) (ap (λ (small : Small). small.base) (c.self.view_is ∙ is)) (ap (λ (small : Small). small.size) (c.self.view_is ∙ is))
