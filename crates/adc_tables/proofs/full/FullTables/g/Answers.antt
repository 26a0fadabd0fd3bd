use Rattle.adc_tables.proofs.Views.{has_sizes}
use Rattle.adc_tables.proofs.full.FullTables.g.Goals as goal

pub returns-clause-sizes : goal.returns-clause-sizes
returns-clause-sizes g c = has_sizes _ _ _ _ c.self.view_is c.self.invariant.few c.self.invariant.entries
