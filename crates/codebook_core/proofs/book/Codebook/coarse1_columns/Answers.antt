use Rattle.codebook_core.proofs.ByColumn.{coarse1_facts}
use Rattle.codebook_core.proofs.book.Codebook.coarse1_columns.Goals as goal

pub returns : goal.returns
returns g c = let are = coarse1_facts _ _ _ _ c.self.view_is c.self.invariant in record { words = are.words; count = are.count; sizes = are.sizes }
