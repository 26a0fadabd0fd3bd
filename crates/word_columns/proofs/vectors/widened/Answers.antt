use Rattle.std.proofs.Common.{ℕ, get_or}
use Rattle.word_columns.proofs.Lanes.{mapped, same}
use Rattle.word_columns.proofs.vectors.widened.Goals as goal

pub returns : goal.returns
returns c = mapped 16 (λ (a : ℕ). a) (λ k. get_or c.args.v k 0) c.args.v (same 16 c.args.v c.fits-v.0)
