use Rattle.std.proofs.Common.{arith}
use Rattle.codebook_core.proofs.Whole.{is_kept}
use Rattle.codebook_core.proofs.reading.parts.Goals as goal

pub returns-clause-kept : goal.returns-clause-kept
returns-clause-kept c =
    is_kept c.args.bytes.now (λ i. omega (arith, c.type_inv.bytes i)) c.args.front c.args.widths.now c.requires.front c.requires.widths c.args.at c.requires.at c.body.result c.body.ensures.value c.body.ensures.laid
