use Rattle.std.proofs.Common.{◌%◌, length, get_or, arith}
use Rattle.codebook_core.proofs.Rows.{count_le, small_widths}
use Rattle.codebook_core.proofs.parts.word_count.Goals as goal

pub returns-clause-small : goal.returns-clause-small
returns-clause-small c =
    let i = c.args.j % length c.args.widths.now in
    omega (arith, count_le (get_or c.args.widths.now i 0) (small_widths c.args.widths.now c.requires.widths i))
