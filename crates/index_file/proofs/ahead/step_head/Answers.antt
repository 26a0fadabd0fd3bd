use Rattle.index_file.specs.Ahead.{layout}
use Rattle.index_file.proofs.Steps.{keeps_head, fails_head}
use Rattle.index_file.proofs.ahead.step_head.Goals as goal

pub returns-in-Ok-clause-rest : goal.returns-in-Ok-clause-rest
returns-in-Ok-clause-rest c = λ widths store bytes is.
    keeps_head (layout widths c.args.sizes) store store c.args.part.now bytes c.args.at c.args.groups c.in-Ok.cell c.in-Ok.count c.requires.ended c.requires.more is c.in-Ok.ensures.value

pub returns-in-Err-clause-rest : goal.returns-in-Err-clause-rest
returns-in-Err-clause-rest c = λ widths store bytes is.
    rw c.located.ensures (fails_head (layout widths c.args.sizes) store store c.args.part.now bytes c.args.at c.args.groups c.in-Err.fault c.requires.ended c.requires.more is c.in-Err.ensures.value)
