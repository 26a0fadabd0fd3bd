use Rattle.code_blocks.proofs.Words.{◌≡◌, rules, replicate}
use Rattle.code_blocks.proofs.Lanes.{AreLanes-zeros}
use Rattle.code_blocks.proofs.Block.new.Goals as goal

pub invariant_of-result : goal.invariant_of-result
invariant_of-result g c =
    let made : c.in_ok-lanes.lanes.items ≡ replicate c.args.g (replicate 32 0) = search rules in
    rw made (AreLanes-zeros g.S.Shape.widths c.args.g)
