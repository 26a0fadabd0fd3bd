use Rattle.std.proofs.Common.{◌≡◌, ◌+◌, ◌*◌, subst, arith}
use Rattle.word_columns.proofs.Keys.{AreSoFar, last_first, one_more, all_are}
use Rattle.word_columns.proofs.least.least_keys.Goals as goal

pub loop-b-init : goal.loop-b-init
loop-b-init c = last_first c.args.distances.now c.keys-least.result c.requires.some c.keys-least.ensures

pub loop-b-preserved : goal.loop-b-preserved
loop-b-preserved c =
    let b = c.loop-b.b in
    let e : b * 16 + 16 ≡ (b + 1) * 16 = omega arith in
    subst (AreSoFar c.args.distances.now c.lesser-least.result) e
    (one_more c.args.distances.now c.loop-b.least c.keys.result c.lesser-least.result (b * 16) (omega (arith, c.loop-b-test.true)) c.loop-b.invariant c.keys.ensures c.lesser-least.ensures)

pub returns : goal.returns
returns c = all_are c.args.distances.now c.loop-b.least (c.loop-b.b * 16) (omega (arith, c.loop-b-test.false)) c.requires.some c.loop-b.invariant
