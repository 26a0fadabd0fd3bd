use Rattle.cell_store.proofs.Words.{arith, length-drop}
use Rattle.cell_store.proofs.FinishLemmas.{take_whole}
use Rattle.cell_store.proofs.view.group.Goals as goal

pub returns-then-rest-lt32 : goal.returns-then-rest-lt32
returns-then-rest-lt32 c = take_whole _ 32 _ (omega (arith, length-drop c.args.from c.args.slots.now)) (omega (arith, c.if-rest-lt32.true, length-drop c.args.from c.args.slots.now))
