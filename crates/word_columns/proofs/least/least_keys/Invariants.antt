use Rattle.std.proofs.Common.{◌*◌}
use Rattle.word_columns.proofs.Keys.{AreSoFar}
use Rattle.word_columns.proofs.least.least_keys.Given as goal

abbrev pub invariant-loop-b : goal.invariant-loop-b
invariant-loop-b l = AreSoFar l.distances l.least (l.b * 16)
