use Rattle.std.proofs.Common.{◌≡◌, ◌++◌, length, map}
use Rattle.std.specs.List.{enumerate_from}
use Rattle.vec_files.specs.Standing.{rows_standing}
use Rattle.flat_truth.specs.Flat.{flat_pairs}
use Rattle.flat_truth.specs.Pairs.{key_of, near}
use Rattle.flat_truth.proofs.pairs.add_pairs.Given as goal

abbrev pub invariant-loop-i : goal.invariant-loop-i
invariant-loop-i l = map key_of l.pairs.items ≡ map key_of l.initial.pairs.items ++ near l.most (flat_pairs l.query (enumerate_from l.first (rows_standing (length l.query) l.i l.stretch)))
