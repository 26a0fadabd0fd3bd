use Rattle.std.proofs.Common.{◌≡◌, ◌++◌, take}
use Rattle.std.specs.Int.{w16}
use Rattle.codebook_core.specs.Spelling.{spelled}
use Rattle.codebook_core.proofs.writing.put_lengths.Given as goal

abbrev pub invariant-loop-n : goal.invariant-loop-n
invariant-loop-n l = l.out.items ≡ l.fn.out.items ++ spelled w16 (take l.n-index l.lengths)
