use Rattle.std.proofs.Common.{◌≡◌, ◌++◌, take}
use Rattle.std.specs.Int.{w8}
use Rattle.codebook_core.specs.Spelling.{spelled}
use Rattle.codebook_core.proofs.writing.put_bytes.Given as goal

abbrev pub invariant-loop-c : goal.invariant-loop-c
invariant-loop-c l = l.out.items ≡ l.fn.out.items ++ spelled w8 (take l.c-index l.components)
