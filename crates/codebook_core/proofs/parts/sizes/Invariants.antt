use Rattle.std.proofs.Common.{◌≡◌, ◌++◌, drop}
use Rattle.codebook_core.specs.Starts.{sub_sizes}
use Rattle.codebook_core.proofs.parts.sizes.Given as goal

abbrev pub invariant-loop-j : goal.invariant-loop-j
invariant-loop-j l = l.sizes.items ++ sub_sizes l.widths l.j (drop l.j l.lengths) ≡ sub_sizes l.widths 0 l.lengths
