use Rattle.std.proofs.Common.{◌≡◌, take}
use Rattle.codebook_core.specs.View.{view_of}
use Rattle.codebook_core.proofs.columns.sub_columns.Given as goal

abbrev pub invariant-loop-j : goal.invariant-loop-j
invariant-loop-j l = l.subs.items ≡ take l.j (view_of l.widths l.parts).subs
