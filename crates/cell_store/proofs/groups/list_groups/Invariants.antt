use Rattle.std.specs.FinMap as fin
use Rattle.cell_store.proofs.Words.{◌≡◌, ℕ}
use Rattle.cell_store.specs.Groups.{listed_anew}
use Rattle.cell_store.proofs.groups.list_groups.Given as goal

abbrev pub invariant-loop-at : goal.invariant-loop-at
invariant-loop-at l = (id : ℕ) → fin.get l.ids id ≡ listed_anew l.cell l.slots l.at id (fin.get l.initial.ids id)
