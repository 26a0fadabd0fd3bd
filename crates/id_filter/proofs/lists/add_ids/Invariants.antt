use Rattle.std.proofs.Common.{◌≡◌, ◌++◌, take}
use Rattle.id_filter.specs.Allowed.{ids_in}
use Rattle.id_filter.proofs.lists.add_ids.Given as goal

abbrev pub invariant-loop-number : goal.invariant-loop-number
invariant-loop-number l = l.ids.items ≡ l.initial.ids.items ++ ids_in (take l.number-index l.numbers)
