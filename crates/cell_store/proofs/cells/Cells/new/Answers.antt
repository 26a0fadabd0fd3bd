use Rattle.cell_store.proofs.Words.{◌≡◌, arith, Some, None}
use Rattle.cell_store.proofs.cells.Cells.new.Goals as goal

pub invariant_of-result : goal.invariant_of-result
invariant_of-result g c = rw c.new.ensures.items (record { g_small = c.requires; few = omega arith; entry = λ e key is. absurd (let h : None ≡ Some key = is in cc); apart = λ e f key is also. absurd (let h : None ≡ Some key = is in cc) })
