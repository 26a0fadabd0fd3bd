use Rattle.std.proofs.Common.{◌≡◌, sym, subst}
use Rattle.std.specs.List.{AllByRecursion}
use Rattle.cell_store.specs.State.{Kept}
use Rattle.cell_store.specs.Blocks.{CellRows}
use Rattle.cell_store.proofs.ShownLemmas.{kept_in-cell}
use Rattle.cell_store.proofs.snapshot.Snapshot.cell.Goals as goal

pub invariant_of-result : goal.invariant_of-result
invariant_of-result g c = (
  c.self.invariant.0,
  record {
    few = c.in-Some.ensures.few;
    ids = c.in-Some.ensures.ids;
    cell = subst (λ (r : CellRows). AllByRecursion (λ (k : Kept). k.row.cell ≡ r.cell) r.rows) (sym c.in-Some.ensures.rows.0) (kept_in-cell c.args.cell c.self.inside.store.now.kept);
    each = λ whole. c.is_whole-whole.ensures whole;
  },
)
