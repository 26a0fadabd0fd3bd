use Rattle.std.specs.FinMap as fin
use Rattle.std.specs.FinMap.{get-empty}
use Rattle.std.specs.Ordering.{nat_cmp}
use Rattle.id_table.specs.Table.{Places}
use Rattle.cell_store.proofs.Words.{refl, sym, ap, ◌∙◌, None, List, [], arith, Kept, Store, Table, rows_for}
use Rattle.cell_store.proofs.Keeping.{IsKept-empty, all_none}
use Rattle.cell_store.proofs.Used.{used_none}
use Rattle.cell_store.proofs.store.CellStore.new.Goals as goal

pub invariant_of-result : goal.invariant_of-result
invariant_of-result g c = (
  record {
    places = λ _. None;
    kept = IsKept-empty c.new.result (λ e. ap (λ (t : Table). rows_for t e) c.new.ensures) c.args.g c.args.cells c.args.most (λ _. None) (λ q. refl) (ap (λ (t : Table). t.g) c.new.ensures) c.requires.g c.requires.cells c.requires.most;
    grouped = λ id. ap (λ (m : Places). fin.get m id) c.new-2.ensures ∙ get-empty nat_cmp id;
  },
  omega arith,
  refl,
  sym (used_none (rows_for c.new.result) c.args.cells (λ e. ap (λ (t : Table). rows_for t e) c.new.ensures)),
  tt,
)

pub returns : goal.returns
returns g c =
    ap (λ (kept : List Kept). let s : Store = record { g = c.args.g; cells = c.args.cells; most = c.args.most; kept = kept; stamp = 0; pins = [] } in s)
    (all_none c.new.result (λ e. ap (λ (t : Table). rows_for t e) c.new.ensures) c.args.cells)
