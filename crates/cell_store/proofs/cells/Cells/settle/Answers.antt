use Rattle.cell_store.proofs.Words.{arith, ap, is_some, length}
use Rattle.cell_store.proofs.Entries.{IsEntry, shown_at, shown_g, entry_codes, entry_counted, rows_before, rows_now, rows_others, g_now, AreEntries-changed, has_key, key_is}
use Rattle.cell_store.proofs.cells.Cells.settle.Given.{Over}
use Rattle.cell_store.proofs.cells.Cells.settle.Goals as goal
use Rattle.cell_store.proofs.cells.Cells.settle.Goals.{After-index_mut-rows}

pub index_mut-rows-requires : goal.index_mut-rows-requires
index_mut-rows-requires g c = ap is_some (c.self.invariant.entry c.args.cell c.in-Some.key (key_is c.args.cell c.deref.ensures.value c.key_of.ensures c.in-Some.is)).is

entry : (g : Over) (c : After-index_mut-rows g) → IsEntry g.S.Shape.widths c.self.inside.g c.self.inside.keys.items c.self.inside.entries c.args.self.now c.args.cell c.in-Some.key c.index_mut-rows.result.now
entry g c = record { are = c.self.invariant; at = key_is c.args.cell c.deref.ensures.value c.key_of.ensures c.in-Some.is; found = c.index_mut-rows.ensures.value; rows = shown_at c.self.invariant c.self.view_is; g_is = shown_g c.self.invariant c.self.view_is }

pub settle-requires-clause-is : goal.settle-requires-clause-is
settle-requires-clause-is g c = entry_codes (entry g (goal.at.settle-requires-clause-is g c).After-index_mut-rows)

pub settle-requires-clause-counted : goal.settle-requires-clause-counted
settle-requires-clause-counted g c = entry_counted (entry g (goal.at.settle-requires-clause-counted g c).After-index_mut-rows)

pub invariant_of-self : goal.invariant_of-self
invariant_of-self g c = AreEntries-changed (entry g (goal.at.invariant_of-self g c).After-index_mut-rows) c.settle.new.self c.settle.ensures.is c.settle.ensures.counted

pub returns : goal.returns
returns g c =
    let e = entry g (goal.at.returns g c).After-index_mut-rows in
    record {
      tidied = rw (rows_before e, rows_now e c.settle.new.self) (c.settle.ensures.tidied c.args.cell);
      few = rw (rows_now e c.settle.new.self) (c.settle.ensures.few c.args.cell);
      needed = rw (rows_now e c.settle.new.self) (c.settle.ensures.needed c.args.cell);
      others = rows_others e c.settle.new.self;
      g = g_now e c.settle.new.self;
    }

pub unreachable-requires : goal.unreachable-requires
unreachable-requires g c =
    has_key g.S.Shape.widths c.self.inside.keys.items c.self.inside.entries c.args.cell (omega (arith, c.requires, ap length (shown_at c.self.invariant c.self.view_is c.args.cell))) (key_is c.args.cell c.deref.ensures.value c.key_of.ensures c.in-None.is)
