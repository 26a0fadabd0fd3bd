use Rattle.cell_store.proofs.Words.{ap, arith, is_some, length}
use Rattle.cell_store.proofs.OwnRows.{slots_rising, there_in_slots}
use Rattle.cell_store.proofs.Entries.{IsEntry, shown_at, shown_g, entry_codes, entry_counted, rows_before, rows_now, rows_others, g_now, AreEntries-changed, has_key, key_is}
use Rattle.cell_store.proofs.cells.Cells.finish.Given.{Over}
use Rattle.cell_store.proofs.cells.Cells.finish.Goals as goal
use Rattle.cell_store.proofs.cells.Cells.finish.Goals.{After-index_mut-rows}

pub index_mut-rows-requires : goal.index_mut-rows-requires
index_mut-rows-requires g c = ap is_some (c.self.invariant.entry c.args.place.cell c.in-Some.key (key_is c.args.place.cell c.deref.ensures.value c.key_of.ensures c.in-Some.is)).is

entry : (g : Over) (c : After-index_mut-rows g) → IsEntry g.S.Shape.widths c.self.inside.g c.self.inside.keys.items c.self.inside.entries c.args.self.now c.args.place.cell c.in-Some.key c.index_mut-rows.result.now
entry g c = record { are = c.self.invariant; at = key_is c.args.place.cell c.deref.ensures.value c.key_of.ensures c.in-Some.is; found = c.index_mut-rows.ensures.value; rows = shown_at c.self.invariant c.self.view_is; g_is = shown_g c.self.invariant c.self.view_is }

pub finish-requires-clause-is : goal.finish-requires-clause-is
finish-requires-clause-is g c = entry_codes (entry g (goal.at.finish-requires-clause-is g c).After-index_mut-rows)

pub finish-requires-clause-counted : goal.finish-requires-clause-counted
finish-requires-clause-counted g c = entry_counted (entry g (goal.at.finish-requires-clause-counted g c).After-index_mut-rows)

pub finish-requires-clause-rising : goal.finish-requires-clause-rising
finish-requires-clause-rising g c =
    let e = entry g (goal.at.finish-requires-clause-rising g c).After-index_mut-rows in
    slots_rising g.S.Shape.widths c.args.place.cell c.index_mut-rows.result.now (entry_codes e).room (rw (rows_before e) at c.requires.rising)

pub finish-requires-clause-there : goal.finish-requires-clause-there
finish-requires-clause-there g c =
    let e = entry g (goal.at.finish-requires-clause-there g c).After-index_mut-rows in
    there_in_slots g.S.Shape.widths c.args.place.cell c.index_mut-rows.result.now (entry_codes e).room c.args.place.born (rw (rows_before e) at c.requires.there)

pub invariant_of-self : goal.invariant_of-self
invariant_of-self g c = AreEntries-changed (entry g (goal.at.invariant_of-self g c).After-index_mut-rows) c.finish.new.self c.finish.ensures.is c.finish.ensures.counted

pub returns : goal.returns
returns g c =
    let e = entry g (goal.at.returns g c).After-index_mut-rows in
    record {
      ends = rw (rows_before e, rows_now e c.finish.new.self) (c.finish.ensures.ends c.args.place.cell);
      others = rows_others e c.finish.new.self;
      g = g_now e c.finish.new.self;
    }

pub unreachable-requires : goal.unreachable-requires
unreachable-requires g c =
    has_key g.S.Shape.widths c.self.inside.keys.items c.self.inside.entries c.args.place.cell (omega (arith, c.requires.there.1, ap length (shown_at c.self.invariant c.self.view_is c.args.place.cell))) (key_is c.args.place.cell c.deref.ensures.value c.key_of.ensures c.in-None.is)
