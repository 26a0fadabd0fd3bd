-- An insert adds a row behind the live ones.
use Rattle.std.proofs.Common.{◌≡◌, rules}
use Rattle.half_tables.specs.Residual.{residual_row}
use Rattle.cell_store.specs.State.{inserted}
use Rattle.query_engine.proofs.Changing.{changes_inserted}
use Rattle.residual_scan.proofs.engine.insert_vector.Goals as goal

pub returns-clause-changes : goal.returns-clause-changes
returns-clause-changes g c =
    let old = c.args.store.now in
    let row = residual_row c.args.book.now c.args.id c.args.vector.now in
    let is : c.insert.new.self ≡ inserted old row = search rules in
    changes_inserted g.S.Shape.widths old c.insert.new.self c.stamp-before.ensures.is c.stamp-after.ensures.is c.requires.stamp row c.in_ok-insert.field-0 c.in_ok-insert.ensures.refusals is
