-- A put adds a row behind the others.
use Rattle.std.proofs.Common.{rules}
use Rattle.half_tables.specs.Residual.{residual_row}
use Rattle.cell_store.specs.Held.{KeepsAs, put_done}
use Rattle.cell_store.proofs.StoreLemmas.{changes_put}
use Rattle.residual_scan.proofs.engine.put_vector.Goals as goal

pub returns-clause-changes : goal.returns-clause-changes
returns-clause-changes g c =
    let old = c.args.store.now in
    let row = residual_row c.args.book.now c.args.id c.args.vector.now in
    let keeps : KeepsAs c.put.new.self (put_done old row) = search rules in
    changes_put g.S.Shape.widths old c.put.new.self c.stamp-before.ensures.is c.stamp-after.ensures.is c.requires.stamp row keeps
