-- A put adds a row behind the others.
use Rattle.std.proofs.Common.{rules}
use Rattle.book_model.specs.Rows.{row_of}
use Rattle.cell_store.specs.Held.{KeepsAs, put_done}
use Rattle.cell_store.proofs.StoreLemmas.{changes_put}
use Rattle.query_engine.proofs.engine.put_vector.Goals as goal

pub returns-clause-changes : goal.returns-clause-changes
returns-clause-changes g c =
    let old = c.args.store.now in
    let row = row_of c.args.book.now c.args.id c.args.vector.now in
    let keeps : KeepsAs c.put.new.self (put_done old row) = search rules in
    changes_put g.S.Shape.widths old c.put.new.self c.stamp-before.ensures.is c.stamp-after.ensures.is c.requires.stamp row keeps
