-- The rows that are live and those that stay pinned are as before.
use Rattle.cell_store.proofs.StoreLemmas.{unpinned_live, unpinned_stay}
use Rattle.query_engine.proofs.engine.unpin_store.Goals as goal

pub returns-clause-live : goal.returns-clause-live
returns-clause-live g c = unpinned_live g.S.Shape.widths c.args.store.now c.unpin.new.self c.stamp-before.ensures.is c.stamp-after.ensures.is c.unpin.ensures.keeps

pub returns-clause-pinned : goal.returns-clause-pinned
returns-clause-pinned g c = unpinned_stay g.S.Shape.widths c.args.store.now c.unpin.new.self c.stamp-before.ensures.is c.stamp-after.ensures.is c.unpin.ensures.keeps
