-- A delete leaves the other rows.
use Rattle.cell_store.proofs.StoreLemmas.{changes_deleted}
use Rattle.residual_scan.proofs.engine.delete_from.Goals as goal

pub returns-clause-changes : goal.returns-clause-changes
returns-clause-changes g c = changes_deleted g.S.Shape.widths c.args.store.now c.delete.new.self c.stamp-before.ensures.is c.stamp-after.ensures.is c.requires.stamp c.args.id c.in_ok-delete.ensures.keeps
