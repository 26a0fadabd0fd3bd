use Rattle.std.proofs.Common.{subst}
use Rattle.cell_store.specs.Held.{IsStore}
use Rattle.adc_program.proofs.SessionWork.{little_step}
use Rattle.adc_program.proofs.stepping.step_session.Goals as goal

pub returns-clause-little : goal.returns-clause-little
returns-clause-little g c =
    let e = c.step-said.ensures in
    let is = subst (IsStore g.S.Shape.widths) c.store.ensures c.stamp-stamp.ensures.is in
    little_step g.S.Shape.widths c.args.engine.now c.args.session.now c.step-said.new.self c.args.budget is (c.book-book.ensures.cells) c.requires.can e.can e.same c.report-report.ensures.few c.args.meters.now c.step-said.new.meters e.full e.pairs.0 e.pairs.1 e.blocks e.lanes
