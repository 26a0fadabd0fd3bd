use Rattle.bench_sessions.proofs.Opening.{open_stays}
use Rattle.bench_sessions.proofs.trials.turn.Goals as goal

pub step_all-requires : goal.step_all-requires
step_all-requires g c = open_stays g.S.Shape.widths c.args.group.now.stamp c.args.engine.now c.change.new.engine c.args.group.now.held.items c.change.ensures c.requires
