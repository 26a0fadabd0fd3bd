use Rattle.std.proofs.Common.{ap, arith}
use Rattle.adc_program.specs.Played.{Stand}
use Rattle.adc_program.proofs.StoreReplies.{delete_refused_id, delete_made, delete_absent}
use Rattle.adc_program.proofs.play.delete.Goals as goal

pub returns-then-id-gt-MAX_ID-clause-line : goal.returns-then-id-gt-MAX_ID-clause-line
returns-then-id-gt-MAX_ID-clause-line g c stage = delete_refused_id g.E.Played.means stage (g.E.Played.stand c.args.engine.now).store c.args.id c.delete_refused.result (omega arith) c.delete_refused.ensures

pub returns-in-Ok-clause-line : goal.returns-in-Ok-clause-line
returns-in-Ok-clause-line g c stage =
    delete_made g.E.Played.means stage (g.E.Played.stand c.args.engine.now).store c.args.id c.delete_done.result (g.E.Played.stand c.delete.new.self).store (omega arith) c.in-Ok.ensures.there c.delete_done.ensures c.in-Ok.ensures.keeps

pub returns-in-Err-clause-line : goal.returns-in-Err-clause-line
returns-in-Err-clause-line g c stage =
    delete_absent g.E.Played.means stage (g.E.Played.stand c.args.engine.now).store c.args.id c.delete_refused-in-Err.result (g.E.Played.stand c.delete.new.self).store (omega arith) c.in-Err.ensures.absent c.delete_refused-in-Err.ensures (ap (λ (s : Stand). s.store) c.in-Err.ensures.err)
