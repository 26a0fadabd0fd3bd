use Rattle.std.proofs.Common.{sym, subst}
use Rattle.std.specs.List.{Contains}
use Rattle.cell_store.specs.State.{Unpins}
use Rattle.query_sessions.specs.Standing.{Opened}
use Rattle.bench_sessions.proofs.Opening.{last_of, open_popped}
use Rattle.bench_sessions.proofs.sessions.end_last.Goals as goal

pub end_one-requires : goal.end_one-requires
end_one-requires g c =
    let one = last_of g.S.Shape.widths c.args._group.now.stamp c.args.engine.now c.args._group.now.held.items c.args.held c.requires in
    subst (λ (s : Opened). Contains c.args.engine.now.store.pins s.stamp) (sym c.into_session-session.ensures) one.can.pinned

pub returns : goal.returns
returns g c =
    open_popped g.S.Shape.widths c.args._group.now.stamp c.args.engine.now c.end_one.new.engine c.args._group.now.held.items c.args.held c.requires c.end_one.ensures.book
    (subst (λ (s : Opened). Unpins s.stamp c.args.engine.now.store.pins c.end_one.new.engine.store.pins) c.into_session-session.ensures c.end_one.ensures.pins) c.end_one.ensures.pinned
