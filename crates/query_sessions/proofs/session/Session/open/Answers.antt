-- An opened session can go on over the engine whose stamp it pinned.
use Rattle.std.proofs.Common.{refl}
use Rattle.query_sessions.proofs.Stepping.{begun, opened_can}
use Rattle.query_sessions.proofs.session.Session.open.Goals as goal

pub returns-clause-can : goal.returns-clause-can
returns-clause-can g c =
    let e = c.start-needed.ensures in
    opened_can g.S.Shape.widths c.args.engine.now c.pin.new.self _ c.in_ok-stamp.ensures.pins c.in_ok-stamp.ensures.ok
    (begun g.S.Shape.widths c.pin.new.self _ c.args.query.now c.copied.ensures e.asked e.visited e.none e.k e.needed refl refl)
