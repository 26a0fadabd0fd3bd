-- A delete leaves an open session as it was.
use Rattle.query_sessions.proofs.Stepping.{go_on_over}
use Rattle.engine_tests.proofs.session_tests.delete.Goals as goal

pub returns : goal.returns
returns g c = go_on_over g.S.Shape.widths _ _ c.args._session.now _ c.delete-done.result c.delete-done.ensures.book c.delete-done.ensures.changes c.delete-done.ensures.err c.requires
