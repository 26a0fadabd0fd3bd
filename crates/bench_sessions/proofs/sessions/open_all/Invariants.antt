use Rattle.std.proofs.Common.{◌≡◌}
use Rattle.bench_sessions.specs.Standing.{AreOpen}
use Rattle.bench_sessions.proofs.sessions.open_all.Given as goal

abbrev pub invariant-loop-row : goal.invariant-loop-row
invariant-loop-row g l =
    (goal.iterator-loop-row g).can_next l.row-iterator × (goal.iterator-loop-row g).is_finite l.row-iterator
    × (l.engine.store.stamp ≡ l.group.stamp) × AreOpen g.S.Shape.widths l.engine l.group.stamp l.group.held.items
