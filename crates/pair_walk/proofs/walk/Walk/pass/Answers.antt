use Rattle.std.proofs.Common.{drop, ap, arith}
use Rattle.pair_walk.specs.Walking.{Walking}
use Rattle.pair_walk.proofs.WalkLemmas.{over_advanced_by, over_opened_by}
use Rattle.pair_walk.proofs.walk.Walk.pass.Goals as goal
use Rattle.pair_walk.proofs.walk.Walk.pass.Goals.{else-first-eq0-via-then-first-eq0+else-self-k0, else-first-eq0-via-else-first-eq0}

pub returns-then-self-k0-clause-over : goal.returns-then-self-k0-clause-over
returns-then-self-k0-clause-over c =
    over_opened_by c.args.ranks.now c.args.self.now c.requires.over c.args.first (drop 1 c.args.self.now.waiting) c.requires.first c.advance.new.self c.open_row.new.self
    c.advance.ensures.moves c.advance.ensures.same.0 c.advance.ensures.same.1 (omega arith) c.open_row.ensures.moves c.open_row.ensures.entries c.open_row.ensures.opened c.open_row.ensures.same

pub returns-else-first-eq0-clause-over : goal.returns-else-first-eq0-clause-over
returns-else-first-eq0-clause-over c =
    over_advanced_by c.args.ranks.now c.args.self.now c.requires.over c.args.first (drop 1 c.args.self.now.waiting) c.requires.first c.advance.new.self
    c.advance.ensures.moves c.advance.ensures.entries c.advance.ensures.same.0 c.advance.ensures.same.1
    (λ lt. elim c.else-first-eq0.branch [
      | else-first-eq0-via-then-first-eq0+else-self-k0 w ↦ absurd (omega (arith, lt, ap (λ (v : Walking). v.opened) w.self.view_is))
      | else-first-eq0-via-else-first-eq0 w ↦ w.if-first-eq0.false
    ])
