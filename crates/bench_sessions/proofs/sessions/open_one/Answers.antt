use Rattle.std.proofs.Common.{◌∙◌, ℕ, sym, subst}
use Rattle.bench_sessions.specs.Standing.{AreOpen}
use Rattle.bench_sessions.proofs.Opening.{open_pushed, on_ok}
use Rattle.bench_sessions.proofs.sessions.open_one.Goals as goal

pub returns-clause-open : goal.returns-clause-open
returns-clause-open g c =
    let e = c.in-Ok-open.ensures in
    on_ok c.keep.result
    (λ items. subst (λ (n : ℕ). AreOpen g.S.Shape.widths c.open.new.engine n c.keep.new.group.held.items) (sym c.keep.ensures.stamp)
    (subst (AreOpen g.S.Shape.widths c.open.new.engine c.args.group.now.stamp) (sym items)
    (open_pushed g.S.Shape.widths c.args.group.now.stamp c.args.engine.now c.open.new.engine c.args.group.now.held.items _ e.pins c.requires.stamp
    (record { stamp_is = e.question.stamp_is ∙ c.requires.stamp; can = e.can }) c.requires.open)))
    c.keep.ensures.held
