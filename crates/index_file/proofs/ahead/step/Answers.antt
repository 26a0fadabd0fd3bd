use Rattle.std.proofs.Common.{◌+◌, ◌*◌, Bool, cond, take, drop, subst, sym, ap, ◌∙◌, eq-eqb}
use Rattle.index_file.specs.declared.sizes.Ahead.{Ahead}
use Rattle.index_file.specs.Ahead.{layout, size_of, KeepsRest}
use Rattle.index_file.proofs.ahead.step.Goals as goal

pub returns-then-groups-eq0-clause-rest : goal.returns-then-groups-eq0-clause-rest
returns-then-groups-eq0-clause-rest g c = λ bytes is.
    let eight = ap (λ (b : Bool). take (cond b 8 (4 + 2 * c.args.sizes.g)) (drop c.args.at bytes)) (eq-eqb c.in-Groups.groups.members 0 c.if-groups-eq0.true) in
    subst (λ (a : Ahead). KeepsRest (layout g.S.Shape.widths c.args.sizes) a c.args.store.now c.args.store.now bytes c.args.at c.step_head.result) (sym c.in-Groups.is)
    (c.step_head.ensures.rest g.S.Shape.widths c.args.store.now bytes (is ∙ ap (λ (a : Ahead). take (size_of c.args.sizes.g a) (drop c.args.at bytes)) c.in-Groups.is ∙ eight))
