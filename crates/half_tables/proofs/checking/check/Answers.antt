use Rattle.std.specs.Prelude.{Some}
use Rattle.std.proofs.Common.{◌≢◌, ◌+◌, ◌*◌, arith, ap, sym, ◌∙◌}
use Rattle.half_tables.proofs.Faults.{fault_old, fault_at, fault_none, crosses_yes}
use Rattle.half_tables.proofs.checking.check.Goals as goal

pub returns-then-version-eq1-clause-fault : goal.returns-then-version-eq1-clause-fault
returns-then-version-eq1-clause-fault g c = fault_old c.args.book.now (omega (arith, c.version.ensures))

pub returns-then-h-start-clause-fault : goal.returns-then-h-start-clause-fault
returns-then-h-start-clause-fault g c =
    let book = c.args.book.now in
    let new : book.version ≢ 1 = omega (arith, c.version.ensures) in
    fault_at book new c.loop-j.j (omega arith) (crosses_yes book c.loop-j.j (omega (arith, c.start-start.ensures.value, c.h-h.ensures.value)) (omega (arith, c.start-start.ensures.value, c.h-h.ensures.value, c.length.ensures.value)))
    c.loop-j.invariant.none ∙ ap (λ n. Some (19 + 2 * n)) (sym c.from.ensures)

pub returns-clause-none : goal.returns-clause-none
returns-clause-none g c =
    let book = c.args.book.now in
    let new : book.version ≢ 1 = omega (arith, c.version.ensures) in
    fault_none book new (λ i lt. c.loop-j.invariant.none i (omega arith))
