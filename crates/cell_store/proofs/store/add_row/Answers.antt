use Rattle.cell_store.proofs.Words.{◌≡◌, ◌+◌, ap, ℕ, Bool, arith, if◌then◌else◌, never, rows_for, used_below}
use Rattle.std.proofs.lemmas.Bool.{eq-eqb}
use Rattle.cell_store.proofs.Used.{used_changed, used_few, used_last}
use Rattle.cell_store.proofs.store.add_row.Given.{Over}
use Rattle.cell_store.proofs.store.add_row.Goals as goal
use Rattle.cell_store.proofs.store.add_row.Goals.{In_ok-had}

pub overflow_add-used : goal.overflow_add-used
overflow_add-used g c = omega (arith, used_few (rows_for c.args.lists.now) c.args.cells, c.requires.counted, c.requires.small)

counted : (g : Over) (c : In_ok-had g) → used_below (rows_for c.push.new.self) c.args.cells + (if c.in_ok-had.had then 1 else 0) ≡ c.args.used.now + 1
counted g c =
    let changes = c.in_ok-had.ensures.ok in
    let one = used_last (rows_for c.push.new.self) c.args.cell (rows_for c.args.lists.now c.args.cell) _ changes.own (eq-eqb c.args.slot.died never c.requires.live) in
    omega (arith, used_changed (rows_for c.args.lists.now) (rows_for c.push.new.self) c.args.cells c.args.cell c.requires.cell changes.others, c.requires.counted, ap {B = ℕ} (λ (b : Bool). if b then 1 else 0) c.in_ok-had.ensures.had, one)

pub returns-then-not-had-clause-counted : goal.returns-then-not-had-clause-counted
returns-then-not-had-clause-counted g c = omega (arith, counted g (goal.at.returns-then-not-had-clause-counted g c).In_ok-had, ap {B = ℕ} (λ (b : Bool). if b then 1 else 0) c.if-not-had.true)

pub returns-else-not-had-clause-counted : goal.returns-else-not-had-clause-counted
returns-else-not-had-clause-counted g c = omega (arith, counted g (goal.at.returns-else-not-had-clause-counted g c).In_ok-had, ap {B = ℕ} (λ (b : Bool). if b then 1 else 0) c.if-not-had.false)
