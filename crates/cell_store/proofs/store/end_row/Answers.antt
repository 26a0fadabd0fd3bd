use Rattle.cell_store.proofs.Words.{◌≡◌, ◌+◌, ◌<◌, length, ap, arith, inl, inr, cases_lt, rows_for, used_below}
use Rattle.cell_store.proofs.Grouped.{ends_few, ends_ids}
use Rattle.cell_store.proofs.Used.{used_changed, used_few}
use Rattle.cell_store.proofs.store.end_row.Given.{Over}
use Rattle.cell_store.proofs.store.end_row.Goals as goal
use Rattle.cell_store.proofs.store.end_row.Goals.{After-used_at}

pub overflow_add-used : goal.overflow_add-used
overflow_add-used g c = omega (arith, used_few (rows_for c.args.lists.now) c.args.cells, c.requires.counted, c.requires.small, c.used_at.ensures.few)

counted : (g : Over) (c : After-used_at g) → used_below (rows_for c.finish-needed.new.self) c.args.cells + c.used_at-before.result ≡ c.args.used.now + c.used_at.result
counted g c =
    let small : c.args.place.cell < c.args.cells = elim (cases_lt c.args.place.cell c.args.cells) [
      | inl h ↦ h
      | inr past ↦ absurd (omega (arith, ap length (c.requires.past c.args.place.cell past), c.requires.there.1))
    ] in
    omega (arith, used_changed (rows_for c.args.lists.now) (rows_for c.finish-needed.new.self) c.args.cells c.args.place.cell small c.finish-needed.ensures.others, c.requires.counted, c.used_at-before.ensures.used, c.used_at.ensures.used)

pub overflow_sub-used : goal.overflow_sub-used
overflow_sub-used g c = omega (arith, counted g (goal.at.overflow_sub-used g c).After-used_at)

pub returns-clause-counted : goal.returns-clause-counted
returns-clause-counted g c = omega (arith, counted g (goal.at.returns-clause-counted g c).After-used_at)

pub regroup-requires-clause-few : goal.regroup-requires-clause-few
regroup-requires-clause-few g c = omega (arith, ends_few c.finish-needed.ensures.ends, c.requires.few)

pub regroup-requires-clause-small : goal.regroup-requires-clause-small
regroup-requires-clause-small g c = ends_ids c.finish-needed.ensures.ends c.requires.ids
