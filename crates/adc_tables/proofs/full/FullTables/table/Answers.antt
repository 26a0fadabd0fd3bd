use Rattle.std.proofs.Common.{◌≡◌, ◌+◌, ◌-◌, length, take, drop, ap, ap₂, sym, subst, ◌∙◌, arith}
use Rattle.adc_tables.proofs.Bounded.{Bounded, bounded_take, bounded_drop}
use Rattle.adc_tables.proofs.Views.{table_is, table_within}
use Rattle.adc_tables.proofs.full.FullTables.table.Goals as goal

pub overflow_add-result : goal.overflow_add-result
overflow_add-result g c =
    omega (arith, table_within _ _ _ _ c.self.view_is c.args.j c.self.invariant.entries c.requires.number, c.requires.start, c.size_of_table.ensures.size, ap length c.deref.ensures.value)

pub offset_bounds-deref-at : goal.offset_bounds-deref-at
offset_bounds-deref-at g c =
    omega (arith, table_within _ _ _ _ c.self.view_is c.args.j c.self.invariant.entries c.requires.number, c.requires.start, ap length c.deref.ensures.value)

pub slice_bounds-result-end : goal.slice_bounds-result-end
slice_bounds-result-end g c =
    omega (arith, table_within _ _ _ _ c.self.view_is c.args.j c.self.invariant.entries c.requires.number, c.requires.start, c.size_of_table.ensures.size, ap length c.deref.ensures.value)

pub returns-clause-value : goal.returns-clause-value
returns-clause-value g c =
    let size : c.args.at + c.size_of_table.result - c.args.at ≡ c.size_of_table.result = omega arith in
    ap (λ xs. take (c.args.at + c.size_of_table.result - c.args.at) (drop c.args.at xs)) c.deref.ensures.value
    ∙ ap₂ (λ s n. take n (drop s c.self.inside.entries.items)) c.requires.start (size ∙ c.size_of_table.ensures.size)
    ∙ sym (table_is _ _ _ _ c.self.view_is c.args.j c.requires.number)

pub returns-clause-small : goal.returns-clause-small
returns-clause-small g c =
    let whole : Bounded 4397912294400 c.deref.result.now = subst (λ xs. Bounded 4397912294400 xs) (sym c.deref.ensures.value) c.self.invariant.entries.small in
    bounded_take 4397912294400 (c.args.at + c.size_of_table.result - c.args.at) (drop c.args.at c.deref.result.now) (bounded_drop 4397912294400 c.args.at c.deref.result.now whole)
