use Rattle.cell_store.proofs.Words.{ap, sym, ◌∙◌, arith, length_filter_le, Store, kept_in, is_live, slot_passes, slot_of, rows_for}
use Rattle.id_filter.proofs.Whole.{whole_passes}
use Rattle.cell_store.proofs.Counts.{cell_is, cell_pass, few_here, passing_count}
use Rattle.cell_store.proofs.store.CellStore.count.Goals as goal

pub overflow_cast-result-2 : goal.overflow_cast-result-2
overflow_cast-result-2 g c =
    omega (arith, c.count_in.ensures, length_filter_le (λ k. slot_passes (g.P.IdSelector.ranges c.args.filter.now) c.args.stamp (slot_of k)) (rows_for c.self.inside.lists c.args.cell), few_here c.self.invariant.0.kept c.args.cell)

pub returns : goal.returns
returns g c =
    rw (ap (λ (s : Store). kept_in c.args.cell s.kept) (sym c.self.view_is) ∙ cell_is c.self.invariant.0.kept c.args.cell) (c.count_in.ensures ∙ sym (passing_count (g.P.IdSelector.ranges c.args.filter.now) c.args.stamp (rows_for c.self.inside.lists c.args.cell)))

pub overflow_cast-result : goal.overflow_cast-result
overflow_cast-result g c =
    omega (arith, c.live_in.ensures, length_filter_le is_live (rows_for c.self.inside.lists c.args.cell), few_here c.self.invariant.0.kept c.args.cell)

pub returns-then-is_all : goal.returns-then-is_all
returns-then-is_all g c =
    rw (ap (λ (s : Store). kept_in c.args.cell s.kept) (sym c.self.view_is) ∙ cell_is c.self.invariant.0.kept c.args.cell, c.if-stamp-self.true)
    (c.live_in.ensures ∙ sym (cell_pass c.self.invariant.0.kept (g.P.IdSelector.ranges c.args.filter.now) (λ id small. whole_passes (g.P.IdSelector.ranges c.args.filter.now) id (sym c.is_all.ensures ∙ c.if-is_all.true) small) c.args.cell))
