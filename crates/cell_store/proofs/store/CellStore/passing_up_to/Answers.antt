use Rattle.cell_store.proofs.Words.{ap, sym, ◌∙◌, length, arith, min, Store, passing_at}
use Rattle.id_filter.proofs.Whole.{whole_passes}
use Rattle.cell_store.proofs.Counts.{few_here, counted, all_pass}
use Rattle.cell_store.proofs.Pinned.{few_held, few_passing}
use Rattle.cell_store.proofs.store.CellStore.passing_up_to.Goals as goal

pub returns-then-is_all-clause-count : goal.returns-then-is_all-clause-count
returns-then-is_all-clause-count g c =
    let pass = all_pass c.self.invariant.0.kept (g.P.IdSelector.ranges c.args.filter.now) (λ id small. whole_passes (g.P.IdSelector.ranges c.args.filter.now) id (sym c.is_all.ensures ∙ c.if-is_all.true) small) in
    rw (sym c.self.view_is, c.if-stamp-self.true) (c.min.ensures ∙ omega (arith, pass))

pub count_up_to-requires-clause-few : goal.count_up_to-requires-clause-few
count_up_to-requires-clause-few g c = few_here c.self.invariant.0.kept

pub returns-then-is_all-clause-few : goal.returns-then-is_all-clause-few
returns-then-is_all-clause-few g c = few_passing c.self.invariant.0.kept c.self.invariant.4 c.self.view_is (g.P.IdSelector.ranges c.args.filter.now) c.args.stamp c.requires.stamp

pub returns-clause-few : goal.returns-clause-few
returns-clause-few g c = few_passing c.self.invariant.0.kept c.self.invariant.4 c.self.view_is (g.P.IdSelector.ranges c.args.filter.now) c.args.stamp c.requires.stamp

pub returns-clause-count : goal.returns-clause-count
returns-clause-count g c =
    c.count_up_to.ensures ∙ ap (min c.args.most) (counted c.self.invariant.0.kept (g.P.IdSelector.ranges c.args.filter.now) c.args.stamp)
    ∙ ap (λ (s : Store). min c.args.most (length (passing_at (g.P.IdSelector.ranges c.args.filter.now) c.args.stamp s.kept))) c.self.view_is

pub returns-then-is_all-clause-most : goal.returns-then-is_all-clause-most
returns-then-is_all-clause-most g c = few_held c.self.invariant.0.kept c.self.invariant.4 c.self.view_is (g.P.IdSelector.ranges c.args.filter.now) c.args.stamp c.requires.stamp

pub returns-clause-most : goal.returns-clause-most
returns-clause-most g c = few_held c.self.invariant.0.kept c.self.invariant.4 c.self.view_is (g.P.IdSelector.ranges c.args.filter.now) c.args.stamp c.requires.stamp
