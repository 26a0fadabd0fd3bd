use Rattle.cell_store.proofs.Words.{◌≡◌, ◌+◌, ◌<◌, ap, ap₂, sym, ◌∙◌, length, ℕ, arith, [], inl, inr, cases_lt, slot_passes, slot_of, rows_for, length_filter_le}
use Rattle.cell_store.proofs.Counts.{below_next, below_end, below_grows}
use Rattle.cell_store.proofs.view.count_up_to.Goals as goal

pub overflow_add-count : goal.overflow_add-count
overflow_add-count g c =
    omega (arith, c.count_in-count.ensures, length_filter_le (λ k. slot_passes (g.P.IdSelector.ranges c.args.wanted.now) c.args.stamp (slot_of k)) (rows_for c.args.lists.now c.in-Some.cell), c.requires.few c.in-Some.cell, c.loop-count-test.true, c.ranges.most.fits)

pub loop-count-preserved : goal.loop-count-preserved
loop-count-preserved g c = record {
  within = elim (cases_lt c.in-Some.cell c.args.cells) [
    | inl small ↦ omega (arith, small)
    | inr past ↦ absurd (let e : rows_for c.args.lists.now c.in-Some.cell ≡ [] = c.requires.past c.in-Some.cell past in let h : 0 < length (rows_for c.args.lists.now c.in-Some.cell) = c.in-Some.ensures.1 in omega (arith, ap length e, h))
  ];
  counted =
      ap₂ (λ (a b : ℕ). a + b) c.loop-count.invariant.counted c.count_in-count.ensures
      ∙ sym (below_next (λ k. slot_passes (g.P.IdSelector.ranges c.args.wanted.now) c.args.stamp (slot_of k)) (rows_for c.args.lists.now) c.loop-count.from c.in-Some.cell c.in-Some.ensures.0 (λ e a b. c.in-Some.ensures.2 e a b));
}

pub returns-in-None : goal.returns-in-None
returns-in-None g c =
    omega (arith, c.loop-count.invariant.counted, c.loop-count-test.true, below_end (λ k. slot_passes (g.P.IdSelector.ranges c.args.wanted.now) c.args.stamp (slot_of k)) (rows_for c.args.lists.now) c.loop-count.from c.args.cells c.loop-count.invariant.within (λ e a. c.in-None.ensures e a))

pub returns : goal.returns
returns g c =
    omega (arith, c.loop-count.invariant.counted, c.loop-count-test.false, below_grows (λ k. slot_passes (g.P.IdSelector.ranges c.args.wanted.now) c.args.stamp (slot_of k)) (rows_for c.args.lists.now) c.loop-count.from c.args.cells c.loop-count.invariant.within)
