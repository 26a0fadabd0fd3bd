use Rattle.std.proofs.Common.{ℕ, ◌-◌, ◌≢◌, length, get_or, map, sym, ap, ◌∙◌, arith, get_or-set_other, get_or-set_same, length-set, below_more, min, ◌/◌}
use Rattle.std.proofs.lemmas.Grind.{same_number_lists}
use Rattle.std.proofs.lemmas.List.FromFn.{length-map-range_with_len, get_or-map-range_with_len}
use Rattle.book_model.specs.Sums.{numbers_below}
use Rattle.book_model.specs.Bound.{small}
use Rattle.book_model.proofs.Pruning.{least-le}
use Rattle.adc_tables.proofs.small.fill_in_steps.Goals as goal

pub overflow_sub-entry : goal.overflow_sub-entry
overflow_sub-entry c = omega (arith, least-le c.args.table.now c.loop-w.w (omega arith), c.requires.base)

pub loop-w-preserved : goal.loop-w-preserved
unfolding small
loop-w-preserved c =
    let w = c.loop-w.w in
    let entries = c.loop-w.part.entries in
    let put = c.set.ensures.entries in
    record {
      width = c.set.ensures.width ∙ c.loop-w.invariant.width;
      count = ap length put ∙ length-set {A = ℕ} entries w c.count.result ∙ c.loop-w.invariant.count;
      done = below_more _ _
          (λ k h. let ne : k ≢ w = omega arith in ap (λ xs. get_or xs k 0) put ∙ get_or-set_other entries w k c.count.result 0 ne ∙ c.loop-w.invariant.done k h)
          (ap (λ xs. get_or xs w 0) put ∙ get_or-set_same entries w c.count.result 0 (omega (arith, c.loop-w.invariant.count)) ∙ c.count.ensures ∙ ap (λ b. min 255 ((get_or c.args.table.now w 0 - b) / c.args.steps.now.step)) c.requires.base);
    }

pub returns-clause-entries : goal.returns-clause-entries
returns-clause-entries c =
    let f = small c.args.steps.now.step c.args.table.now in
    let n = length c.args.table.now in
    same_number_lists c.loop-w.part.entries (map f (numbers_below n)) (c.loop-w.invariant.count ∙ sym (length-map-range_with_len f 0 n))
    (λ k lt. c.loop-w.invariant.done k (omega (arith, c.loop-w.invariant.count)) ∙ sym (get_or-map-range_with_len f 0 n k k 0 (omega (arith, c.loop-w.invariant.count)) (omega arith)))
