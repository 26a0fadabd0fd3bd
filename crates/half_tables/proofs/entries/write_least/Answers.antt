use Rattle.std.proofs.Common.{◌≡◌, ◌≢◌, ◌+◌, ◌-◌, List, ℕ, length, get_or, take, drop, ap, ap₂, ◌∙◌, arith, length-drop, below_more, get_or-set_other, get_or-set_same}
use Rattle.std.proofs.Math.ListN.{set}
use Rattle.std.proofs.lemmas.List.{length-take-le}
use Rattle.book_model.specs.Sums.{sum_below, least}
use Rattle.book_model.proofs.Pruning.{least-le}
use Rattle.adc_tables.proofs.Bounded.{bounded_take, bounded_drop}
use Rattle.adc_tables.proofs.Starts.{sum_next}
use Rattle.half_tables.specs.Half.{table_from}
use Rattle.half_tables.proofs.Places.{end_from, next_from}
use Rattle.half_tables.proofs.Sums.{base_sum-tables_from}
use Rattle.half_tables.proofs.entries.write_least.Goals as goal

pub slice_bounds-least_of-end : goal.slice_bounds-least_of-end
slice_bounds-least_of-end g c =
    omega (arith, end_from g.S.Shape.widths c.args.first c.loop-i.i c.args.count (omega arith), c.loop-i.invariant.at, c.requires.room, c.size_of_table.ensures.size)

pub overflow_add-sum : goal.overflow_add-sum
overflow_add-sum g c =
    let ends = end_from g.S.Shape.widths c.args.first c.loop-i.i c.args.count (omega arith) in
    let at = c.loop-i.at in
    let n = at + c.size_of_table.result - at in
    let xs = take n (drop at c.args.entries.now) in
    let long : length xs ≡ n = length-take-le n (drop at c.args.entries.now) (omega (arith, length-drop at c.args.entries.now, ends, c.loop-i.invariant.at, c.requires.room, c.size_of_table.ensures.size)) in
    let small = bounded_take 9895202000896 n (drop at c.args.entries.now) (bounded_drop 9895202000896 at c.args.entries.now c.requires.bounded) 0 in
    omega (arith, least-le xs 0 (omega (arith, long, c.size_of_table.ensures.small)), small, c.least_of-one.ensures, c.loop-i.invariant.small, c.requires.count)

pub loop-i-preserved : goal.loop-i-preserved
loop-i-preserved g c =
    let ws = g.S.Shape.widths in
    let first = c.args.first in
    let entries : List ℕ = c.args.entries.now in
    let ends = end_from ws first c.loop-i.i c.args.count (omega arith) in
    let at = c.loop-i.at in
    let n = at + c.size_of_table.result - at in
    let xs = take n (drop at entries) in
    let long : length xs ≡ n = length-take-le n (drop at entries) (omega (arith, length-drop at entries, ends, c.loop-i.invariant.at, c.requires.room, c.size_of_table.ensures.size)) in
    let small = bounded_take 9895202000896 n (drop at entries) (bounded_drop 9895202000896 at entries c.requires.bounded) 0 in
    let le = least-le xs 0 (omega (arith, long, c.size_of_table.ensures.small)) in
    let size : n ≡ c.size_of_table.result = omega arith in
    let same : c.least_of-one.result ≡ least (table_from ws first entries c.loop-i.i) =
    c.least_of-one.ensures ∙ ap₂ (λ s n. least (take n (drop s entries))) c.loop-i.invariant.at (size ∙ c.size_of_table.ensures.size) in
    record {
      at = omega (arith, c.loop-i.invariant.at, next_from ws first c.loop-i.i, c.size_of_table.ensures.size);
      small_at = omega (arith, c.loop-i.invariant.small_at, c.size_of_table.ensures.small);
      sum = omega (arith, c.loop-i.invariant.sum, sum_next c.loop-i.i (λ i. least (table_from ws first entries i)), same);
      each = below_more (λ k. get_or (set c.loop-i.least c.loop-i.i c.least_of-one.result) k 0 ≡ least (table_from ws first entries k)) c.loop-i.i
          (λ k h. let ne : k ≢ c.loop-i.i = omega arith in get_or-set_other c.loop-i.least c.loop-i.i k c.least_of-one.result 0 ne ∙ c.loop-i.invariant.each k h)
          (get_or-set_same c.loop-i.least c.loop-i.i c.least_of-one.result 0 (omega (arith, c.loop-i.auto.least, c.requires.places)) ∙ same);
      small = omega (arith, c.loop-i.invariant.small, le, small, c.least_of-one.ensures);
    }

pub returns-clause-sum : goal.returns-clause-sum
returns-clause-sum g c =
    let all : c.loop-i.i ≡ c.args.count = omega arith in
    c.loop-i.invariant.sum ∙ ap (λ n. sum_below n (λ i. least (table_from g.S.Shape.widths c.args.first c.args.entries.now i))) all
    ∙ base_sum-tables_from g.S.Shape.widths c.args.first c.args.count c.args.entries.now

pub returns-clause-each : goal.returns-clause-each
returns-clause-each g c = λ i h. c.loop-i.invariant.each i (omega (arith, h))
