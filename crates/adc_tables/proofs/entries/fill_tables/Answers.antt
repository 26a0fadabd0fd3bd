use Rattle.std.proofs.Common.{◌≡◌, ◌+◌, ◌-◌, ◌≤◌, length, ◌∙◌, arith, below_more, drop, length-drop}
use Rattle.std.proofs.lemmas.List.{length-take-le}
use Rattle.book_model.specs.Bound.{tables}
use Rattle.book_model.specs.Distance.{distances}
use Rattle.book_model.specs.Book.{part, sub_words, sub_count}
use Rattle.adc_tables.specs.Full.{table_in, tables_in}
use Rattle.adc_tables.proofs.Starts.{end_le, start_next}
use Rattle.adc_tables.proofs.Bounded.{bounded_put}
use Rattle.adc_tables.proofs.Writes.{maps_agree, length-put, table_in-before, table_in-written}
use Rattle.adc_tables.proofs.entries.fill_tables.Goals as goal

pub slice_bounds-fill_table-end : goal.slice_bounds-fill_table-end
slice_bounds-fill_table-end g c =
    let ends = end_le g.S.Shape.widths c.loop-j.j (sub_count c.args.book.now) (omega arith) in
    omega (arith, ends, c.loop-j.invariant.at, c.loop-j.invariant.entries.count, c.size_of_table.ensures.size)

pub loop-j-preserved : goal.loop-j-preserved
loop-j-preserved g c =
    let ws = g.S.Shape.widths in
    let j = c.loop-j.j in
    let at = c.loop-j.at in
    let end = at + c.size_of_table.result in
    let old = c.loop-j.entries in
    let new = c.fill_table.new.table in
    let start = c.loop-j.invariant.at in
    let size = c.size_of_table.ensures.size in
    let ends = end_le ws j (sub_count c.args.book.now) (omega arith) in
    let fits : end ≤ length old = omega (arith, ends, start, c.loop-j.invariant.entries.count, size) in
    let long : length new ≡ end - at = omega (arith, c.fill_table.auto.table, length-take-le (end - at) (drop at old) (omega (arith, fits, length-drop at old)), length-drop at old) in
    record {
      at = omega (arith, start, size, start_next ws j);
      small = omega (arith, c.loop-j.invariant.small, c.size_of_table.ensures.small);
      entries = record {
        count = length-put at (end - at) old new (omega (arith, fits)) long ∙ c.loop-j.invariant.entries.count;
        small = bounded_put 4397912294400 at (end - at) old new c.loop-j.invariant.entries.small c.fill_table.ensures.small;
      };
      done = below_more _ _
          (λ i lt. table_in-before ws at (end - at) old new i (omega (arith, end_le ws i j lt, start)) (omega (arith, fits)) ∙ c.loop-j.invariant.done i lt)
          (table_in-written ws at end old new j start (omega (arith, size)) (omega (arith, fits)) long ∙ c.fill_table.ensures.distances);
    }

pub returns-clause-tables : goal.returns-clause-tables
unfolding tables_in tables
returns-clause-tables g c =
    maps_agree (table_in g.S.Shape.widths c.loop-j.entries) (λ j. distances c.args.book.now.scale (sub_words c.args.book.now j) (part c.args.book.now j c.args.query.now)) (sub_count c.args.book.now)
    (λ i lt. c.loop-j.invariant.done i (omega arith))
