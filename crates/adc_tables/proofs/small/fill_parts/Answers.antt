use Rattle.std.proofs.Common.{◌≡◌, ◌≢◌, length, get_or, map, sym, ap, ◌∙◌, arith, get_or-set_other, get_or-set_same, below_more, ◌%◌}
use Rattle.std.proofs.Math.ListN.{set}
use Rattle.std.proofs.lemmas.List.{get_or-map, same_lists}
use Rattle.std.proofs.lemmas.List.FromFn.{length-map-range_with_len, get_or-map-range_with_len}
use Rattle.book_model.specs.Sums.{numbers_below}
use Rattle.book_model.specs.Bound.{table_at, small}
use Rattle.lane_kernels.specs.Table.{Table}
use Rattle.adc_tables.specs.Small.{small_table}
use Rattle.adc_tables.proofs.Starts.{start_next}
use Rattle.adc_tables.proofs.small.fill_parts.Goals as goal

pub loop-j-preserved : goal.loop-j-preserved
loop-j-preserved g c =
    let ws = g.S.Shape.widths in
    let j = c.loop-j.j in
    let parts = c.loop-j.parts in
    let new = c.fill_part.new.part in
    let ts = c.args.full.now.tables in
    let size = c.args.steps.now.step in
    let long : length parts ≡ length c.args.parts.now = c.loop-j.auto.parts in
    let width : new.width ≡ get_or ws (j % length ws) 0 =
    c.fill_part.ensures.width ∙ ap (λ (t : Table). t.width) (c.loop-j.invariant.rest j c.index-parts-j.result (omega arith))
    ∙ sym (get_or-map (λ (t : Table). t.width) c.args.parts.now j c.index-parts-j.result 0 (omega arith)) ∙ c.requires.tables.each j (omega arith) in
    let entries : new.entries ≡ map (small size (table_at ts j)) (numbers_below (length (table_at ts j))) =
    c.fill_part.ensures.entries ∙ ap (λ table. map (small size table) (numbers_below (length table))) c.table-table.ensures.value in
    let whole : new ≡ small_table ws size ts j = (λ t. record { width = width t; entries = entries t }) in
    record {
      at = omega (arith, c.loop-j.invariant.at, c.table-table.ensures.size, start_next ws j);
      small = omega (arith, c.loop-j.invariant.small, c.table-table.ensures.short);
      done = λ k d lt. below_more (λ k. get_or (set parts j new) k d ≡ small_table ws size ts k) j
          (λ k h. let ne : k ≢ j = omega arith in get_or-set_other parts j k new d ne ∙ c.loop-j.invariant.done k d h)
          (get_or-set_same parts j new d (omega (arith, long)) ∙ whole) k lt;
      rest = λ k d le. let ne : k ≢ j = omega arith in get_or-set_other parts j k new d ne ∙ c.loop-j.invariant.rest k d (omega arith);
    }

pub fill_part-requires-clause-small : goal.fill_part-requires-clause-small
fill_part-requires-clause-small g c i = omega (arith, c.table-table.ensures.small i)

pub returns : goal.returns
returns g c =
    let f = small_table g.S.Shape.widths c.args.steps.now.step c.args.full.now.tables in
    let n = length c.args.full.now.tables in
    let size : length c.loop-j.parts ≡ n = c.loop-j.auto.parts ∙ c.requires.tables.count ∙ sym c.requires.full.count in
    same_lists c.loop-j.parts (map f (numbers_below n)) (size ∙ sym (length-map-range_with_len f 0 n))
    (λ k d lt. c.loop-j.invariant.done k d (omega (arith, c.loop-j.auto.parts)) ∙ sym (get_or-map-range_with_len f 0 n k k d (omega (arith, size)) (omega arith)))
