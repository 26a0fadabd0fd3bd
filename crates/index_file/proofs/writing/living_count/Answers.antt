use Rattle.std.proofs.Common.{◌≡◌, ◌*◌, length, filter, take, drop, ap, ◌∙◌, arith}
use Rattle.std.proofs.lemmas.List.{length-map, length-take}
use Rattle.cell_store.specs.Blocks.{slot_of}
use Rattle.cell_store.specs.Slots.{slot_lives}
use Rattle.index_file.specs.Grouped.{living}
use Rattle.index_file.proofs.Members.{living_slots, count_more}
use Rattle.index_file.proofs.writing.living_count.Goals as goal

pub living_in-count-requires : goal.living_in-count-requires
living_in-count-requires g c =
    let few = take 32 (drop (32 * c.loop-n.n) c.args.view.now.rows) in
    omega (arith, ap length c.slots.ensures, length-map few slot_of, length-take 32 (drop (32 * c.loop-n.n) c.args.view.now.rows))

pub overflow_add-count : goal.overflow_add-count
overflow_add-count g c = omega (arith, c.loop-n.invariant.few, c.living_in-count.ensures.few, c.loop-n-test.true, c.div_ceil-groups.ensures, c.kept.ensures, c.requires)

pub loop-n-preserved : goal.loop-n-preserved
loop-n-preserved g c =
    let rows = c.args.view.now.rows in
    let n = c.loop-n.n in
    let here : c.living_in-count.result ≡ length (living c.args.stamp (take 32 (drop (32 * n) rows))) =
    c.living_in-count.ensures.count ∙ ap (λ slots. length (filter (slot_lives c.args.stamp) slots)) c.slots.ensures ∙ living_slots c.args.stamp (take 32 (drop (32 * n) rows)) in
    record {
      count = omega (arith, c.loop-n.invariant.count, here, count_more c.args.stamp n rows);
      few = omega (arith, c.loop-n.invariant.few, c.living_in-count.ensures.few);
    }
