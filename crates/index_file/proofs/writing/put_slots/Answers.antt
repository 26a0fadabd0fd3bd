use Rattle.std.proofs.Common.{◌≡◌, ◌+◌, ◌*◌, ◌<◌, Ok, length, get_or, take, drop, ap, sym, ◌∙◌, arith}
use Rattle.std.proofs.lemmas.Result.{err_from_is_err_and}
use Rattle.std.proofs.lemmas.List.{length-map, length-take}
use Rattle.cell_store.specs.Blocks.{slot_of, no_row}
use Rattle.cell_store.specs.Slots.{slot_at}
use Rattle.index_file.specs.Grouped.{members_text}
use Rattle.index_file.proofs.Adding.{adds_stop_after, adds_after}
use Rattle.index_file.proofs.Members.{code_at, slot_is, slot_more, slot_left}
use Rattle.index_file.proofs.writing.put_slots.Goals as goal

pub overflow_cast-i : goal.overflow_cast-i
overflow_cast-i g c =
    let rows = drop (32 * c.args.n) c.args.view.now.rows in
    omega (arith, ap length c.slots-slots.ensures, length-map (take 32 rows) slot_of, length-take 32 rows, c.loop-i-test.true)

pub put_slot-requires-clause-place : goal.put_slot-requires-clause-place
put_slot-requires-clause-place g c =
    let rows = drop (32 * c.args.n) c.args.view.now.rows in
    omega (arith, ap length c.slots-slots.ensures, length-map (take 32 rows) slot_of, length-take 32 rows, c.loop-i-test.true)

pub put_slot-requires-clause-few : goal.put_slot-requires-clause-few
put_slot-requires-clause-few g c = omega (arith, (code_at g.S.Shape.widths c.args.view.now.g c.block-block.result 0 c.block-block.ensures.words (omega arith)).count, c.requires.g)

pub put_slot-requires-clause-words : goal.put_slot-requires-clause-words
put_slot-requires-clause-words g c =
    let rows = drop (32 * c.args.n) c.args.view.now.rows in
    let words = c.block-block.ensures.words in
    (code_at g.S.Shape.widths c.args.view.now.g c.block-block.result c.loop-i.i words (omega (arith, ap length c.slots-slots.ensures, length-map (take 32 rows) slot_of, length-take 32 rows, c.loop-i-test.true))).count
    ∙ sym (code_at g.S.Shape.widths c.args.view.now.g c.block-block.result 0 words (omega arith)).count

pub returns-in_err-put_slot-clause-adds : goal.returns-in_err-put_slot-clause-adds
returns-in_err-put_slot-clause-adds g c =
    let p = err_from_is_err_and c.from_residual.result c.from_residual.ensures.1 in
    let widths = g.S.Shape.widths in
    let view = c.args.view.now in
    let stretch = take 32 (drop (32 * c.args.n) view.rows) in
    let i = c.loop-i.i in
    let lt : i < length stretch = omega (arith, ap length c.slots-slots.ensures, length-map stretch slot_of, c.loop-i-test.true) in
    let same : slot_at c.slots-slots.result.now i ≡ slot_of (get_or stretch i no_row) = slot_is stretch c.slots-slots.result.now i (record { id = 0; born = 0; died = 0 }) c.slots-slots.ensures lt in
    rw (p.1, p.2) (
    adds_stop_after c.args.name.now c.in_err-put_slot.field-0.0 (members_text widths view.g c.args.stamp (drop (i + 1) stretch)) (members_text widths view.g c.args.stamp stretch) c.loop-i.invariant c.in_err-put_slot.ensures
    (slot_left widths view.g c.args.stamp c.args.n view.rows c.block-block.result c.block-block.ensures.words c.block-block.ensures.codes i lt (slot_at c.slots-slots.result.now i) same)
    )

pub loop-i-preserved : goal.loop-i-preserved
loop-i-preserved g c =
    let widths = g.S.Shape.widths in
    let view = c.args.view.now in
    let stretch = take 32 (drop (32 * c.args.n) view.rows) in
    let i = c.loop-i.i in
    let lt : i < length stretch = omega (arith, ap length c.slots-slots.ensures, length-map stretch slot_of, c.loop-i-test.true) in
    let same : slot_at c.slots-slots.result.now i ≡ slot_of (get_or stretch i no_row) = slot_is stretch c.slots-slots.result.now i (record { id = 0; born = 0; died = 0 }) c.slots-slots.ensures lt in
    adds_after c.args.name.now (Ok tt) (members_text widths view.g c.args.stamp (take (i + 1) stretch)) c.loop-i.invariant c.in_ok-put_slot.ensures
    (slot_more widths view.g c.args.stamp c.args.n view.rows c.block-block.result c.block-block.ensures.words c.block-block.ensures.codes i lt (slot_at c.slots-slots.result.now i) same)
