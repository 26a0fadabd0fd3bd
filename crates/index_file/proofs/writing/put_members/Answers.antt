use Rattle.std.proofs.Common.{◌+◌, ◌*◌, Ok, take, drop, arith}
use Rattle.std.proofs.lemmas.Result.{err_from_is_err_and}
use Rattle.index_file.specs.Grouped.{members_text}
use Rattle.index_file.proofs.Adding.{adds_stop_after, adds_after}
use Rattle.index_file.proofs.Members.{text_more, text_rest}
use Rattle.index_file.proofs.writing.put_members.Goals as goal

pub returns-in_err-put_slots : goal.returns-in_err-put_slots
returns-in_err-put_slots g c =
    let p = err_from_is_err_and c.from_residual.result c.from_residual.ensures.1 in
    let view = c.args.view.now in
    let widths = g.S.Shape.widths in
    rw (p.1, p.2) (adds_stop_after c.args.name.now c.in_err-put_slots.field-0.0 (members_text widths view.g c.args.stamp (drop (32 * (c.loop-n.n + 1)) view.rows)) (members_text widths view.g c.args.stamp view.rows)
    c.loop-n.invariant.adds c.in_err-put_slots.ensures.adds (text_rest widths view.g c.args.stamp c.loop-n.n view.rows))

pub loop-n-preserved : goal.loop-n-preserved
loop-n-preserved g c =
    let view = c.args.view.now in
    let widths = g.S.Shape.widths in
    record {
      meter = omega (arith, c.in_ok-put_slots.ensures.meter, c.loop-n.invariant.meter);
      adds = adds_after c.args.name.now (Ok tt) (members_text widths view.g c.args.stamp (take (32 * (c.loop-n.n + 1)) view.rows)) c.loop-n.invariant.adds c.in_ok-put_slots.ensures.adds (text_more widths view.g c.args.stamp c.loop-n.n view.rows);
    }
