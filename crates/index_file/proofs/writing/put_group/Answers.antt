use Rattle.std.proofs.Common.{◌<◌, ◌++◌, length, ap, ◌∙◌, arith}
use Rattle.std.specs.List.{flat_map}
use Rattle.std.specs.Int.{w32, to_le_bytes}
use Rattle.std.proofs.lemmas.Result.{err_from_is_err_and}
use Rattle.index_file.specs.Spelling.{member_bytes, group_bytes}
use Rattle.index_file.specs.Grouped.{living, group_at}
use Rattle.index_file.proofs.Adding.{adds_stop, adds_after}
use Rattle.index_file.proofs.Members.{group_is}
use Rattle.index_file.proofs.writing.put_group.Goals as goal

pub returns-in_err-put_pair : goal.returns-in_err-put_pair
returns-in_err-put_pair g c =
    let p = err_from_is_err_and c.from_residual.result c.from_residual.ensures.1 in
    let widths = g.S.Shape.widths in
    let view = c.args.view.now in
    let rows = living c.args.stamp view.rows in
    let text = flat_map (member_bytes widths view.g) rows in
    let some : 0 < length rows = omega (arith, c.living_count-live.ensures, c.if-live-eq0.false) in
    rw (p.1, p.2) (adds_stop c.args.name.now c.in_err-put_pair.field-0.0 text (flat_map (group_bytes widths view.g) (group_at c.args.cell rows)) c.in_err-put_pair.ensures
    (ap (λ n. (to_le_bytes w32 c.args.cell ++ to_le_bytes w32 n) ++ text) c.living_count-live.ensures ∙ group_is widths view.g c.args.cell rows some))

pub returns : goal.returns
returns g c =
    let widths = g.S.Shape.widths in
    let view = c.args.view.now in
    let rows = living c.args.stamp view.rows in
    let text = flat_map (member_bytes widths view.g) rows in
    let some : 0 < length rows = omega (arith, c.living_count-live.ensures, c.if-live-eq0.false) in
    adds_after c.args.name.now c.put_members.result (flat_map (group_bytes widths view.g) (group_at c.args.cell rows)) c.in_ok-put_pair.ensures c.put_members.ensures
    (ap (λ n. (to_le_bytes w32 c.args.cell ++ to_le_bytes w32 n) ++ text) c.living_count-live.ensures ∙ group_is widths view.g c.args.cell rows some)
