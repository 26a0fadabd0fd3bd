use Rattle.std.proofs.Common.{◌≡◌, ◌+◌, ◌<◌, min, get_or, length, ap, sym, ◌∙◌, arith, ◌%◌, ◌^◌}
use Rattle.std.proofs.lemmas.List.{get_or-map}
use Rattle.shape_core.proofs.Shapes.{field_fits, table-at}
use Rattle.lane_kernels.specs.Table.{Table}
use Rattle.lane_kernels.proofs.Picks.{picked_is, picked_in}
use Rattle.lane_kernels.proofs.sums.add_field.Goals as goal

pub returns-then-f-FIELDS : goal.returns-then-f-FIELDS
returns-then-f-FIELDS g c =
    let ws = g.S.Shape.widths in
    let f = c.args.f in
    let lt : f < g.S.Shape.FIELDS = omega arith in
    let within : f < length ws = omega (arith, g.S.Shape.laws.fields_are) in
    let is : get_or c.WIDTHS.result f 0 ≡ get_or ws f 0 = ap (λ l. get_or l f 0) c.WIDTHS.ensures ∙ table-at _ _ _ _ g.S.Shape.laws f lt in
    record {
      long = c.add_capped.ensures.long;
      each = λ k h.
          let x = get_or c.args.word k 0 in
          let found = picked_is ws c.args.tables.now c.args.at f x c.offset.result (get_or c.WIDTHS.result f 0) _ _ c.index-tables-at.result (omega (arith, c.requires.room)) c.offset.ensures is
          (c.field-fields.ensures.each k h) (c.picked.ensures.each k h ∙ ap (λ (t : Table). get_or t.entries (get_or c.field-fields.result k 0 % 2 ^ get_or c.WIDTHS.result f 0) 0) c.index-tables-at.is) in
          c.add_capped.ensures.each k h
          ∙ ap (λ n. min 255 (get_or c.args.sum k 0 + n)) (found ∙ sym (picked_in ws c.args.tables.now c.args.at x f within));
    }

pub field-fields-requires-clause-fits : goal.field-fields-requires-clause-fits
field-fields-requires-clause-fits g c =
    let lt : c.args.f < g.S.Shape.FIELDS = omega arith in let fit = field_fits _ _ _ _ g.S.Shape.laws c.args.f lt in omega (arith, c.offset.ensures, fit.least, fit.ends)

pub picked-requires : goal.picked-requires
picked-requires g c =
    let f = c.args.f in
    let lt : f < g.S.Shape.FIELDS = omega arith in
    let within : f < length g.S.Shape.widths = omega (arith, g.S.Shape.laws.fields_are) in
    ap (λ l. get_or l f 0) c.WIDTHS.ensures ∙ table-at _ _ _ _ g.S.Shape.laws f lt ∙ sym (c.requires.each f within)
    ∙ get_or-map (λ (t : Table). t.width) c.args.tables.now (c.args.at + f) c.index-tables-at.result 0 (omega (arith, c.requires.room)) ∙ ap (λ (t : Table). t.width) (sym c.index-tables-at.is)
