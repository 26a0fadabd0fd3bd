use Rattle.std.proofs.Common.{◌≡◌, ◌*◌, ◌%◌, ◌<◌, length, get_or, ap, sym, ◌∙◌, arith, below_more}
use Rattle.std.proofs.Math.Nat.{mod-lt}
use Rattle.std.proofs.lemmas.List.{get_or-map}
use Rattle.shape_core.proofs.Shapes.{table-at}
use Rattle.lane_kernels.specs.Table.{Table}
use Rattle.table_tests.proofs.lane_tests.sum_of.Goals as goal

pub loop-j-preserved : goal.loop-j-preserved
loop-j-preserved g c =
    let j = c.loop-j.j in
    let laws = g.S.Shape.laws in
    let some : 0 < g.S.Shape.FIELDS = omega (arith, laws.count) in
    let same : c.width.result ≡ get_or c.WIDTHS.result (j % c.FIELDS-in-loop-j.result) 0 = omega arith in
    below_more _ _ c.loop-j.invariant
    (get_or-map (λ (t : Table). t.width) c.args.tables.now j c.index-tables-j.result 0 c.loop-j-test.true ∙ ap (λ (t : Table). t.width) (sym c.index-tables-j.is) ∙ sym c.width.ensures ∙ same
    ∙ ap (λ n. get_or c.WIDTHS.result (j % n) 0) c.FIELDS-in-loop-j.ensures ∙ ap (λ l. get_or l (j % g.S.Shape.FIELDS) 0) c.WIDTHS.ensures
    ∙ table-at _ _ _ _ laws (j % g.S.Shape.FIELDS) (mod-lt j some) ∙ ap (λ n. get_or g.S.Shape.widths (j % n) 0) (sym laws.fields_are))

pub sum32-requires-clause-tables : goal.sum32-requires-clause-tables
sum32-requires-clause-tables g c = record {
  count =
      let fields : c.FIELDS.result ≡ length g.S.Shape.widths = omega (arith, g.S.Shape.laws.fields_are) in
      let counted : length c.args.tables.now ≡ length c.args.words.now * c.FIELDS.result = omega arith in
      counted ∙ ap (λ n. length c.args.words.now * n) fields;
  each = λ j h. c.loop-j.invariant j (omega arith);
}
