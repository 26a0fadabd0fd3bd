use Rattle.std.proofs.Common.{◌≡◌, ℕ, ◌+◌, ◌%◌, ◌<◌, List, length, get_or, ap, sym, ◌∙◌, subst, arith}
use Rattle.std.proofs.Math.Nat.{mod-lt}
use Rattle.shape_core.proofs.Shapes.{table-at}
use Rattle.lane_kernels.specs.Table.{Table}
use Rattle.lane_kernels.specs.Sums.{width_at}
use Rattle.lane_kernels.proofs.Picks.{width_at-push}
use Rattle.bench_kernels.proofs.lanes.tables_of.Goals as goal

pub loop-j-preserved : goal.loop-j-preserved
loop-j-preserved g c =
    let j = c.loop-j.j in
    let ws = g.S.Shape.widths in
    let laws = g.S.Shape.laws in
    let some : 0 < g.S.Shape.FIELDS = omega (arith, laws.count) in
    let width : c.table_of.result.width ≡ get_or ws (j % length ws) 0 =
    c.table_of.ensures ∙ ap (λ n. get_or c.WIDTHS.result (j % n) 0) c.FIELDS-in-loop-j.ensures ∙ ap (λ l. get_or l (j % g.S.Shape.FIELDS) 0) c.WIDTHS.ensures
    ∙ table-at _ _ _ _ laws (j % g.S.Shape.FIELDS) (mod-lt j some) ∙ ap (λ n. get_or ws (j % n) 0) (sym laws.fields_are)
    in record {
      long = omega (arith, c.in_ok-push.ensures.len, c.loop-j.invariant.long);
      each = subst (λ (l : List Table). (i : ℕ) → i < j + 1 → width_at l i ≡ get_or ws (i % length ws) 0) (sym c.in_ok-push.ensures.items)
          (width_at-push ws c.loop-j.tables.items c.table_of.result j (sym c.loop-j.tables.ok.0 ∙ c.loop-j.invariant.long) c.loop-j.invariant.each width);
    }
