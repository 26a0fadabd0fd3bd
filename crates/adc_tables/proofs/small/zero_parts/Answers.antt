use Rattle.std.proofs.Common.{◌≡◌, ℕ, ◌+◌, ◌%◌, ◌^◌, ◌<◌, List, length, get_or, ap, sym, ◌∙◌, subst, arith}
use Rattle.std.proofs.Math.Nat.{mod-lt}
use Rattle.std.proofs.lemmas.List.{length-replicate}
use Rattle.shape_core.proofs.Shapes.{table-at}
use Rattle.lane_kernels.specs.Table.{Table}
use Rattle.lane_kernels.specs.Sums.{width_at, entries_at}
use Rattle.lane_kernels.proofs.Picks.{width_at-push}
use Rattle.adc_tables.specs.Full.{table_size}
use Rattle.adc_tables.proofs.Smalls.{sizes_push}
use Rattle.adc_tables.proofs.small.zero_parts.Goals as goal

pub loop-j-preserved : goal.loop-j-preserved
loop-j-preserved g c =
    let j = c.loop-j.j in
    let ws = g.S.Shape.widths in
    let laws = g.S.Shape.laws in
    let some : 0 < g.S.Shape.FIELDS = omega (arith, laws.count) in
    let field : get_or c.WIDTHS.result (j % c.FIELDS-in-loop-j.result) 0 ≡ get_or ws (j % length ws) 0 =
    ap (λ n. get_or c.WIDTHS.result (j % n) 0) c.FIELDS-in-loop-j.ensures ∙ ap (λ l. get_or l (j % g.S.Shape.FIELDS) 0) c.WIDTHS.ensures
    ∙ table-at _ _ _ _ laws (j % g.S.Shape.FIELDS) (mod-lt j some) ∙ ap (λ n. get_or ws (j % n) 0) (sym laws.fields_are) in
    let size : length c.zero.result.entries ≡ table_size ws j = ap length c.zero.ensures.entries ∙ length-replicate _ 0 ∙ ap (λ n. 2 ^ n) field in
    let long : length c.loop-j.parts.items ≡ j = sym c.loop-j.parts.ok.0 ∙ c.loop-j.invariant.long in
    record {
      long = omega (arith, c.in-Ok-push.ensures.len, c.loop-j.invariant.long);
      each = subst (λ (l : List Table). (i : ℕ) → i < j + 1 → width_at l i ≡ get_or ws (i % length ws) 0) (sym c.in-Ok-push.ensures.items)
          (width_at-push ws c.loop-j.parts.items c.zero.result j long c.loop-j.invariant.each (c.zero.ensures.width ∙ field));
      sizes = subst (λ (l : List Table). (i : ℕ) → i < j + 1 → length (entries_at l i) ≡ table_size ws i) (sym c.in-Ok-push.ensures.items)
          (sizes_push ws c.loop-j.parts.items c.zero.result j long c.loop-j.invariant.sizes size);
    }
