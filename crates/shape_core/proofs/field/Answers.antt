use Rattle.std.proofs.Common.{◌≡◌, ◌-◌, ◌*◌, ◌/◌, ◌%◌, ◌^◌, get_or, ap, ap₂, ◌∙◌, arith}
use lib.Bits.{bit_and, and_mask}
use Rattle.std.proofs.lemmas.Nat.{one_shl}
use Rattle.shape_core.proofs.Shapes.{field_fits, table-at}
use Rattle.shape_core.proofs.field.Goals as goal

pub overflow_shr-result : goal.overflow_shr-result
overflow_shr-result g c =
    let fit = field_fits _ _ _ _ g.S.Shape.laws c.args.n c.requires in omega (arith, c.offset.ensures, fit.least, fit.ends)

pub returns-clause-value : goal.returns-clause-value
returns-clause-value g c =
    let n = c.args.n in
    let w = get_or g.S.Shape.widths n 0 in
    let fit = field_fits _ _ _ _ g.S.Shape.laws n c.requires in
    let width : get_or c.WIDTHS.result n 0 ≡ w = ap (λ l. get_or l n 0) c.WIDTHS.ensures ∙ table-at _ _ _ _ g.S.Shape.laws n c.requires in
    let mask : 1 * 2 ^ get_or c.WIDTHS.result n 0 % 65536 - 1 ≡ 2 ^ w - 1 = ap (λ k. 1 * 2 ^ k % 65536 - 1) width ∙ ap (λ k. k - 1) (one_shl w 16 (omega (arith, fit.most))) in
    ap₂ (λ o m. bit_and (c.args.word / 2 ^ o) m) c.offset.ensures mask ∙ and_mask (c.args.word / 2 ^ _) w
