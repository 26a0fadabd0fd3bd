use Rattle.std.proofs.Common.{◌≡◌, ◌≤◌, get_or, ap, arith}
use Rattle.shape_core.proofs.Shapes.{offset_of-past}
use Rattle.shape_core.proofs.offset.Goals as goal

pub returns-in_default : goal.returns-in_default
returns-in_default g c =
    let table = g.S.Shape.WIDTHS in
    let past : 4 ≤ c.args.n = omega arith in
    let a : get_or c.WIDTHS.result 0 0 ≡ get_or table 0 0 = ap (λ l. get_or l 0 0) c.WIDTHS.ensures in
    let b : get_or c.WIDTHS-2.result 1 0 ≡ get_or table 1 0 = ap (λ l. get_or l 1 0) c.WIDTHS-2.ensures in
    let d : get_or c.WIDTHS-3.result 2 0 ≡ get_or table 2 0 = ap (λ l. get_or l 2 0) c.WIDTHS-3.ensures in
    let e : get_or c.WIDTHS-in_default.result 3 0 ≡ get_or table 3 0 = ap (λ l. get_or l 3 0) c.WIDTHS-in_default.ensures in
    omega (arith, offset_of-past _ _ _ _ g.S.Shape.laws c.args.n past)
