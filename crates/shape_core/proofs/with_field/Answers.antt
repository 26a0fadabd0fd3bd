use Rattle.std.proofs.Common.{◌+◌, ◌*◌, ◌%◌, ◌^◌, ◌<◌, get_or, ap, ap₂, ◌∙◌, arith}
use lib.Bits.{bit_or, or_comm}
use Rattle.std.proofs.Math.Nat.{mod-eq_of_lt, add_comm}
use Rattle.std.proofs.Math.Pow.{pow_mono}
use Rattle.std.proofs.lemmas.Nat.{or_shifted, shl_below}
use Rattle.shape_core.specs.Word.{offset_of}
use Rattle.shape_core.proofs.Shapes.{field_fits}
use Rattle.shape_core.proofs.with_field.Goals as goal

pub returns-then-n-FIELDS : goal.returns-then-n-FIELDS
returns-then-n-FIELDS g c =
    let n = c.args.n in
    let ws = g.S.Shape.widths in
    let o = offset_of ws n in
    let x = get_or c.args.fields.now n 0 in
    let in_it : n < g.S.Shape.FIELDS = omega arith in
    let fit = field_fits _ _ _ _ g.S.Shape.laws n in_it in
    let small : x * 2 ^ o < 2 ^ (get_or ws n 0 + o) = shl_below x (get_or ws n 0) o (c.requires.fits.each n (omega (arith, g.S.Shape.laws.fields_are))) in
    let room : x * 2 ^ o < 65536 = omega (arith, small, pow_mono {i = get_or ws n 0 + o} {j = 16} (omega (arith, fit.ends))) in
    ap₂ (λ y k. bit_or c.args.word (y * 2 ^ k % 65536)) c.from.ensures c.offset.ensures ∙ ap (bit_or c.args.word) (mod-eq_of_lt room)
    ∙ or_comm c.args.word (x * 2 ^ o) ∙ or_shifted x o c.args.word c.requires.below ∙ add_comm (x * 2 ^ o) c.args.word
