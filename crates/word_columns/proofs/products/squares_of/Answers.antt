use Rattle.std.proofs.Common.{◌≡◌, ◌*◌, ◌%◌, ◌^◌, ◌<◌, ◌≤◌, get_or, length, ap, sym, ◌∙◌, arith}
use Rattle.std.proofs.Math.Nat.{mod-eq_of_lt}
use Rattle.book_model.specs.Sums.{sum_below}
use Rattle.word_columns.specs.Columns.{squared}
use Rattle.word_columns.proofs.Squares.{scaled_squares, shifted}
use Rattle.word_columns.proofs.products.squares_of.Goals as goal

pub returns-clause-value : goal.returns-clause-value
returns-clause-value c =
    let n = length c.args.x.now in
    let whole : c.loop-i.i ≡ n = omega (arith, c.loop-i-test.false, c.loop-i.auto.i-end) in
    let few : c.loop-i.sum ≤ 66585600 = omega (arith, c.loop-i.invariant.few, c.requires.short, whole) in
    let is : c.from.result ≡ c.loop-i.sum = omega (arith, c.from.ensures) in
    mod-eq_of_lt (omega (arith, is, ap (λ m. m * 2 ^ (2 * c.args.scale)) is, shifted c.loop-i.sum c.args.scale few c.requires.scale))
    ∙ ap (λ m. m * 2 ^ (2 * c.args.scale)) (is ∙ c.loop-i.invariant.total ∙ ap (λ m. sum_below m (λ i. squared (get_or c.args.x.now i 0))) whole)
    ∙ sym (scaled_squares n c.args.scale (λ i. get_or c.args.x.now i 0))

pub returns-clause-few : goal.returns-clause-few
returns-clause-few c =
    let n = length c.args.x.now in
    let whole : c.loop-i.i ≡ n = omega (arith, c.loop-i-test.false, c.loop-i.auto.i-end) in
    let few : c.loop-i.sum ≤ 66585600 = omega (arith, c.loop-i.invariant.few, c.requires.short, whole) in
    let is : c.from.result ≡ c.loop-i.sum = omega (arith, c.from.ensures) in
    let small = shifted c.loop-i.sum c.args.scale few c.requires.scale in
    let same = ap (λ m. m * 2 ^ (2 * c.args.scale)) is in
    let lt : c.from.result * 2 ^ (2 * c.args.scale) < 18446744073709551616 = omega (arith, same, small) in
    let keeps : c.from.result * 2 ^ (2 * c.args.scale) % 18446744073709551616 ≡ c.from.result * 2 ^ (2 * c.args.scale) = mod-eq_of_lt lt in
    omega (arith, keeps, same, small)
