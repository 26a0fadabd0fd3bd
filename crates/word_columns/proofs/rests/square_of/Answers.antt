use Rattle.std.proofs.Common.{◌≤◌, arith}
use Rattle.std.proofs.lemmas.Nat.{mul-le}
use Rattle.word_columns.proofs.rests.square_of.Goals as goal

pub returns-clause-few : goal.returns-clause-few
returns-clause-few c =
    let le : c.from-gap.result ≤ 98048 = omega (arith, c.from-gap.ensures, c.abs_diff.ensures, c.requires) in
    mul-le c.from-gap.result c.from-gap.result 98048 98048 le le
