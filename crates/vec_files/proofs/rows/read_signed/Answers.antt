use Rattle.std.proofs.Common.{pos, arith}
use Rattle.std.proofs.lemmas.List.Elements.{All-from_recursion}
use Rattle.vec_files.proofs.Components.{numbers_spelled}
use Rattle.vec_files.proofs.rows.read_signed.Goals as goal

pub returns : goal.returns
returns c =
    let it = numbers_spelled c.read_i32_into.new.dst c.args.bytes.now (λ i. omega (arith, c.type_inv.bytes i)) (omega arith) (c.read_i32_into.ensures (pos 0)) in
    record { spelling = it.0; fits = All-from_recursion _ _ it.1 }
