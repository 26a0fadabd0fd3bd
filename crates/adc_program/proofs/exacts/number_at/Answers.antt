use Rattle.std.proofs.Common.{w32, ◌∙◌, sym, ap, arith}
use Rattle.std.specs.Prelude.{FitsSigned}
use Rattle.std.specs.Int.{cast_signed}
use Rattle.std.proofs.lemmas.Int.{ints, to_z-of_z}
use Rattle.flat_truth.specs.declared.TruePair.{TruePair}
use Rattle.adc_program.proofs.NearestRows.{number_within}
use Rattle.adc_program.proofs.exacts.number_at.Goals as goal

pub returns-in-Some : goal.returns-in-Some
returns-in-Some c =
    let pair = c.in-Some.pair.now in
    let read = c.in-Some.ensures.lookup in
    let fits : FitsSigned w32 c.cast_signed.result = first_of (omega (arith, c.cast_signed.type_inv), omega (arith, ints, c.cast_signed.type_inv), search (arith, ints, c.cast_signed.type_inv)) in
    to_z-of_z w32 c.cast_signed.result fits ∙ c.cast_signed.ensures ∙ ap (λ (p : TruePair). cast_signed w32 p.row) read.1 ∙ sym (number_within c.args.pairs.now c.args.n pair read.3.0)
