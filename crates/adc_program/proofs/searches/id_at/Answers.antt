use Rattle.std.proofs.Common.{w32, ◌∙◌, ◌≤◌, sym, ap, subst, arith}
use Rattle.std.specs.Prelude.{pos}
use Rattle.std.proofs.lemmas.Int.{ints, to_z_pos}
use Rattle.best_k.specs.declared.Pair.{Pair}
use Rattle.adc_program.proofs.IdRows.{id_small, get_or-signed_ids}
use Rattle.adc_program.proofs.searches.id_at.Goals as goal

pub overflow_cast-result : goal.overflow_cast-result
overflow_cast-result c =
    let pair = c.in-Some.pair.now in
    let read = c.in-Some.ensures.lookup in
    let small : pair.id ≤ 2147483647 = subst (λ (p : Pair). p.id ≤ 2147483647) (sym read.1) (id_small 2147483647 c.args.hits.now c.args.n pair c.requires.ids read.3.0) in
    first_of (omega arith, omega (arith, ints), search (arith, ints))

pub returns-in-Some : goal.returns-in-Some
returns-in-Some c =
    let pair = c.in-Some.pair.now in
    let read = c.in-Some.ensures.lookup in
    let small : pair.id ≤ 2147483647 = subst (λ (p : Pair). p.id ≤ 2147483647) (sym read.1) (id_small 2147483647 c.args.hits.now c.args.n pair c.requires.ids read.3.0) in
    to_z_pos w32 pair.id (omega arith) ∙ ap (λ (p : Pair). pos p.id) read.1 ∙ sym (get_or-signed_ids c.args.hits.now c.args.n pair read.3.0)
