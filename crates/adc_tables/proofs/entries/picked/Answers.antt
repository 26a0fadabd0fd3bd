use Rattle.std.proofs.Common.{◌≡◌, length, min, ap, ◌∙◌, arith}
use Rattle.book_model.specs.Sums.{sum_below}
use Rattle.adc_tables.specs.Full.{entry_of_field}
use Rattle.adc_tables.proofs.Starts.{capped_next}
use Rattle.adc_tables.proofs.entries.picked.Goals as goal

pub returns-clause-sum : goal.returns-clause-sum
returns-clause-sum g c =
    let n = length g.S.Shape.widths in
    let f = entry_of_field g.S.Shape.widths c.args.entries.now c.args.at c.args.word in
    let none : 0 ≡ sum_below (min 0 n) f = ap (λ k. sum_below k f) {x = 0} {y = min 0 n} (omega arith) in
    let first = capped_next 0 n 0 c.add_field-first.result f c.add_field-first.ensures.there c.add_field-first.ensures.none none in
    let second = capped_next 1 n c.add_field-first.result c.add_field-second.result f c.add_field-second.ensures.there c.add_field-second.ensures.none first in
    let third = capped_next 2 n c.add_field-second.result c.add_field-third.result f c.add_field-third.ensures.there c.add_field-third.ensures.none second in
    let fourth = capped_next 3 n c.add_field-third.result c.add_field.result f c.add_field.ensures.there c.add_field.ensures.none third in
    fourth ∙ ap (λ k. sum_below k f) {x = min 4 n} {y = n} (omega (arith, g.S.Shape.laws.count, g.S.Shape.laws.fields_are))
