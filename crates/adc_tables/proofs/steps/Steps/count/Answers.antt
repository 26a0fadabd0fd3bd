use Rattle.std.proofs.Common.{◌*◌, ◌≤◌, ap, arith}
use Rattle.adc_tables.proofs.Quotients.{product_small, estimate_fits, one_more, no_more}
use Rattle.adc_tables.proofs.steps.Steps.count.Goals as goal

pub overflow_mul-low : goal.overflow_mul-low
overflow_mul-low c =
    let s = c.args.self.now in
    let within : c.min-gap.result ≤ 255 * s.step = omega (arith, c.min-gap.ensures, s.most_is) in
    omega (arith, product_small s.step 72057594037927936 c.min-gap.result within, ap (λ m. c.min-gap.result * m) s.inverse_is)

pub overflow_sub-rest : goal.overflow_sub-rest
overflow_sub-rest c =
    let s = c.args.self.now in
    estimate_fits s.step s.most s.inverse c.args.gap c.min-gap.result s.some s.most_is s.inverse_is c.requires c.min-gap.ensures

pub overflow_cast-result-else-rest-self : goal.overflow_cast-result-else-rest-self
overflow_cast-result-else-rest-self c =
    let s = c.args.self.now in
    omega (arith, no_more s.step s.most s.inverse c.args.gap c.min-gap.result s.some s.most_is s.inverse_is c.requires c.min-gap.ensures c.if-rest-self.false)

pub returns-then-rest-self : goal.returns-then-rest-self
returns-then-rest-self c =
    let s = c.args.self.now in
    one_more s.step s.most s.inverse c.args.gap c.min-gap.result s.some s.most_is s.inverse_is c.requires c.min-gap.ensures c.if-rest-self.true

pub returns-else-rest-self : goal.returns-else-rest-self
returns-else-rest-self c =
    let s = c.args.self.now in
    no_more s.step s.most s.inverse c.args.gap c.min-gap.result s.some s.most_is s.inverse_is c.requires c.min-gap.ensures c.if-rest-self.false
