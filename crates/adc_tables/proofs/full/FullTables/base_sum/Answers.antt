use Rattle.std.proofs.Common.{◌≡◌, ◌*◌, ◌≤◌, length, ap, sym, ◌∙◌, arith}
use Rattle.book_model.specs.Sums.{sum_below, least}
use Rattle.book_model.specs.Bound.{base_sum, table_at}
use Rattle.book_model.proofs.Pruning.{least-le}
use Rattle.adc_tables.proofs.Starts.{start_next, sum_next}
use Rattle.adc_tables.proofs.Views.{table_count}
use Rattle.adc_tables.proofs.full.FullTables.base_sum.Goals as goal

pub table-requires-clause-number : goal.table-requires-clause-number
table-requires-clause-number g c =
    let fields : c.FIELDS.result ≡ length g.S.Shape.widths = c.FIELDS.ensures ∙ sym g.S.Shape.laws.fields_are in
    let all : c.self.inside.g * c.FIELDS.result ≡ length c.args.self.now.tables = ap (λ n. c.self.inside.g * n) fields ∙ sym (table_count _ _ _ _ c.self.view_is) in
    omega (arith, all, c.loop-j-test.true)

pub overflow_add-sum : goal.overflow_add-sum
overflow_add-sum g c =
    let small : c.least_of-sum.result ≤ 4397912294400 = omega (arith, least-le c.table.result.now 0 (omega (arith, c.table.ensures.some)), c.table.ensures.small 0, c.least_of-sum.ensures) in
    omega (arith, small, c.loop-j.invariant.small, c.loop-j.invariant.few, c.loop-j-test.true)

pub loop-j-preserved : goal.loop-j-preserved
loop-j-preserved g c =
    let small : c.least_of-sum.result ≤ 4397912294400 = omega (arith, least-le c.table.result.now 0 (omega (arith, c.table.ensures.some)), c.table.ensures.small 0, c.least_of-sum.ensures) in
    let next = sum_next c.loop-j.j (λ j. least (table_at c.args.self.now.tables j)) in
    let same : c.least_of-sum.result ≡ least (table_at c.args.self.now.tables c.loop-j.j) = c.least_of-sum.ensures ∙ ap least c.table.ensures.value in
    record {
      at = omega (arith, c.loop-j.invariant.at, start_next g.S.Shape.widths c.loop-j.j, c.size_of_table-at.ensures.size);
      small_at = omega (arith, c.loop-j.invariant.small_at, c.size_of_table-at.ensures.small);
      few = c.loop-j.invariant.few;
      sum = omega (arith, c.loop-j.invariant.sum, next, same);
      small = omega (arith, c.loop-j.invariant.small, small);
    }

pub returns : goal.returns
unfolding base_sum
returns g c =
    let fields : c.FIELDS.result ≡ length g.S.Shape.widths = c.FIELDS.ensures ∙ sym g.S.Shape.laws.fields_are in
    let all : c.loop-j.j ≡ length c.args.self.now.tables = omega arith ∙ ap (λ n. c.self.inside.g * n) fields ∙ sym (table_count _ _ _ _ c.self.view_is) in
    c.loop-j.invariant.sum ∙ ap (λ n. sum_below n (λ j. least (table_at c.args.self.now.tables j))) all
