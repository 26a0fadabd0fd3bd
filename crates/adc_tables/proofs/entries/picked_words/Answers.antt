use Rattle.std.proofs.Common.{◌≡◌, ◌+◌, ◌*◌, length, refl, ap, ◌∙◌, arith}
use Rattle.book_model.specs.Sums.{sum_below}
use Rattle.adc_tables.specs.Full.{table_start}
use Rattle.adc_tables.proofs.Starts.{word_end, start_of_field}
use Rattle.adc_tables.proofs.Sums.{pick, word_more, picked_sum-all}
use Rattle.adc_tables.proofs.entries.picked_words.Goals as goal

pub picked-sum-requires-clause-room : goal.picked-sum-requires-clause-room
picked-sum-requires-clause-room g c =
    omega (arith, word_end g.S.Shape.widths c.loop-word.word-index (length c.args.code.now) c.loop-word.at c.loop-word-test.true c.loop-word.invariant.at, c.requires.room)

pub overflow_add-at : goal.overflow_add-at
overflow_add-at g c =
    let ws = g.S.Shape.widths in
    let step : c.field_start-at.result ≡ table_start ws (length ws) = c.field_start-at.ensures ∙ ap (table_start ws) (omega (arith, g.S.Shape.laws.count, g.S.Shape.laws.fields_are)) in
    omega (arith, step, word_end ws c.loop-word.word-index (length c.args.code.now) c.loop-word.at c.loop-word-test.true c.loop-word.invariant.at, c.requires.room)

pub loop-word-preserved : goal.loop-word-preserved
loop-word-preserved g c =
    let ws = g.S.Shape.widths in
    let w = c.loop-word.word-index in
    let code = c.args.code.now in
    let step : c.field_start-at.result ≡ table_start ws (length ws) = c.field_start-at.ensures ∙ ap (table_start ws) (omega (arith, g.S.Shape.laws.count, g.S.Shape.laws.fields_are)) in
    let next : (w + 1) * length ws ≡ w * length ws + length ws = omega arith in
    record {
      at = omega (arith, step, c.loop-word.invariant.at, start_of_field ws w (length ws) (omega arith), ap (table_start ws) next);
      sum = omega (arith, c.loop-word.invariant.sum, word_more ws (length code * length ws) c.args.entries.now code w c.loop-word.at c.loop-word-test.true refl c.loop-word.invariant.at, c.picked-sum.ensures.sum);
      small = omega (arith, c.loop-word.invariant.small, c.picked-sum.ensures.small);
    }

pub returns-clause-sum : goal.returns-clause-sum
returns-clause-sum g c =
    let ws = g.S.Shape.widths in
    let code = c.args.code.now in
    let all : c.loop-word.word-index ≡ length code = omega arith in
    c.loop-word.invariant.sum ∙ ap (λ k. sum_below (k * length ws) (pick ws (length code * length ws) c.args.entries.now code)) all ∙ picked_sum-all ws (length code * length ws) c.args.entries.now code refl
