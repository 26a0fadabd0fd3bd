use Rattle.std.proofs.Common.{◌≡◌, ℕ, ◌+◌, length, take, drop, ap, ◌∙◌, arith}
use Rattle.std.proofs.lemmas.Bool.{OnTrue_at}
use Rattle.std.proofs.lemmas.List.{length-take, length-drop, length-append}
use Rattle.std.proofs.lemmas.Result.{err_from_is_err_and}
use Rattle.cell_store.specs.State.{live_rows}
use Rattle.index_file.specs.Ahead.{layout, rest, size_of}
use Rattle.index_file.proofs.Stretch.{part_is}
use Rattle.index_file.proofs.Starting.{refuses_along}
use Rattle.index_file.proofs.reading.over_stretch.Goals as goal

pub returns-in_err-next-clause-rest : goal.returns-in_err-next-clause-rest
returns-in_err-next-clause-rest g c = λ bytes is.
    let p = err_from_is_err_and c.from_residual.result c.from_residual.ensures.1 in
    let part = part_is bytes c.args.stretch.now c.part_at-part.result.now c.args.at c.steps.place (size_of c.args.sizes.g c.steps.ahead)
    (c.part_at-part.ensures ∙ ap (λ (n : ℕ). take n (drop c.steps.place c.args.stretch.now)) c.size.ensures.value) is (OnTrue_at c.steps-test.true c.is_next.ensures.whole) in
    rw (p.1, p.2) (refuses_along c.in_err-next.field-0.0 _ _ (c.steps.invariant.rest bytes is) (c.in_err-next.ensures.rest bytes part))

pub steps-preserved : goal.steps-preserved
steps-preserved g c =
    let long = ap length c.part_at-part.ensures ∙ length-take c.size.result (drop c.steps.place c.args.stretch.now) in
    record {
      place = omega (arith, long, length-drop c.steps.place c.args.stretch.now, c.in_ok-next.ensures.whole, c.steps.invariant.place);
      code = omega (arith, length-append c.step.new.code (drop c.args.sizes.g c.steps.code), length-drop c.args.sizes.g c.steps.code, length-take c.args.sizes.g c.steps.code, c.steps.invariant.code, c.args.sizes.few_words, c.step.auto.code);
      before = c.in_ok-next.ensures.before;
      fewer = omega (arith, c.in_ok-next.ensures.fewer, c.steps.invariant.fewer);
      first = λ e. absurd (omega (arith, c.in_ok-next.ensures.size, c.size.ensures.some, c.size.ensures.value, e));
      rest = λ bytes is.
          let part = part_is bytes c.args.stretch.now c.part_at-part.result.now c.args.at c.steps.place (size_of c.args.sizes.g c.steps.ahead)
          (c.part_at-part.ensures ∙ ap (λ (n : ℕ). take n (drop c.steps.place c.args.stretch.now)) c.size.ensures.value) is (OnTrue_at c.steps-test.true c.is_next.ensures.whole) in
          let there : c.args.at + (c.steps.place + c.in_ok-next.count) ≡ c.args.at + c.steps.place + c.in_ok-next.count = omega arith in
          ap (λ (k : ℕ). rest (layout g.S.Shape.widths c.args.sizes) c.in_ok-next.next (live_rows c.step.new.store) bytes k) there
          ∙ c.in_ok-next.ensures.rest bytes part ∙ c.steps.invariant.rest bytes is;
    }
