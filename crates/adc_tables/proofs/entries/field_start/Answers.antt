use Rattle.std.proofs.Common.{◌≡◌, ℕ, ◌+◌, ◌<◌, ◌≤◌, List, length, min, sym, ap, ◌∙◌, arith}
use Rattle.adc_tables.specs.Full.{table_size, table_start}
use Rattle.adc_tables.proofs.Starts.{capped_next}
use Rattle.adc_tables.proofs.entries.field_start.Goals as goal

-- where field n begins, after the fields of these sizes
after_one : (widths : List ℕ) (a : ℕ) → (0 < length widths → a ≡ table_size widths 0) → (length widths ≤ 0 → a ≡ 0) → a ≡ table_start widths (min 1 (length widths))
after_one ws a there none =
    let start : 0 ≡ table_start ws (min 0 (length ws)) = ap (λ n. table_start ws n) {x = 0} {y = min 0 (length ws)} (omega arith) in
    capped_next 0 (length ws) 0 a (table_size ws) (λ lt. omega (arith, there lt)) none start

after_more : (widths : List ℕ) (n before a : ℕ) → (n < length widths → a ≡ table_size widths n) → (length widths ≤ n → a ≡ 0) → before ≡ table_start widths (min n (length widths)) → before + a ≡ table_start widths (min (n + 1) (length widths))
after_more ws n before a there none is = capped_next n (length ws) before (before + a) (table_size ws) (λ lt. omega (arith, there lt)) (λ ge. omega (arith, none ge)) is

pub returns-in-0 : goal.returns-in-0
returns-in-0 g c =
    ap (λ n. table_start g.S.Shape.widths n) {x = 0} {y = min c.args.f (length g.S.Shape.widths)} (omega (arith, c.in-0.is))

pub returns-in-1 : goal.returns-in-1
returns-in-1 g c =
    let ws = g.S.Shape.widths in
    after_one ws _ c.size_of_field-second.ensures.there c.size_of_field-second.ensures.none
    ∙ ap (λ n. table_start ws (min n (length ws))) (sym c.in-1.is)

pub returns-in-2 : goal.returns-in-2
returns-in-2 g c =
    let ws = g.S.Shape.widths in
    after_more ws 1 _ _ c.size_of_field.ensures.there c.size_of_field.ensures.none (after_one ws _ c.size_of_field-second.ensures.there c.size_of_field-second.ensures.none)
    ∙ ap (λ n. table_start ws (min n (length ws))) (sym c.in-2.is)

pub returns-in-3 : goal.returns-in-3
returns-in-3 g c =
    let ws = g.S.Shape.widths in
    after_more ws 2 _ _ c.size_of_field-2.ensures.there c.size_of_field-2.ensures.none
    (after_more ws 1 _ _ c.size_of_field.ensures.there c.size_of_field.ensures.none (after_one ws _ c.size_of_field-second.ensures.there c.size_of_field-second.ensures.none))
    ∙ ap (λ n. table_start ws (min n (length ws))) (sym c.in-3.is)

pub returns-in_default : goal.returns-in_default
returns-in_default g c =
    let ws = g.S.Shape.widths in
    let h = c.in_default in
    after_more ws 3 _ _ c.size_of_field-in_default.ensures.there c.size_of_field-in_default.ensures.none
    (after_more ws 2 _ _ c.size_of_field-2.ensures.there c.size_of_field-2.ensures.none
    (after_more ws 1 _ _ c.size_of_field.ensures.there c.size_of_field.ensures.none (after_one ws _ c.size_of_field-second.ensures.there c.size_of_field-second.ensures.none)))
    ∙ ap (λ n. table_start ws n) {x = min 4 (length ws)} {y = min c.args.f (length ws)} (omega (arith, g.S.Shape.laws.count, g.S.Shape.laws.fields_are))
