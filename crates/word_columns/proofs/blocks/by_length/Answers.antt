use Rattle.std.proofs.Common.{◌≡◌, take, ap, ◌∙◌, arith}
use Rattle.std.proofs.lemmas.List.{take_all}
use Rattle.word_columns.specs.Columns.{column_distance}
use Rattle.word_columns.proofs.blocks.by_length.Goals as goal

pub returns-in-4-clause-each : goal.returns-in-4-clause-each
returns-in-4-clause-each c = λ w h.
    let x = c.args.x.now in
    let e : take 4 x ≡ x = take_all 4 x (omega (arith, c.in-4.is)) in
    c.short_distances.ensures.each w h ∙ ap (λ l. column_distance c.args.scale c.args.columns.now l w) e

pub returns-in-8-clause-each : goal.returns-in-8-clause-each
returns-in-8-clause-each c = λ w h.
    let x = c.args.x.now in
    let e : take 8 x ≡ x = take_all 8 x (omega (arith, c.in-8.is)) in
    c.short_distances-in-8.ensures.each w h ∙ ap (λ l. column_distance c.args.scale c.args.columns.now l w) e
