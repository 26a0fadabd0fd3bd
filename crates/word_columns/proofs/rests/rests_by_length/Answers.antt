use Rattle.std.proofs.Common.{◌≡◌, take, ap, ◌∙◌, arith}
use Rattle.std.proofs.lemmas.List.{take_all}
use Rattle.word_columns.specs.Left.{column_rest}
use Rattle.word_columns.proofs.rests.rests_by_length.Goals as goal

pub returns-in-4-clause-each : goal.returns-in-4-clause-each
returns-in-4-clause-each c = λ w h.
    let e : take 4 c.args.x.now ≡ c.args.x.now = take_all 4 c.args.x.now (omega (arith, c.in-4.is)) in
    c.rests_in.ensures.each w h ∙ ap (λ l. column_rest c.args.scale c.args.columns.now l c.args.coarse.now w) e

pub returns-in-8-clause-each : goal.returns-in-8-clause-each
returns-in-8-clause-each c = λ w h.
    let e : take 8 c.args.x.now ≡ c.args.x.now = take_all 8 c.args.x.now (omega (arith, c.in-8.is)) in
    c.rests_in-in-8.ensures.each w h ∙ ap (λ l. column_rest c.args.scale c.args.columns.now l c.args.coarse.now w) e
