use Rattle.std.proofs.Common.{◌≡◌, ℕ, ◌+◌, ◌-◌, List, take, drop, ap, ap₂, ◌∙◌, arith}
use Rattle.book_model.specs.Distance.{distances}
use Rattle.book_model.specs.Book.{part, sub_words, length_of}
use Rattle.adc_tables.proofs.entries.fill_table.Goals as goal

pub returns-clause-distances : goal.returns-clause-distances
returns-clause-distances g c =
    let book = c.args.book.now in
    let from = c.start-start.result in
    let x : List ℕ = take (from + c.length.result - from) (drop from c.args.query.now) in
    let size : from + c.length.result - from ≡ length_of book c.args.j = omega (arith, c.length.ensures.value) in
    let same : x ≡ part book c.args.j c.args.query.now = ap₂ (λ s n. take n (drop s c.args.query.now)) c.start-start.ensures.value size in
    c.distances.ensures.distances ∙ ap (λ (ws : List (List ℕ)). distances c.scale.result ws x) c.sub_columns.ensures.words ∙ ap₂ (λ f y. distances f (sub_words book c.args.j) y) c.scale.ensures.value same
