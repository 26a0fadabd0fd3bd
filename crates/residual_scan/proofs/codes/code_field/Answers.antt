use Rattle.std.proofs.Common.{◌≡◌, ◌+◌, ◌-◌, ◌++◌, ℕ, List, map, take, drop, ap, ap₂, ◌∙◌, arith}
use Rattle.book_model.specs.Sums.{first_least}
use Rattle.book_model.specs.Book.{part, sub_words, length_of}
use Rattle.word_columns.specs.Left.{rest_dist}
use Rattle.residual_scan.proofs.codes.code_field.Goals as goal

pub returns-then-length-le128 : goal.returns-then-length-le128
returns-then-length-le128 g c =
    let book = c.args.book.now in
    let center : List ℕ = c.args.low.now ++ c.args.high.now in
    let start = c.start-start.result in
    let len = c.length-length.result in
    let list = sub_words book c.args.j in
    let x : List ℕ = take (start + len - start) (drop start c.args.vector.now) in
    let k : List ℕ = c.stretch_of-coarse.result.now in
    let size : start + len - start ≡ length_of book c.args.j = omega (arith, c.length-length.ensures.value) in
    let x_is : x ≡ part book c.args.j c.args.vector.now = ap₂ (λ s n. take n (drop s c.args.vector.now)) c.start-start.ensures.value size in
    let k_is : k ≡ part book c.args.j center = c.stretch_of-coarse.ensures.value ∙ ap₂ (λ s n. take n (drop s center)) c.start-start.ensures.value c.length-length.ensures.value in
    c.rest_nearest.ensures.value ∙ ap (λ (ws : List (List ℕ)). first_least (map (rest_dist c.scale.result x k) ws)) c.sub_columns.ensures.words
    ∙ ap (λ f. first_least (map (rest_dist f x k) list)) c.scale.ensures.value
    ∙ ap₂ (λ y z. first_least (map (rest_dist book.scale y z) list)) x_is k_is
