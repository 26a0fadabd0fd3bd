use Rattle.std.proofs.Common.{◌≡◌, ℕ, ◌-◌, List, length, take, drop, ap, ◌∙◌, arith}
use Rattle.std.proofs.lemmas.List.{take_rest}
use Rattle.book_model.specs.Distance.{nearest}
use Rattle.book_model.specs.Rows.{cell_of}
use Rattle.code_assign.proofs.coarse.Goals as goal

pub returns : goal.returns
unfolding cell_of
returns g c =
    let book = c.args.book.now in
    let v : List ℕ = c.args.vector.now in
    let h : ℕ = c.h-h.result in
    let front : take h v ≡ take book.h v = ap (λ (n : ℕ). take n v) c.h-h.ensures.value in
    let whole : c.d-d.result ≡ length v = omega (arith, c.d-d.ensures.value) in
    let rest : take (c.d-d.result - h) (drop h v) ≡ drop book.h v = ap (λ (n : ℕ). take (n - h) (drop h v)) whole ∙ take_rest v h ∙ ap (λ (n : ℕ). drop n v) c.h-h.ensures.value in
    let a : c.nearest-a.result ≡ nearest c.scale-scale.result book.coarse0 (take h v) = c.nearest-a.ensures.value ∙ ap (λ (ws : List (List ℕ)). nearest c.scale-scale.result ws (take h v)) c.coarse0_columns.ensures.words in
    let b : c.nearest-b.result ≡ nearest c.scale-scale.result book.coarse1 (take (c.d-d.result - h) (drop h v)) = c.nearest-b.ensures.value ∙ ap (λ (ws : List (List ℕ)). nearest c.scale-scale.result ws (take (c.d-d.result - h) (drop h v))) c.coarse1_columns.ensures.words in
    cc (c.k1.ensures.value, c.scale-scale.ensures.value)
