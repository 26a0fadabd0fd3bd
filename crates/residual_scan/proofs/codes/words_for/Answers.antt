-- The words of a code give the code again.
use Rattle.std.proofs.Common.{◌≡◌, ◌++◌, ◌/◌, ◌%◌, ◌∙◌, ap, ap₂, subst, List, [], get_or, ℕ}
use Rattle.shape_core.specs.Word.{code_of_words, IsCode}
use Rattle.shape_core.proofs.Codes.{code_of_words-words_of}
use Rattle.half_tables.specs.Residual.{center_of, residual_code}
use Rattle.residual_scan.specs.Codes.{code_at}
use Rattle.residual_scan.proofs.CodeWords.{code_fits}
use Rattle.query_engine.proofs.CellBound.{front}
use Rattle.residual_scan.proofs.codes.words_for.Goals as goal

pub returns-clause-code : goal.returns-clause-code
unfolding residual_code code_at
returns-clause-code g c =
    let widths = g.S.Shape.widths in
    let book = c.args.book.now in
    let v : List ℕ = c.args.vector.now in
    let center : List ℕ = c.coarse0-low.result.now ++ c.coarse1-high.result.now in
    let is : center ≡ center_of book c.args.cell =
    ap₂ (λ (xs ys : List ℕ). xs ++ ys) c.coarse0-low.ensures.value c.coarse1-high.ensures.value
    ∙ ap (λ k. get_or book.coarse0 (c.args.cell / k) [] ++ get_or book.coarse1 (c.args.cell % k) []) c.k1-k1.ensures.value in
    let fits : IsCode widths book.g (code_at book v center) = subst (λ (ws : List ℕ). IsCode ws book.g (code_at book v center)) c.d-d.ensures.shape (code_fits book v center c.requires.residual.good) in
    ap (code_of_words widths) (front c.encode.new.into _ book.g c.encode.ensures.good.count ∙ c.encode.ensures.words) ∙ code_of_words-words_of widths book.g (code_at book v center) fits
    ∙ ap (code_at book v) is
