use Rattle.std.proofs.Common.{◌≤◌, length, ◌≡◌, ◌∙◌, subst, Ok}
use Rattle.std.proofs.lemmas.Result.{IfOk-weaker}
use Rattle.book_model.specs.Book.{Book}
use Rattle.codebook_core.specs.Spelling.{book_bytes}
use Rattle.codebook_core.specs.Reading.{book_outcome}
use Rattle.codebook_core.specs.Text.{parts_text}
use Rattle.codebook_core.proofs.Lengths.{book_short, read_again}
use Rattle.codebook_core.proofs.Written.{mapped, text_is}
use Rattle.codebook_core.proofs.book.Codebook.encode.Goals as goal

pub returns-clause-spelled : goal.returns-clause-spelled
returns-clause-spelled g c =
    let spells : parts_text c.NUMBER.result c.self.inside.parts ≡ book_bytes c.args.self.now = rw (c.NUMBER.ensures, ← c.self.view_is) (text_is g.S.Shape.NUMBER g.S.Shape.widths c.self.inside.parts g.S.Shape.laws.numbered c.self.invariant.kept) in
    mapped (λ v. v.items ≡ book_bytes c.args.self.now) _ c.text.result c.map_err.result (IfOk-weaker c.text.result _ _ (λ v e. e ∙ spells) c.text.ensures) c.map_err.ensures.cases c.map_err.ensures.variant

pub returns-clause-again : goal.returns-clause-again
returns-clause-again g c =
    let P : Book → Type 0 = λ b. book_outcome (book_bytes b) ≡ Ok b in
    subst P c.self.view_is (read_again _ c.self.invariant.kept.good)

pub returns-clause-short : goal.returns-clause-short
returns-clause-short g c =
    let P : Book → Type 0 = λ b. length (book_bytes b) ≤ 4194304 in
    subst P c.self.view_is (book_short _ c.self.invariant.kept.good)
