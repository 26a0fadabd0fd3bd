use Rattle.std.proofs.Common.{◌≡◌, ℕ, sym, subst, arith, List}
use Rattle.shape_core.specs.Word.{AreCodeWords}
use Rattle.code_assign.proofs.Codes.{code_words, all_words, good_words}
use Rattle.code_assign.proofs.encode.Goals as goal

pub returns-clause-words : goal.returns-clause-words
returns-clause-words g c =
    all_words c.args.book.now c.args.vector.now g.S.Shape.widths c.d-d.ensures.shape c.loop-w.into (omega arith) (λ w lt. c.loop-w.invariant w (omega arith))

pub returns-clause-good : goal.returns-clause-good
returns-clause-good g c =
    let words : c.loop-w.into ≡ code_words c.args.book.now c.args.vector.now g.S.Shape.widths c.d-d.ensures.shape = returns-clause-words g c in
    subst (λ (ws : List ℕ). AreCodeWords g.S.Shape.widths c.args.book.now.g ws) (sym words) (good_words c.args.book.now c.args.vector.now g.S.Shape.widths c.d-d.ensures.shape c.d-d.ensures.good)
