use Rattle.std.proofs.Common.{◌≡◌, ℕ, ◌^◌, ◌<◌, sym, subst, ◌∙◌}
use Rattle.shape_core.specs.Word.{offset_of, word_of, IsWord}
use Rattle.shape_core.proofs.Words.{front_of, IsWord-word_of}
use Rattle.shape_core.proofs.Shapes.{front_of-within, word_of-four}
use Rattle.shape_core.proofs.pack.Goals as goal

pub with_field-requires-clause-below : goal.with_field-requires-clause-below
with_field-requires-clause-below g c =
    let is : c.with_field-third.result ≡ front_of g.S.Shape.widths c.args.fields.now 3 = (cc) in
    subst (λ (x : ℕ). x < 2 ^ offset_of g.S.Shape.widths 3) (sym is) (front_of-within _ _ _ _ g.S.Shape.laws c.args.fields.now 3 c.requires)

is_word_of : (g : _) (c : goal.After-with_field g) → c.with_field.result ≡ word_of g.S.Shape.widths c.args.fields.now
is_word_of g c =
    let is : c.with_field.result ≡ front_of g.S.Shape.widths c.args.fields.now 4 = (cc) in
    is ∙ sym (word_of-four _ _ _ _ g.S.Shape.laws c.args.fields.now c.requires)

pub returns-clause-packed : goal.returns-clause-packed
returns-clause-packed g c = is_word_of g c

pub returns-clause-good : goal.returns-clause-good
returns-clause-good g c = subst (IsWord g.S.Shape.widths) (sym (is_word_of g c)) (IsWord-word_of g.S.Shape.widths c.args.fields.now c.requires)
