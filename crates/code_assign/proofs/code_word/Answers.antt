use Rattle.std.proofs.Common.{◌≡◌, ℕ, ◌+◌, ◌*◌, ◌<◌, ◌≢◌, length, take, sym, ap, subst, ◌∙◌, arith, get_or-set_other, get_or-set_same, length-set, below_more}
use Rattle.code_assign.proofs.Codes.{field, AreOfWord, are_of_word, fields_are_good, word_is}
use Rattle.code_assign.proofs.code_word.Goals as goal

pub loop-f-preserved : goal.loop-f-preserved
loop-f-preserved g c =
    let size : c.FIELDS.result ≡ length c.args.book.now.widths = c.FIELDS.ensures ∙ sym g.S.Shape.laws.fields_are ∙ sym (ap length c.requires.shape) in
    let lt : c.loop-f.f < length c.loop-f.fields = omega (arith, c.loop-f.invariant.long, c.FIELDS.ensures, g.S.Shape.laws.count) in
    let here : c.code_field.result ≡ field c.args.book.now c.args.vector.now (c.args.w * length c.args.book.now.widths + c.loop-f.f) =
    subst (λ (m : ℕ). c.code_field.result ≡ field c.args.book.now c.args.vector.now (c.args.w * m + c.loop-f.f)) size c.code_field.ensures in
    record {
      long = length-set {A = ℕ} c.loop-f.fields c.loop-f.f c.code_field.result ∙ c.loop-f.invariant.long;
      done = below_more _ _
          (λ k h. let ne : k ≢ c.loop-f.f = omega arith in rw get_or-set_other (c.loop-f.invariant.done k h))
          (rw get_or-set_same here);
    }

pub pack-requires : goal.pack-requires
pack-requires g c =
    let size : c.FIELDS-2.result ≡ length c.args.book.now.widths = c.FIELDS-2.ensures ∙ sym g.S.Shape.laws.fields_are ∙ sym (ap length c.requires.shape) in
    let are : AreOfWord c.args.book.now c.args.vector.now c.args.w (take c.FIELDS-2.result c.loop-f.fields) =
    are_of_word _ _ _ _ _ size (omega (arith, c.loop-f.invariant.long, c.FIELDS-2.ensures, g.S.Shape.laws.count)) (λ n lt. c.loop-f.invariant.done n (omega (arith, c.FIELDS-2.ensures, c.FIELDS-f-end.ensures))) in
    fields_are_good c.args.book.now c.args.vector.now g.S.Shape.widths c.requires.shape c.args.w c.requires.number c.requires.good _ are

pub returns : goal.returns
returns g c =
    let size : c.FIELDS-2.result ≡ length c.args.book.now.widths = c.FIELDS-2.ensures ∙ sym g.S.Shape.laws.fields_are ∙ sym (ap length c.requires.shape) in
    let are : AreOfWord c.args.book.now c.args.vector.now c.args.w (take c.FIELDS-2.result c.loop-f.fields) =
    are_of_word _ _ _ _ _ size (omega (arith, c.loop-f.invariant.long, c.FIELDS-2.ensures, g.S.Shape.laws.count)) (λ n lt. c.loop-f.invariant.done n (omega (arith, c.FIELDS-2.ensures, c.FIELDS-f-end.ensures))) in
    c.pack.ensures.packed ∙ word_is c.args.book.now c.args.vector.now g.S.Shape.widths c.requires.shape c.args.w c.requires.number _ are
