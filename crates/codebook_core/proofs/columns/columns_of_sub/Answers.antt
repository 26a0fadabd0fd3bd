use Rattle.std.proofs.Common.{◌≡◌, ◌+◌, ◌*◌, ◌<◌, ◌≤◌, length, drop, rules, refl, sym, ap, ◌∙◌, arith, length-take-le, length-drop}
use Rattle.std.proofs.lemmas.Result.{IfOk-weaker}
use Rattle.book_model.specs.Book.{sub_words}
use Rattle.word_columns.specs.Columns.{words_in_row}
use Rattle.codebook_core.specs.View.{view_of}
use Rattle.codebook_core.proofs.Accessors.{IsListAt, are_at, list_at}
use Rattle.codebook_core.proofs.ByColumn.{taken_in_row, length_is}
use Rattle.codebook_core.proofs.columns.columns_of_sub.Goals as goal
use Rattle.codebook_core.proofs.columns.columns_of_sub.Goals.{After-index-2}

list : (c : After-index-2) → IsListAt c.args.widths.now c.args.parts.now (view_of c.args.widths.now c.args.parts.now) c.args.j c.word_count-count.result c.index.result.now c.index-2.result.now
list c = list_at _ _ _ c.args.j _ _ _ refl c.requires.kept c.requires.number c.word_count-count.ensures.value c.index.ensures c.index-2.ensures

pub index-requires : goal.index-requires
index-requires c = let there : c.args.j < length c.args.parts.now.lengths.items = (are_at _ c.args.parts.now _ c.args.j refl c.requires.kept c.requires.number).0 in search rules

pub index-requires-2 : goal.index-requires-2
index-requires-2 c = let there : c.args.j < length c.args.parts.now.places.items = (are_at _ c.args.parts.now _ c.args.j refl c.requires.kept c.requires.number).1 in search rules

pub stretch-words-requires : goal.stretch-words-requires
stretch-words-requires c = rw c.deref.ensures.value (list (goal.at.stretch-words-requires c).After-index-2).fits

pub new-requires-clause-size : goal.new-requires-clause-size
new-requires-clause-size c =
    let it = list (goal.at.new-requires-clause-size c).After-index-2 in
    let within = length_is (view_of c.args.widths.now c.args.parts.now) c.args.j c.requires.kept.good c.requires.number in
    (omega (arith, within.0, it.long), omega (arith, within.1, it.long))

pub new-requires-clause-whole : goal.new-requires-clause-whole
new-requires-clause-whole c =
    let fits : c.index-2.result.now + c.word_count-count.result * c.index.result.now ≤ length c.deref.result.now = rw c.deref.ensures.value (list (goal.at.new-requires-clause-whole c).After-index-2).fits in
    ap length c.stretch-words.ensures ∙ length-take-le (c.word_count-count.result * c.index.result.now) (drop c.index-2.result.now c.deref.result.now) (omega (arith, fits, length-drop c.index-2.result.now c.deref.result.now))

pub returns : goal.returns
returns c =
    let words : words_in_row c.word_count-count.result c.index.result.now c.stretch-words.result.now ≡ sub_words (view_of c.args.widths.now c.args.parts.now) c.args.j =
    rw (c.stretch-words.ensures, c.deref.ensures.value) (taken_in_row c.word_count-count.result c.index.result.now (drop c.index-2.result.now c.args.parts.now.words.items) ∙ sym (list (goal.at.returns c).After-index-2).rows) in
    IfOk-weaker c.new.result _ _ (λ v e. e ∙ words) c.new.ensures.words
