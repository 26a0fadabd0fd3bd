use Rattle.std.proofs.Common.{◌≡◌, ℕ, ◌<◌, ◌^◌, ◌%◌, List, length, get_or, take, rules, subst}
use Rattle.codebook_core.proofs.Accessors.{IsListAt, are_at, list_at, sub_flat, sub_long, sub_rows}
use Rattle.codebook_core.proofs.Shapes.{shape_table}
use Rattle.codebook_core.proofs.book.Codebook.sub_words.Given.{Over}
use Rattle.codebook_core.proofs.book.Codebook.sub_words.Goals as goal
use Rattle.codebook_core.proofs.book.Codebook.sub_words.Goals.{After-index-2}

list : (g : Over) (c : After-index-2 g) → IsListAt g.S.Shape.widths c.self.inside.parts c.args.self.now c.args.j c.word_count-count.result c.index.result.now c.index-2.result.now
list g c =
    let same : take c.FIELDS.result c.WIDTHS-table.result ≡ g.S.Shape.widths = rw (c.FIELDS.ensures, c.WIDTHS-table.ensures) (shape_table _ _ _ _ g.S.Shape.laws) in
    let P : List ℕ → Type 0 = λ ws. c.word_count-count.result ≡ 2 ^ get_or ws (c.args.j % length ws) 0 in
    list_at _ _ _ c.args.j _ _ _ c.self.view_is c.self.invariant.kept c.requires (subst P same c.word_count-count.ensures.value) c.index.ensures c.index-2.ensures

pub index-requires-2 : goal.index-requires-2
index-requires-2 g c = let there : c.args.j < length c.self.inside.parts.places.items = (are_at _ _ _ c.args.j c.self.view_is c.self.invariant.kept c.requires).1 in search rules

pub stretch-requires : goal.stretch-requires
stretch-requires g c = rw c.deref.ensures.value (list g (goal.at.stretch-requires g c).After-index-2).fits

pub returns-clause-value : goal.returns-clause-value
returns-clause-value g c = rw (c.stretch.ensures, c.deref.ensures.value) (sub_flat _ _ _ _ _ _ _ (list g (goal.at.returns-clause-value g c).After-index-2))

pub returns-clause-len : goal.returns-clause-len
returns-clause-len g c = rw (c.stretch.ensures, c.deref.ensures.value) (sub_long _ _ _ _ _ _ _ (list g (goal.at.returns-clause-len g c).After-index-2))

pub returns-clause-rows : goal.returns-clause-rows
returns-clause-rows g c = rw (c.stretch.ensures, c.deref.ensures.value) (sub_rows _ _ _ _ _ _ _ (list g (goal.at.returns-clause-rows g c).After-index-2))
