use Rattle.std.proofs.Common.{◌<◌, ◌^◌, ◌%◌, length, get_or, refl, rules}
use Rattle.codebook_core.proofs.Accessors.{IsListAt, are_at, list_at, sub_word_at, sub_word_long, sub_word_within}
use Rattle.codebook_core.proofs.book.Codebook.sub.Given.{Over}
use Rattle.codebook_core.proofs.book.Codebook.sub.Goals as goal
use Rattle.codebook_core.proofs.book.Codebook.sub.Goals.{After-index-2}

list : (g : Over) (c : After-index-2 g) → IsListAt g.S.Shape.widths c.self.inside.parts c.args.self.now c.args.j (2 ^ get_or g.S.Shape.widths (c.args.j % length g.S.Shape.widths) 0) c.index.result.now c.index-2.result.now
list g c = list_at _ _ _ c.args.j _ _ _ c.self.view_is c.self.invariant.kept c.requires.sub refl c.index.ensures c.index-2.ensures

pub index-requires-2 : goal.index-requires-2
index-requires-2 g c = let there : c.args.j < length c.self.inside.parts.places.items = (are_at _ _ _ c.args.j c.self.view_is c.self.invariant.kept c.requires.sub).1 in search rules

pub word_from-requires : goal.word_from-requires
word_from-requires g c = rw c.deref.ensures.value (sub_word_within _ _ _ _ _ _ _ (list g (goal.at.word_from-requires g c).After-index-2) c.args.w c.requires.word)

pub returns-clause-value : goal.returns-clause-value
returns-clause-value g c = rw (c.word_from.ensures, c.deref.ensures.value) (sub_word_at _ _ _ _ _ _ _ (list g (goal.at.returns-clause-value g c).After-index-2) c.args.w c.requires.word)

pub returns-clause-len : goal.returns-clause-len
returns-clause-len g c = rw (c.word_from.ensures, c.deref.ensures.value) (sub_word_long _ _ _ _ _ _ _ (list g (goal.at.returns-clause-len g c).After-index-2) c.args.w c.requires.word)
