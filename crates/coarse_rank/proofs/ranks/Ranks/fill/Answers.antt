use Rattle.std.proofs.Common.{◌≡◌, ◌-◌, map, take, drop, sym, ap, subst, ◌∙◌, arith}
use Rattle.std.proofs.lemmas.List.{length-take, length-drop}
use Rattle.coarse_rank.specs.Ranked.{Ranked, cells_of, IsFilled, ranked, rank_of}
use Rattle.coarse_rank.proofs.RankLemmas.{part0_is, part1_is, ranks_are, ranks_are_filled, cells_of-ranks}
use Rattle.coarse_rank.proofs.ranks.Ranks.fill.Goals as goal

pub rank-requires-clause-sizes : goal.rank-requires-clause-sizes
rank-requires-clause-sizes g c = λ w lt.
    c.coarse0_columns.ensures.sizes w lt ∙ omega (arith, length-take c.h-h.result c.args.query.now, c.h-h.ensures, c.requires.query)

pub rank-requires-2-clause-sizes : goal.rank-requires-2-clause-sizes
rank-requires-2-clause-sizes g c = λ w lt.
    c.coarse1_columns.ensures.sizes w lt
    ∙ omega (arith, length-take (c.d-d.result - c.h-h.result) (drop c.h-h.result c.args.query.now), length-drop c.h-h.result c.args.query.now, c.h-h.ensures, c.d-d.ensures.value, c.requires.query)

pub rank-requires-clause-room : goal.rank-requires-clause-room
rank-requires-clause-room g c = omega (arith, c.coarse0_columns.ensures.count, c.self.invariant.room0, ap (λ (r : Ranked). r.k0) c.self.view_is, c.requires.room.0)

pub rank-requires-2-clause-room : goal.rank-requires-2-clause-room
rank-requires-2-clause-room g c = omega (arith, c.coarse1_columns.ensures.count, c.self.invariant.room1, ap (λ (r : Ranked). r.k1) c.self.view_is, c.requires.room.1)

pub returns-clause-ranks : goal.returns-clause-ranks
returns-clause-ranks g c =
    let book = c.args.book.now in
    let v = c.args.query.now in
    let words0 : map rank_of c.rank.new.into.items ≡ ranked book.scale book.coarse0 (take book.h v) =
    c.rank.ensures.ranked ∙ (λ t. ranked (c.scale-scale.ensures.value t) (c.coarse0_columns.ensures.words t) (part0_is book v c.requires.query c.h-h.result c.h-h.ensures.value t)) in
    let words1 : map rank_of c.rank-2.new.into.items ≡ ranked book.scale book.coarse1 (drop book.h v) =
    c.rank-2.ensures.ranked ∙ (λ t. ranked (c.scale-scale.ensures.value t) (c.coarse1_columns.ensures.words t) (part1_is book v c.requires.query c.h-h.result c.d-d.result c.h-h.ensures.value c.d-d.ensures.value t)) in
    ranks_are book v c.self.inside.k0 c.self.inside.k1 (map rank_of c.rank.new.into.items) (map rank_of c.rank-2.new.into.items)
    (ap (λ (r : Ranked). r.k0) c.self.view_is ∙ c.requires.room.0) (ap (λ (r : Ranked). r.k1) c.self.view_is ∙ c.requires.room.1) words0 words1

pub returns-clause-filled : goal.returns-clause-filled
returns-clause-filled g c =
    subst (λ (r : Ranked). IsFilled r) (sym (returns-clause-ranks g c)) (ranks_are_filled c.args.book.now c.args.query.now c.d-d.ensures.good)

pub returns-clause-order : goal.returns-clause-order
returns-clause-order g c =
    ap (λ (r : Ranked). cells_of r) (returns-clause-ranks g c)
    ∙ cells_of-ranks c.args.book.now c.args.query.now c.d-d.ensures.good.coarse0.count c.d-d.ensures.good.coarse1.count
