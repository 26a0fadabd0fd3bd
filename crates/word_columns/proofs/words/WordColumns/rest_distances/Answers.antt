use Rattle.std.proofs.Common.{◌≡◌, ℕ, List, length, map, ap, sym, subst, ◌∙◌, arith}
use Rattle.word_columns.specs.Columns.{AreColumns}
use Rattle.word_columns.specs.Left.{rest_dist, column_rest}
use Rattle.word_columns.proofs.Kept.{length-words_kept, size_is, rests_are}
use Rattle.word_columns.proofs.words.WordColumns.rest_distances.Goals as goal

pub rests_to_all-requires-clause-few : goal.rests_to_all-requires-clause-few
rests_to_all-requires-clause-few c =
    let it = c.self.inside in
    omega (arith, c.self.invariant.some, c.requires.room, length-words_kept it.count it.size it.columns.items, ap length c.self.view_is)

pub rests_to_all-requires-clause-kept : goal.rests_to_all-requires-clause-kept
rests_to_all-requires-clause-kept c =
    let it = c.self.inside in
    let size : it.size ≡ length c.args.x.now = size_is it.count it.size it.columns.items c.args.self.now (length c.args.x.now) c.self.view_is c.self.invariant.some.0 c.requires.sizes in
    let count : it.count ≡ length c.args.into.now = sym (length-words_kept it.count it.size it.columns.items) ∙ ap length c.self.view_is ∙ sym c.requires.room in
    rw (c.deref.ensures.value, c.deref-2.ensures.value) (subst (λ n. AreColumns n it.columns.items it.norms.items (length c.args.into.now)) size (subst (AreColumns it.size it.columns.items it.norms.items) count c.self.invariant.columns))

pub returns-clause-distances : goal.returns-clause-distances
returns-clause-distances c =
    let it = c.self.inside in
    let x : List ℕ = c.args.x.now in
    let k : List ℕ = c.args.coarse.now in
    let size : it.size ≡ length x = size_is it.count it.size it.columns.items c.args.self.now (length x) c.self.view_is c.self.invariant.some.0 c.requires.sizes in
    let count : it.count ≡ length c.args.into.now = sym (length-words_kept it.count it.size it.columns.items) ∙ ap length c.self.view_is ∙ sym c.requires.room in
    rests_are it.count it.size it.columns.items c.args.scale x k c.rests_to_all.new.into size (c.rests_to_all.ensures.long ∙ sym count)
    (λ w h. c.rests_to_all.ensures.each w (omega (arith, h, count, c.rests_to_all.ensures.long)) ∙ ap (λ (cs : List ℕ). column_rest c.args.scale cs x k w) c.deref.ensures.value)
    ∙ ap (λ (words : List (List ℕ)). map (rest_dist c.args.scale x k) words) c.self.view_is
