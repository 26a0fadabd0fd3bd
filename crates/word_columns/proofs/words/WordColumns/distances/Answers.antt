use Rattle.std.proofs.Common.{◌≡◌, ℕ, List, length, ap, sym, subst, ◌∙◌, arith}
use Rattle.book_model.specs.Distance.{distances}
use Rattle.word_columns.specs.Columns.{AreColumns, column_distance}
use Rattle.word_columns.proofs.Kept.{length-words_kept, size_is, distances_are}
use Rattle.word_columns.proofs.words.WordColumns.distances.Goals as goal

pub distances_to_all-requires-clause-short : goal.distances_to_all-requires-clause-short
distances_to_all-requires-clause-short c =
    let it = c.self.inside in
    omega (arith, c.self.invariant.sizes, size_is it.count it.size it.columns.items c.args.self.now (length c.args.x.now) c.self.view_is c.self.invariant.some.0 c.requires.sizes)

pub distances_to_all-requires-clause-few : goal.distances_to_all-requires-clause-few
distances_to_all-requires-clause-few c =
    let it = c.self.inside in
    omega (arith, c.self.invariant.some, c.requires.room, length-words_kept it.count it.size it.columns.items, ap length c.self.view_is)

pub distances_to_all-requires-clause-kept : goal.distances_to_all-requires-clause-kept
distances_to_all-requires-clause-kept c =
    let it = c.self.inside in
    let size : it.size ≡ length c.args.x.now = size_is it.count it.size it.columns.items c.args.self.now (length c.args.x.now) c.self.view_is c.self.invariant.some.0 c.requires.sizes in
    let count : it.count ≡ length c.args.into.now = sym (length-words_kept it.count it.size it.columns.items) ∙ ap length c.self.view_is ∙ sym c.requires.room in
    rw (c.deref.ensures.value, c.deref-2.ensures.value) (subst (λ n. AreColumns n it.columns.items it.norms.items (length c.args.into.now)) size (subst (AreColumns it.size it.columns.items it.norms.items) count c.self.invariant.columns))

pub returns-clause-distances : goal.returns-clause-distances
returns-clause-distances c =
    let it = c.self.inside in
    let x = c.args.x.now in
    let size : it.size ≡ length x = size_is it.count it.size it.columns.items c.args.self.now (length x) c.self.view_is c.self.invariant.some.0 c.requires.sizes in
    let count : it.count ≡ length c.args.into.now = sym (length-words_kept it.count it.size it.columns.items) ∙ ap length c.self.view_is ∙ sym c.requires.room in
    distances_are it.count it.size it.columns.items c.args.scale x c.distances_to_all.new.into size (c.distances_to_all.ensures.long ∙ sym count)
    (λ w h. c.distances_to_all.ensures.each w (omega (arith, h, count, c.distances_to_all.ensures.long)) ∙ ap (λ (cs : List ℕ). column_distance c.args.scale cs x w) c.deref.ensures.value)
    ∙ ap (λ (words : List (List ℕ)). distances c.args.scale words x) c.self.view_is
