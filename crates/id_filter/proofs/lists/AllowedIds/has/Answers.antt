use Rattle.std.proofs.Common.{◌∙◌, ℕ, List, ap, subst}
use Rattle.std.specs.List.Sorted.{IsBinarySearchResult}
use Rattle.std.specs.Ordering.{nat_cmp}
use Rattle.id_filter.specs.Allowed.{has_id}
use Rattle.id_filter.proofs.IdLists.{found_is}
use Rattle.id_filter.proofs.lists.AllowedIds.has.Goals as goal

pub returns : goal.returns
returns c =
    let searched = subst (λ (xs : List ℕ). IsBinarySearchResult (λ y. nat_cmp y c.args.id) xs c.binary_search.result) c.deref.ensures.value c.binary_search.ensures.position in
    c.is_ok.ensures.value ∙ found_is c.self.inside.ids.items c.args.id c.binary_search.result searched c.self.invariant ∙ ap (λ (ids : List ℕ). has_id ids c.args.id) c.self.view_is
