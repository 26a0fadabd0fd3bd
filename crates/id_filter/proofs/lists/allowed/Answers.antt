use Rattle.std.proofs.Common.{◌≡◌, ◌∙◌, ℕ, List, map, ap, sym}
use Rattle.book_model.specs.Rows.{in_ranges}
use Rattle.id_filter.specs.Ranges.{pair_of}
use Rattle.id_filter.specs.Allowed.{range_of}
use Rattle.id_filter.proofs.IdLists.{has_id-permutation, pairs-ranges}
use Rattle.id_filter.proofs.lists.allowed.Goals as goal

pub returns-clause-ranges : goal.returns-clause-ranges
returns-clause-ranges c =
    let each : c.in_ok-ranges.ranges.items ≡ map range_of c.args.ids.items = c.in_ok-ranges.ensures ∙ ap (map range_of) c.deref.ensures.value in
    ap (map pair_of) each ∙ pairs-ranges c.args.ids.items

pub returns-clause-same : goal.returns-clause-same
returns-clause-same c = λ id. has_id-permutation c.args.ids.items c.sort.result id c.sort.ensures ∙ ap (λ (ranges : List (ℕ × ℕ)). in_ranges ranges id) (sym (returns-clause-ranges c))
