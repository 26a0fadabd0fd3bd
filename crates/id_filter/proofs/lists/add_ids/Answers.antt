use Rattle.std.proofs.Common.{◌≡◌, ◌∙◌, ◌++◌, ◌∷◌, [], Some, None, pos, get_or, sym, arith}
use Rattle.std.proofs.lemmas.Int.{ints, to_z-of_z}
use Rattle.std.proofs.lemmas.List.{append-nil}
use Rattle.id_filter.specs.Allowed.{id_of}
use Rattle.id_filter.proofs.IdLists.{one_more_id}
use Rattle.id_filter.proofs.lists.add_ids.Goals.{in-Some+in_ok-push, in_default}
use Rattle.id_filter.proofs.lists.add_ids.Goals as goal

pub loop-number-preserved : goal.loop-number-preserved
loop-number-preserved c =
    let i = c.loop-number.number-index in
    let is : c.id_of.result ≡ id_of (get_or c.args.numbers.now i (pos 0)) = first_of (assumption c.id_of.ensures, search (arith, ints, to_z-of_z, c.id_of.ensures), grind (arith, to_z-of_z, c.id_of.ensures)) in
    elim c.match-id_of.branch [
      | in-Some+in_ok-push w ↦
          let next : c.match-id_of.ids.items ≡ c.loop-number.ids.items ++ w.in-Some.id ∷ [] = rw w.ids-is w.in_ok-push.ensures.items in
          one_more_id c.args.numbers.now i (Some w.in-Some.id) c.args.ids.now.items c.loop-number.ids.items c.match-id_of.ids.items (omega arith) (sym w.in-Some.is ∙ is) c.loop-number.invariant next
      | in_default w ↦
          let next : c.match-id_of.ids.items ≡ c.loop-number.ids.items ++ [] = rw w.ids-is (sym (append-nil c.loop-number.ids.items)) in
          let none : None ≡ id_of (get_or c.args.numbers.now i (pos 0)) = cc in
          one_more_id c.args.numbers.now i None c.args.ids.now.items c.loop-number.ids.items c.match-id_of.ids.items (omega arith) none c.loop-number.invariant next
    ]
