use Rattle.cell_store.proofs.Words.{◌≡◌, ◌<◌, ◌≤◌, subst, length, [], MatchOption, IfSome, AllByRecursion, Store, kept_in}
use Rattle.cell_store.proofs.Counts.{shown_rows, shown_few, shown_ids, shown_born}
use Rattle.cell_store.proofs.store.CellStore.cell.Goals as goal

pub returns-clause-rows : goal.returns-clause-rows
returns-clause-rows g c =
    subst (λ (s : Store). MatchOption c.get.result (kept_in c.args.cell s.kept ≡ []) (λ view. (view ≡ record { cell = c.args.cell; g = s.g; rows = kept_in c.args.cell s.kept }) × (0 < length view.rows))) c.self.view_is
    (shown_rows c.self.invariant.0.kept c.args.cell c.get.result c.get.ensures)

pub returns-clause-few : goal.returns-clause-few
returns-clause-few g c = shown_few c.self.invariant.0.kept c.args.cell c.get.result c.get.ensures

pub returns-clause-ids : goal.returns-clause-ids
returns-clause-ids g c = shown_ids c.self.invariant.0.kept c.args.cell c.get.result c.get.ensures

pub returns-clause-born : goal.returns-clause-born
returns-clause-born g c =
    subst (λ (s : Store). IfSome c.get.result (λ view. AllByRecursion (λ k. k.born ≤ s.stamp) view.rows)) c.self.view_is
    (shown_born c.self.invariant.0.kept c.args.cell c.get.result c.get.ensures)
