-- The lines of a query of an engine of codes.
use Rattle.std.proofs.Common.{◌≡◌, ℕ, ◌∷◌, refl}
use Rattle.book_model.specs.Book.{Book}
use Rattle.book_model.specs.Visit.{Query}
use Rattle.best_k.specs.Least.{Kept as Best}
use Rattle.cell_store.specs.State.{Store, live_rows}
use Rattle.play_script.specs.Texts.{query_done}
use Rattle.play_script.specs.Play.{by_codes, found_by, hits}
use Rattle.query_engine.specs.Report.{Answers}
use Rattle.prune_scan.specs.declared.meters.Meters.{Meters}
use Rattle.query_engine.specs.declared.report.Report.{Report}

module _ (book : Book) (query : Query) (store : Store) (best : Best) (report : Report) (old new : Meters) (is : Answers book query store best report old new) where
  pub codes_found : (number : ℕ) → query_done number report.cells report.live report.full ∷ hits best.pairs ≡ found_by by_codes book number query (live_rows store)
  unfolding found_by
  codes_found number = rw (is.reports.cells, is.reports.live, is.reports.full, is.answers) refl
