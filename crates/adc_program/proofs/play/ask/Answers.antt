use Rattle.std.proofs.Common.{ℕ, List, [], ◌∷◌, sym, subst}
use Rattle.std.specs.Prelude.{Option}
use Rattle.id_filter.specs.Ranges.{pair_of}
use Rattle.play_script.specs.Play.{ranges_of}
use Rattle.query_engine.specs.Report.{query_of, Answers}
use Rattle.cell_store.specs.Held.{IsStore}
use Rattle.adc_program.proofs.RangeLemmas.{same_answers, small_ids}
use Rattle.adc_program.proofs.play.ask.Goals as goal

pub returns-in-Some-clause-answers : goal.returns-in-Some-clause-answers
returns-in-Some-clause-answers g c =
    let cut : List (ℕ × ℕ) = pair_of c.range_of.result ∷ [] in
    let asked : List (ℕ × ℕ) = c.in-Some.ids ∷ [] in
    let engine = c.args.engine.now in
    let is = subst (IsStore g.S.Shape.widths) c.store.ensures c.stamp-stamp.ensures.is in
    let ids = small_ids g.S.Shape.widths engine.store.g engine.store.cells engine.store.stamp engine.store.kept is.rows in
    subst (λ (o : Option (ℕ × ℕ)). Answers engine.book (query_of c.args.row.now c.args.k c.args.wanted (ranges_of o)) engine.store c.search-in-Some.new.scratch.best c.search-in-Some.result c.args.meters.now c.search-in-Some.new.meters) (sym c.in-Some.is)
    (same_answers cut asked c.range_of.ensures engine.book c.args.row.now c.args.k c.args.wanted engine.store ids _ _ _ _ c.search-in-Some.ensures.answers)
