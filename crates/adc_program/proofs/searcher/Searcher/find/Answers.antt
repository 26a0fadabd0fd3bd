use Rattle.std.proofs.Common.{rules, ◌≡◌, ◌∙◌, ℕ, List, [], length, map, slice_index_or, sym, ap, subst, arith}
use Rattle.std.proofs.lemmas.Grind.{common_steps}
use Rattle.book_model.specs.Order.{Pair}
use Rattle.book_model.specs.Answer.{answer}
use Rattle.cell_store.specs.Held.{IsStore}
use Rattle.cell_store.specs.State.{live_rows}
use Rattle.flat_truth.specs.Flat.{padded}
use Rattle.play_script.specs.Play.{counts_of}
use Rattle.query_engine.specs.Report.{query_of}
use Rattle.adc_inputs.specs.Inputs.{rows_held}
use Rattle.adc_program.proofs.Held.{whole_row}
use Rattle.adc_program.proofs.IdRows.{ids_of, whole_ids}
use Rattle.adc_program.proofs.RangeLemmas.{small_ids}
use Rattle.adc_program.proofs.SearchTexts.{counts_are, ids_are, hits_few, hits_small}
use Rattle.adc_program.proofs.Working.{little_none, little_query, works_query}
use Rattle.adc_program.proofs.searcher.Searcher.find.Goals as goal

pub set_ids-requires-clause-few : goal.set_ids-requires-clause-few
set_ids-requires-clause-few g c =
    let few = hits_few _ _ _ _ _ _ _ c.search-report.ensures.answers c.answers.result.now c.answers.ensures.value in
    let size : length c.deref_mut-2.result.now ≡ c.args.self.now.asking.k = ap length c.deref_mut-2.ensures.value ∙ c.args.self.now.ids_room in
    omega (arith, few, size)

pub set_ids-requires-clause-ids : goal.set_ids-requires-clause-ids
set_ids-requires-clause-ids g c =
    let engine = c.args.self.now.engine in
    let is = subst (IsStore g.S.Shape.widths) c.store.ensures c.stamp-stamp.ensures.is in
    hits_small _ _ _ _ _ _ _ c.search-report.ensures.answers c.answers.result.now c.answers.ensures.value (small_ids g.S.Shape.widths engine.store.g engine.store.cells engine.store.stamp engine.store.kept is.rows)

pub returns-in-Err-clause-little : goal.returns-in-Err-clause-little
returns-in-Err-clause-little g c = little_none c.args.self.now.engine.store c.args.self.now.engine.store c.args.meters.now (omega arith)

pub returns-in-Err-clause-counts : goal.returns-in-Err-clause-counts
returns-in-Err-clause-counts g c = record { only = c.in-Err.ensures.reads.only; counts = tt; cause = c.in-Err.ensures.reads.cause; found = λ files told. c.in-Err.ensures.reads.found files told }

pub returns-clause-little : goal.returns-clause-little
returns-clause-little g c = little_query _ _ _ _ _ _ _ c.search-report.ensures.answers

pub returns-clause-works : goal.returns-clause-works
returns-clause-works g c = works_query _ _ _ _ c.search-report.result _ _ c.search-report.ensures.answers

pub returns-clause-counts : goal.returns-clause-counts
returns-clause-counts g c = record {
  only = c.in-Ok.ensures.reads.only;
  counts = c.in-Ok.ensures.reads.counts;
  cause = tt;
  found = λ files told.
      let self = c.args.self.now in
      let asking = self.asking in
      let report = c.search-report.result in
      let from : c.from.result ≡ c.args.number = first_of (search rules, grind (arith, common_steps)) in
      let held : List (List ℕ) = rows_held files asking.queries.role asking.queries.name.now asking.queries.checked.d in
      let row : c.deref.result.now ≡ slice_index_or held c.args.number [] =
      c.deref.ensures.value ∙ whole_row self.vector.len c.fetch_row.new.row _ (sym (c.fetch_row.auto.row ∙ c.deref_mut.ensures.len))
      ∙ c.in-Ok.ensures.reads.found files told ∙ ap (λ (n : ℕ). slice_index_or held n []) from in
      subst (λ (v : List ℕ). counts_of self.engine.book (query_of v asking.k asking.wanted (g.P.IdSelector.ranges c.args.selector.now)) (live_rows self.engine.store) ≡ record { cells = report.cells; live = report.live; full = report.full }) row
      (counts_are _ _ _ _ _ _ _ c.search-report.ensures.answers);
}

pub returns-clause-vector : goal.returns-clause-vector
returns-clause-vector g c = λ files told.
    let self = c.args.self.now in
    let asking = self.asking in
    let from : c.from.result ≡ c.args.number = first_of (search rules, grind (arith, common_steps)) in
    let held : List (List ℕ) = rows_held files asking.queries.role asking.queries.name.now asking.queries.checked.d in
    whole_row self.vector.len c.fetch_row.new.row _ (sym (c.fetch_row.auto.row ∙ c.deref_mut.ensures.len))
    ∙ c.in-Ok.ensures.reads.found files told ∙ ap (λ (n : ℕ). slice_index_or held n []) from

pub returns-clause-ids : goal.returns-clause-ids
returns-clause-ids g c = λ files told.
    let self = c.args.self.now in
    let asking = self.asking in
    let hits = c.answers.result.now in
    let from : c.from.result ≡ c.args.number = first_of (search rules, grind (arith, common_steps)) in
    let held : List (List ℕ) = rows_held files asking.queries.role asking.queries.name.now asking.queries.checked.d in
    let row : c.deref.result.now ≡ slice_index_or held c.args.number [] =
    c.deref.ensures.value ∙ whole_row self.vector.len c.fetch_row.new.row _ (sym (c.fetch_row.auto.row ∙ c.deref_mut.ensures.len))
    ∙ c.in-Ok.ensures.reads.found files told ∙ ap (λ (n : ℕ). slice_index_or held n []) from in
    let size : length c.deref_mut-2.result.now ≡ asking.k = ap length c.deref_mut-2.ensures.value ∙ self.ids_room in
    whole_ids self.ids.len c.set_ids.new.row _ (sym (c.set_ids.auto.row ∙ c.deref_mut-2.ensures.len))
    ∙ c.set_ids.ensures ∙ ap (λ (n : ℕ). padded n (ids_of hits)) size
    ∙ ids_are _ _ _ _ _ _ _ c.search-report.ensures.answers asking.k hits c.answers.ensures.value
    ∙ ap (λ (v : List ℕ). padded asking.k (map (λ (pair : Pair). pair.1) (answer self.engine.book (query_of v asking.k asking.wanted (g.P.IdSelector.ranges c.args.selector.now)) (live_rows self.engine.store)))) row
