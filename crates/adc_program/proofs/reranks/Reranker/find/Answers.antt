use Rattle.std.proofs.Common.{◌≡◌, ◌∙◌, ℕ, List, [], length, map, slice_index_or, sym, ap}
use Rattle.adc_ports.proofs.StateLemmas.{reads_on}
use Rattle.book_model.specs.Order.{Pair}
use Rattle.flat_truth.specs.Flat.{padded, rerank}
use Rattle.id_filter.specs.Allowed.{ids_in}
use Rattle.adc_inputs.proofs.Reading.{stops_since}
use Rattle.adc_program.specs.Asked.{indexed, questions_of}
use Rattle.adc_program.specs.Asking.{rows_in}
use Rattle.adc_program.specs.Reranks.{found_at}
use Rattle.adc_program.proofs.IdRows.{whole_ids}
use Rattle.adc_program.proofs.RerankTexts.{ids_in-padded}
use Rattle.adc_program.proofs.reranks.Reranker.find.Goals as goal

pub rank-requires-clause-base : goal.rank-requires-clause-base
rank-requires-clause-base g c = λ files told. c.requires.base files (sym c.in-Ok.ensures.counts.only.files ∙ told)

pub returns-in-Ok-rank-clause-counts : goal.returns-in-Ok-rank-clause-counts
returns-in-Ok-rank-clause-counts g c = record {
  only = reads_on _ _ _ c.in-Ok.ensures.counts.only c.in-Ok-rank.ensures.reads.only;
  counts = c.in-Ok-rank.ensures.reads.counts ∙ c.in-Ok.ensures.counts.counts;
  cause = tt;
  found = λ files told. c.in-Ok.ensures.counts.found files told;
}

pub returns-in-Err-rank-clause-counts : goal.returns-in-Err-rank-clause-counts
returns-in-Err-rank-clause-counts g c = record {
  only = reads_on _ _ _ c.in-Ok.ensures.counts.only c.in-Err-rank.ensures.reads.only;
  counts = tt;
  cause = stops_since c.in-Err-rank.stop _ _ _ c.in-Ok.ensures.counts.only c.in-Ok.ensures.counts.counts c.in-Err-rank.ensures.reads.cause;
  found = λ files told. c.in-Err-rank.ensures.reads.found files (c.in-Ok.ensures.counts.only.files ∙ told);
}

pub returns-in-Ok-rank-clause-numbers : goal.returns-in-Ok-rank-clause-numbers
returns-in-Ok-rank-clause-numbers g c = λ files told.
    let self = c.args.self.now in
    let asking = self.searcher.asking in
    let base : List (List ℕ) = rows_in files self.base in
    let questions = questions_of files asking (g.P.IdSelector.ranges c.args.selector.now) in
    let found : List ℕ = found_at (indexed self.searcher.engine) questions c.args.number in
    let size : length c.deref_mut.result.now ≡ self.k = ap length c.deref_mut.ensures.value ∙ self.room in
    let query : c.deref.result.now ≡ slice_index_or questions.queries c.args.number [] = c.deref.ensures.value ∙ c.in-Ok.ensures.vector files told in
    let ids : ids_in c.deref-2.result.now ≡ found = ap ids_in (c.deref-2.ensures.value ∙ c.in-Ok.ensures.ids files told) ∙ ids_in-padded asking.k found in
    whole_ids self.numbers.len c.rank.new.numbers _ (sym (c.rank.auto.numbers ∙ c.deref_mut.ensures.len))
    ∙ c.in-Ok-rank.ensures.reads.found files (c.in-Ok.ensures.counts.only.files ∙ told)
    ∙ ap (λ (k : ℕ). padded k (map (λ (pair : Pair). pair.1) (rerank base c.deref.result.now (ids_in c.deref-2.result.now) k))) size
    ∙ ap (λ (q : List ℕ). padded self.k (map (λ (pair : Pair). pair.1) (rerank base q (ids_in c.deref-2.result.now) self.k))) query
    ∙ ap (λ (l : List ℕ). padded self.k (map (λ (pair : Pair). pair.1) (rerank base (slice_index_or questions.queries c.args.number []) l self.k))) ids
