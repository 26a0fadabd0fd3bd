use Rattle.std.proofs.Common.{refl, ◌≡◌, ◌∙◌, ◌+◌, ◌<◌, ℕ, List, length, map, take, ap, sym, subst, arith, inl, inr}
use Rattle.std.specs.Prelude.{slice_index}
use Rattle.std.proofs.lemmas.Bool.{cases_lt}
use Rattle.std.proofs.lemmas.List.{take_all}
use Rattle.std.proofs.lemmas.List.Elements.{All-from_get_or, recursion_from_All}
use Rattle.std.proofs.lemmas.Result.{err_from_is_err_and}
use Rattle.adc_ports.specs.Files.{bytes_of}
use Rattle.adc_ports.proofs.StateLemmas.{reads_none, reads_on}
use Rattle.book_model.specs.Order.{Pair, sorted, pair_cmp}
use Rattle.vec_files.specs.Standing.{IsRowThere, FirstMissing, IsRowStart}
use Rattle.vec_files.proofs.StandingRows.{rows_are, each_is_there}
use Rattle.flat_truth.specs.Flat.{rerank}
use Rattle.flat_truth.specs.Missing.{FirstMissingOf, IsStartOf}
use Rattle.flat_truth.specs.Pairs.{key_of}
use Rattle.flat_truth.proofs.FlatLemmas.{pair_standing, pairs_next, reranked}
use Rattle.flat_truth.proofs.Refusals.{refuses_along, starts_chosen, missing_chosen}
use Rattle.flat_truth.proofs.chosen.rerank.Goals as goal

pub loop-id-init : goal.loop-id-init
loop-id-init g c = record {
  reads = reads_none _;
  counts = refl;
  there = λ files told i lt. absurd (omega arith);
  pairs = λ files told. ap (map key_of) c.new-pairs.ensures.items;
}

pub returns-in_err-read_rows-clause-refusal : goal.returns-in_err-read_rows-clause-refusal
returns-in_err-read_rows-clause-refusal g c =
    let p = err_from_is_err_and c.from_residual.result c.from_residual.ensures.1 in
    let d = c.args.checked.d in
    let index = c.loop-id.id-index in
    let ids = c.args.ids.now in
    rw (p.1, p.2) (refuses_along (IsRowStart d (slice_index ids index) (slice_index ids index + 1)) (IsStartOf d ids) c.in_err-read_rows.field-0.0
    (starts_chosen d index ids (omega arith)) c.in_err-read_rows.ensures.refusal)

pub returns-in_err-read_rows-clause-not_there : goal.returns-in_err-read_rows-clause-not_there
returns-in_err-read_rows-clause-not_there g c = λ files told.
    let p = err_from_is_err_and c.from_residual.result c.from_residual.ensures.1 in
    let i = c.loop-id.invariant in
    let bytes = bytes_of files c.args.name.now in
    let d = c.args.checked.d in
    let index = c.loop-id.id-index in
    let ids = c.args.ids.now in
    rw (p.1, p.2) (refuses_along (FirstMissing bytes d (slice_index ids index) (slice_index ids index + 1)) (FirstMissingOf bytes d ids) c.in_err-read_rows.field-0.0
    (missing_chosen bytes d index ids (omega arith) (i.there files told)) (c.in_err-read_rows.ensures.not_there files (i.reads.files ∙ told)))

pub returns-in_err-read_rows-clause-listed : goal.returns-in_err-read_rows-clause-listed
returns-in_err-read_rows-clause-listed g c = λ files told d rows read found.
    let p = err_from_is_err_and c.from_residual.result c.from_residual.ensures.1 in
    let i = c.loop-id.invariant in
    let bytes = bytes_of files c.args.name.now in
    let index = c.loop-id.id-index in
    let ids = c.args.ids.now in
    let below : slice_index ids index < c.args.checked.rows = c.requires.ids index 0 (omega arith) in
    rw (p.1, p.2) (refuses_along (FirstMissing bytes c.args.checked.d (slice_index ids index) (slice_index ids index + 1)) (λ at. ⊥) c.in_err-read_rows.field-0.0
    (λ at gone. gone.missing (each_is_there d bytes rows c.args.checked read found gone.row (omega (arith, gone.high, below)))) (c.in_err-read_rows.ensures.not_there files (i.reads.files ∙ told)))

pub loop-id-preserved : goal.loop-id-preserved
loop-id-preserved g c =
    let i = c.loop-id.invariant in
    let index = c.loop-id.id-index in
    let ids = c.args.ids.now in
    let d = c.args.checked.d in
    let id = slice_index ids index in
    let lt : index < length ids = omega arith in
    let below : slice_index ids index < c.args.checked.rows = c.requires.ids index 0 lt in
    record {
      reads = reads_on _ _ _ i.reads c.in_ok-read_rows.ensures.reads;
      counts = c.in_ok-read_rows.ensures.counts ∙ i.counts;
      there = λ files told j less. elim (cases_lt j index) [
        | inl low ↦ i.there files told j low
        | inr high ↦
            let same : index ≡ j = omega arith in
            subst (λ (k : ℕ). IsRowThere (bytes_of files c.args.name.now) d (slice_index ids k)) same (c.in_ok-read_rows.ensures.there files (i.reads.files ∙ told) id (omega arith) (omega arith))
      ];
      pairs = λ files told.
          pairs_next d index c.args.query.now (bytes_of files c.args.name.now) c.read_rows.new.into ids
          (map key_of c.loop-id.pairs.items) (map key_of c.add_pairs.new.pairs.items) (c.requires.query (omega (arith, below))) lt
          (c.in_ok-read_rows.ensures.bytes files (i.reads.files ∙ told)) (i.pairs files told) c.in_ok-add_pairs.ensures.added;
    }

pub returns-clause-there : goal.returns-clause-there
returns-clause-there g c = λ files told.
    All-from_get_or (λ (id : ℕ). IsRowThere (bytes_of files c.args.name.now) c.args.checked.d id) c.args.ids.now 0 (λ k lt. c.loop-id.invariant.there files told k (omega arith))

pub returns-clause-value : goal.returns-clause-value
returns-clause-value g c = λ files told.
    let bytes = bytes_of files c.args.name.now in
    let ids = c.args.ids.now in
    let whole : take c.loop-id.id-index ids ≡ ids = take_all c.loop-id.id-index ids (omega arith) in
    c.of_pairs.ensures ∙ c.in_ok-keep_least.ensures.kept
    ∙ ap (λ (pairs : List Pair). take c.args.k (sorted pair_cmp pairs)) (c.loop-id.invariant.pairs files told ∙ ap (map (pair_standing c.args.query.now c.args.checked.d bytes)) whole)
    ∙ sym (reranked c.args.query.now c.args.checked.d c.args.checked.rows c.args.k bytes ids (recursion_from_All (λ (id : ℕ). id < c.args.checked.rows) ids c.requires.ids))

pub returns-clause-listed : goal.returns-clause-listed
returns-clause-listed g c = λ files told d rows read found.
    returns-clause-value g c files told
    ∙ ap (λ (base : List (List ℕ)). rerank base c.args.query.now c.args.ids.now c.args.k) (sym (rows_are d (bytes_of files c.args.name.now) rows c.args.checked read found))
