use Rattle.std.proofs.Common.{refl, ◌≡◌, ◌∙◌, ℕ, List, length, map, Err, ap, arith}
use Rattle.std.specs.Prelude.{Some, filter, nat_lt}
use Rattle.adc_ports.proofs.StateLemmas.{reads_none}
use Rattle.flat_truth.specs.Flat.{rerank}
use Rattle.flat_truth.specs.Pairs.{key_of}
use Rattle.id_filter.specs.Allowed.{ids_in}
use Rattle.adc_inputs.proofs.CheckLemmas.{rows_cause}
use Rattle.adc_program.specs.Asking.{rows_in}
use Rattle.adc_program.proofs.NearestRows.{gives_sound}
use Rattle.adc_program.proofs.RerankTexts.{rerank-filter, ranked_is}
use Rattle.adc_program.proofs.reranks.rank.Goals as goal

pub returns-in_default : goal.returns-in_default
returns-in_default g c = record { reads = record { only = reads_none _; counts = tt; cause = (refl, refl); found = λ files told. tt } }

pub returns-in-Ok-rerank : goal.returns-in-Ok-rerank
returns-in-Ok-rerank g c = record {
  reads = record {
    only = c.in-Ok-rerank.ensures.reads;
    counts = c.in-Ok-rerank.ensures.counts;
    cause = tt;
    found = λ files told.
        let rows : List (List ℕ) = rows_in files c.args.base.now in
        let check = c.requires.base files told in
        let query : List ℕ = c.args.query.now in
        let found : List ℕ = ids_in c.args.found.now in
        let k : ℕ = length c.args.numbers.now in
        let pairs = c.pairs.result.now in
        let ids : c.deref.result.now ≡ filter (λ id. nat_lt id (length rows)) found = c.deref.ensures.value ∙ c.in-Ok.ensures.rows ∙ ap (λ (n : ℕ). filter (λ id. nat_lt id n) found) check.rows in
        let value : map key_of pairs ≡ rerank rows query found k =
        c.pairs.ensures ∙ c.in-Ok-rerank.ensures.listed files told (Some _) _ check.outcome check.finds ∙ ap (λ (l : List ℕ). rerank rows query l k) ids ∙ rerank-filter rows query found k in
        c.set_numbers.ensures ∙ ranked_is rows query found k pairs value (omega (arith, check.rows, c.args.base.now.few));
  };
}

pub returns : goal.returns
returns g c =
    let base = c.args.base.now in
    let error = c.in-Err.error in
    record {
      reads = rw c.of_rows.ensures (record {
        only = c.in-Err.ensures.reads;
        counts = tt;
        cause = rows_cause base.role error _ _ c.in-Err.ensures.reads (λ e. c.in-Err.ensures.failed (ap Err e)) (λ e. c.in-Err.ensures.memory (ap Err e));
        found = λ files told.
            let check = c.requires.base files told in
            gives_sound files base.role error (c.in-Err.ensures.listed files told (Some _) _ check.outcome check.finds);
      });
    }
