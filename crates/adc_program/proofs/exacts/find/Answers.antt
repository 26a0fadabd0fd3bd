use Rattle.std.proofs.Common.{◌≡◌, ◌∙◌, ℕ, ◌≤◌, List, [], length, map, slice_index_or, Err, ap, arith}
use Rattle.std.specs.Prelude.{Some}
use Rattle.adc_ports.proofs.StateLemmas.{reads_on}
use Rattle.book_model.specs.Order.{Pair}
use Rattle.book_model.specs.Sums.{numbers_below}
use Rattle.flat_truth.specs.Flat.{exact, padded}
use Rattle.flat_truth.specs.Pairs.{key_of}
use Rattle.adc_inputs.specs.Causes.{stop_of_rows}
use Rattle.adc_inputs.proofs.CheckLemmas.{rows_cause}
use Rattle.adc_inputs.proofs.Reading.{stops_since}
use Rattle.adc_program.specs.Asking.{rows_in}
use Rattle.adc_program.specs.Nearest.{row_numbers, number_of}
use Rattle.adc_program.proofs.NearestRows.{nearest_is, gives_sound}
use Rattle.adc_program.proofs.exacts.find.Goals as goal

pub returns-in-Err : goal.returns-in-Err
returns-in-Err g c = record {
  reads = record { only = c.in-Err.ensures.reads.only; counts = tt; cause = c.in-Err.ensures.reads.cause; found = λ files told. c.in-Err.ensures.reads.found files told };
}

pub returns-in-Ok-exact : goal.returns-in-Ok-exact
returns-in-Ok-exact g c =
    let asked = c.args.asked.now in
    record {
      reads = record {
        only = reads_on _ _ _ c.in-Ok.ensures.reads.only c.in-Ok-exact.ensures.reads;
        counts = c.in-Ok-exact.ensures.counts ∙ c.in-Ok.ensures.reads.counts;
        cause = tt;
        found = λ files told.
            let base : List (List ℕ) = rows_in files asked.base in
            let queries : List (List ℕ) = rows_in files asked.queries in
            let check = c.requires.base files told in
            let query : List ℕ = c.fetch_row.new.row in
            let pairs = c.pairs.result.now in
            let value : map key_of pairs ≡ exact base query asked.k = c.pairs.ensures ∙ c.in-Ok-exact.ensures.listed files (c.in-Ok.ensures.reads.only.files ∙ told) (Some _) _ check.outcome check.finds in
            let few : length base ≤ 4194304 = omega (arith, check.rows, asked.base.few) in
            let read : query ≡ slice_index_or queries c.args.number [] = c.in-Ok.ensures.reads.found files told ∙ ap (λ (n : ℕ). slice_index_or queries n []) c.from.ensures in
            c.set_numbers.ensures
            ∙ ap (λ (m : ℕ). map (number_of (row_numbers pairs)) (numbers_below m)) c.requires.numbers
            ∙ nearest_is base query asked.k pairs value few
            ∙ ap (λ (q : List ℕ). padded asked.k (map (λ (pair : Pair). pair.1) (exact base q asked.k))) read;
      };
    }

pub returns-in-Err-exact : goal.returns-in-Err-exact
returns-in-Err-exact g c =
    let asked = c.args.asked.now in
    let error = c.in-Err-exact.error in
    record {
      reads = rw c.of_rows.ensures (record {
        only = reads_on _ _ _ c.in-Ok.ensures.reads.only c.in-Err-exact.ensures.reads;
        counts = tt;
        cause = stops_since (stop_of_rows asked.base.role error) _ _ _ c.in-Ok.ensures.reads.only c.in-Ok.ensures.reads.counts
            (rows_cause asked.base.role error _ _ c.in-Err-exact.ensures.reads (λ e. c.in-Err-exact.ensures.failed (ap Err e)) (λ e. c.in-Err-exact.ensures.memory (ap Err e)));
        found = λ files told.
            let check = c.requires.base files told in
            gives_sound files asked.base.role error (c.in-Err-exact.ensures.listed files (c.in-Ok.ensures.reads.only.files ∙ told) (Some _) _ check.outcome check.finds);
      });
    }
