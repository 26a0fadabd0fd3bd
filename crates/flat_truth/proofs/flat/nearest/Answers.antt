use Rattle.std.proofs.Common.{refl, ◌∙◌, ◌+◌, ◌≤◌, List, length, map, take, ap, sym, subst, arith, inl, inr}
use Rattle.std.specs.List.{enumerate_from}
use Rattle.std.specs.Option.{ForSome}
use Rattle.std.proofs.lemmas.Bool.{cases_lt}
use Rattle.std.proofs.lemmas.Option.{none-some}
use Rattle.std.proofs.lemmas.Result.{err_from_is_err_and}
use Rattle.adc_ports.specs.Files.{bytes_of}
use Rattle.adc_ports.proofs.StateLemmas.{reads_none, reads_on}
use Rattle.book_model.specs.Order.{Pair, sorted, pair_cmp}
use Rattle.vec_files.specs.Standing.{rows_standing, FirstMissing}
use Rattle.flat_truth.specs.declared.TruePair.{TruePair}
use Rattle.flat_truth.specs.Flat.{flat_pairs}
use Rattle.flat_truth.specs.Pairs.{key_of, near, IsReach}
use Rattle.flat_truth.proofs.FlatLemmas.{least_next}
use Rattle.flat_truth.proofs.Kept.{reaches_on}
use Rattle.flat_truth.proofs.Refusals.{refuses_along, missing_among}
use Rattle.flat_truth.proofs.flat.nearest.Goals as goal

pub loop-first-init : goal.loop-first-init
unfolding rows_standing
loop-first-init g c = record {
  few = omega arith;
  reads = reads_none _;
  counts = refl;
  there = λ files told i lt. absurd (omega arith);
  reach = λ most is. absurd (none-some most is);
  least = λ files told. ap (λ (pairs : List TruePair). take c.args.k (sorted pair_cmp (map key_of pairs))) c.new-pairs.ensures.items;
}

pub returns-in_err-read_rows-clause-not_there : goal.returns-in_err-read_rows-clause-not_there
returns-in_err-read_rows-clause-not_there g c = λ files told.
    let p = err_from_is_err_and c.from_residual.result c.from_residual.ensures.1 in
    let i = c.loop-first.invariant in
    let bytes = bytes_of files c.args.name.now in
    let d = c.args.checked.d in
    let first = c.loop-first.first in
    let past = first + c.min-count.result in
    let le : past ≤ c.args.checked.rows = omega arith in
    rw (p.1, p.2) (refuses_along (FirstMissing bytes d first past) (FirstMissing bytes d 0 c.args.checked.rows) c.in_err-read_rows.field-0.0
    (missing_among bytes d first past c.args.checked.rows le (i.there files told)) (c.in_err-read_rows.ensures.not_there files (i.reads.files ∙ told)))

pub loop-first-preserved : goal.loop-first-preserved
loop-first-preserved g c =
    let i = c.loop-first.invariant in
    let first = c.loop-first.first in
    record {
      few = omega arith;
      reads = reads_on _ _ _ i.reads c.in_ok-read_rows.ensures.reads;
      counts = c.in_ok-read_rows.ensures.counts ∙ i.counts;
      there = λ files told row lt. elim (cases_lt row first) [
        | inl low ↦ i.there files told row low
        | inr high ↦ c.in_ok-read_rows.ensures.there files (i.reads.files ∙ told) row high lt
      ];
      reach = c.in_ok-most.ensures.most;
      least = λ files told.
          c.in_ok-most.ensures.same ∙ least_next c.args.k c.args.checked.d first c.min-count.result c.args.query.now (bytes_of files c.args.name.now) c.read_rows.new.into
          (map key_of c.loop-first.pairs.items) (map key_of c.add_pairs.new.pairs.items) c.loop-first.most (c.requires.query (omega arith))
          (c.in_ok-read_rows.ensures.bytes files (i.reads.files ∙ told)) i.reach (i.least files told) c.in_ok-add_pairs.ensures.added;
    }

pub returns-clause-there : goal.returns-clause-there
returns-clause-there g c = λ files told i lt. c.loop-first.invariant.there files told i (omega arith)

pub keep_few-requires : goal.keep_few-requires
keep_few-requires g c = record {
  most =
      subst (λ (pairs : List Pair). ForSome c.loop-first.most (IsReach c.args.k pairs)) (sym c.in_ok-add_pairs.ensures.added)
      (reaches_on c.args.k (map key_of c.loop-first.pairs.items) (near c.loop-first.most (flat_pairs c.args.query.now (enumerate_from c.loop-first.first
      (rows_standing (length c.args.query.now) c.min-count.result c.read_rows.new.into)))) c.loop-first.most c.loop-first.invariant.reach);
}
