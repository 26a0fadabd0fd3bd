use Rattle.std.proofs.Common.{rules, ◌≡◌, ◌∙◌, ℕ, [], slice_index_or, refl, sym, ap, subst, arith}
use Rattle.std.proofs.lemmas.Grind.{common_steps}
use Rattle.query_engine.specs.State.{rows_of}
use Rattle.adc_inputs.specs.Inputs.{rows_held}
use Rattle.adc_inputs.proofs.Reading.{reads_stop}
use Rattle.adc_program.specs.Builds.{base_vector}
use Rattle.adc_program.specs.Rows.{numbered_rows}
use Rattle.adc_program.specs.Steps.{ReadsWell}
use Rattle.adc_program.proofs.Faults.{well_none, well_on, well_of}
use Rattle.adc_program.proofs.Inserting.{numbered_none, numbered_more}
use Rattle.adc_program.proofs.builds.insert_base.Goals as goal

pub loop-number-init : goal.loop-number-init
loop-number-init g c = record {
  book = refl;
  within = omega arith;
  plain = c.requires.plain;
  stamp = omega (arith, c.requires.stamp);
  reads = well_none _;
  rows = λ files told. c.requires.empty ∙ sym (numbered_none c.args.engine.now.book _);
}

pub fetch_row-requires-clause-check : goal.fetch_row-requires-clause-check
fetch_row-requires-clause-check g c = λ files told. c.requires.check files (sym c.loop-number.invariant.reads.only.files ∙ told)

pub loop-number-preserved : goal.loop-number-preserved
loop-number-preserved g c =
    let i = c.loop-number.invariant in
    let base = c.args.base.now in
    let from : c.from.result ≡ c.loop-number.number = first_of (search rules, grind (arith, common_steps)) in
    record {
      book = c.add.ensures.book ∙ i.book;
      within = omega arith;
      plain = c.add.ensures.plain;
      stamp = omega (arith, c.add.ensures.stamp, i.stamp);
      reads = well_on _ _ _ i.reads (well_of c.in-Ok.ensures.reads);
      rows = λ files told.
          let held = rows_held files base.role base.name.now base.checked.d in
          numbered_more c.args.engine.now.book c.loop-number.engine.book (base_vector held) c.loop-number.number c.fetch_row.new.row (rows_of c.loop-number.engine) (rows_of c.add.new.engine)
          (i.rows files told) i.book (c.in-Ok.ensures.reads.found files (i.reads.only.files ∙ told) ∙ ap (λ (n : ℕ). slice_index_or held n []) from) c.in-Ok-add.ensures.rows;
    }

pub returns-in-Err-clause-book : goal.returns-in-Err-clause-book
returns-in-Err-clause-book g c = c.loop-number.invariant.book

pub returns-in-Err-add-clause-book : goal.returns-in-Err-add-clause-book
returns-in-Err-add-clause-book g c = c.add.ensures.book ∙ c.loop-number.invariant.book

pub returns-in-Err-clause-reads : goal.returns-in-Err-clause-reads
returns-in-Err-clause-reads g c = reads_stop c.in-Err.stop c.loop-number.invariant.reads.only c.loop-number.invariant.reads.same c.in-Err.ensures.reads (λ files error told e. e)

pub returns-in-Err-add-clause-reads : goal.returns-in-Err-add-clause-reads
returns-in-Err-add-clause-reads g c =
    let reads : ReadsWell _ _ = well_on _ _ _ c.loop-number.invariant.reads (well_of c.in-Ok.ensures.reads) in
    record { only = reads.only; counts = tt; cause = (reads.same, reads.only.writes); found = λ files told. tt }

pub returns-clause-reads : goal.returns-clause-reads
returns-clause-reads g c =
    let i = c.loop-number.invariant in
    let base = c.args.base.now in
    record {
      only = i.reads.only;
      counts = i.reads.same;
      cause = tt;
      found = λ files told.
          let held = rows_held files base.role base.name.now base.checked.d in
          let all : c.loop-number.number ≡ base.checked.rows = omega (arith, i.within) in
          subst (λ (k : ℕ). rows_of c.loop-number.engine ≡ numbered_rows c.args.engine.now.book (base_vector held) k) (all ∙ (c.requires.check files told).rows) (i.rows files told);
    }
