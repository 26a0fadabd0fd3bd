use Rattle.std.proofs.Common.{◌≡◌, ◌∙◌, ℕ, refl, sym, ap, subst, arith}
use Rattle.book_model.specs.Book.{Book}
use Rattle.play_script.specs.Stream.{Drawn, sample_row}
use Rattle.query_engine.specs.State.{rows_of}
use Rattle.adc_program.specs.Rows.{numbered_rows}
use Rattle.adc_program.proofs.Inserting.{numbered_none, numbered_more}
use Rattle.adc_program.proofs.samples.insert_rows.Goals as goal

pub loop-n-init : goal.loop-n-init
loop-n-init g c = record {
  book = refl;
  within = omega arith;
  plain = c.requires.plain;
  stamp = omega (arith, c.requires.stamp);
  rows = c.requires.empty ∙ sym (numbered_none c.args.engine.now.book (sample_row c.args.sample.now));
}

pub add-requires : goal.add-requires
add-requires g c =
    let i = c.loop-n.invariant in
    record {
      id = omega (arith, c.args.job.few);
      vector = c.row.ensures.len ∙ sym (ap (λ (b : Book). b.d) i.book ∙ c.requires.d);
      plain = i.plain;
      stamp = omega (arith, i.stamp, i.within, c.args.job.few);
    }

pub loop-n-preserved : goal.loop-n-preserved
loop-n-preserved g c =
    let i = c.loop-n.invariant in
    record {
      book = c.add.ensures.book ∙ i.book;
      within = omega arith;
      plain = c.add.ensures.plain;
      stamp = omega (arith, c.add.ensures.stamp, i.stamp);
      rows = numbered_more c.args.engine.now.book c.loop-n.engine.book (sample_row c.args.sample.now) c.loop-n.n c.row.result.now (rows_of c.loop-n.engine) (rows_of c.add.new.engine) i.rows i.book c.row.ensures.bytes c.in-Ok.ensures.rows;
    }

pub returns-in-Err-clause-book : goal.returns-in-Err-clause-book
returns-in-Err-clause-book g c = c.add.ensures.book ∙ c.loop-n.invariant.book

pub returns-in-Err-clause-stamp : goal.returns-in-Err-clause-stamp
returns-in-Err-clause-stamp g c = omega (arith, c.add.ensures.stamp, c.loop-n.invariant.stamp, c.loop-n.invariant.within, c.args.job.few)

pub returns-clause-stamp : goal.returns-clause-stamp
returns-clause-stamp g c = omega (arith, c.loop-n.invariant.stamp, c.loop-n.invariant.within, c.args.job.few)

pub returns-clause-rows : goal.returns-clause-rows
returns-clause-rows g c =
    let all : c.loop-n.n ≡ c.args.job.rows = omega (arith, c.loop-n.invariant.within) in
    subst (λ (k : ℕ). rows_of c.loop-n.engine ≡ numbered_rows c.args.engine.now.book (sample_row c.args.sample.now) k) (all ∙ sym (ap (λ (s : Drawn). s.rows) c.requires.sample)) c.loop-n.invariant.rows
