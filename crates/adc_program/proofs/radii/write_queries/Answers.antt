use Rattle.std.proofs.Common.{◌≡◌, ◌∙◌, ℕ, ◌+◌, List, ◌++◌, Ok, Err, flat_map, sym, ap, subst, arith}
use Rattle.adc_ports.specs.Files.{Files}
use Rattle.adc_ports.proofs.StateLemmas.{reads_none}
use Rattle.book_model.specs.Sums.{numbers_below}
use Rattle.play_script.specs.Play.{Counts}
use Rattle.query_engine.specs.State.{rows_of}
use Rattle.adc_program.specs.Asking.{rows_in}
use Rattle.adc_program.specs.Radii.{lines_of_query, counts_of_query}
use Rattle.adc_program.specs.Steps.{Plays}
use Rattle.adc_program.specs.Work.{Works}
use Rattle.adc_program.proofs.Numbers.{joined_more, joined_rest, joined_split, mapped_more}
use Rattle.adc_program.proofs.Playing.{plays_none, plays_as, plays_after, plays_cut}
use Rattle.adc_program.proofs.WithinRadius.{counts_all}
use Rattle.adc_program.proofs.Working.{works_none, works_on, little_start, little_more, room_after}
use Rattle.adc_program.proofs.Faults.{well_none}
use Rattle.adc_program.proofs.radii.write_queries.Goals as goal

pub loop-number-init : goal.loop-number-init
loop-number-init g c = record {
  within = omega arith;
  room = c.requires.room;
  rows = c.requires.rows;
  plays = plays_none _ _;
  little = little_start c.args.asked.now.engine.store c.args.meters.now;
  works = λ files told. works_none c.args.meters.now;
}

pub write_query-requires : goal.write_query-requires
write_query-requires g c =
    let i = c.loop-number.invariant in
    let store = c.args.asked.now.engine.store in
    record {
      number = omega arith;
      row = omega (arith, c.requires.row);
      room = i.room;
      rows = i.rows;
      meters = room_after c.loop-number.number store store c.args.meters.now c.loop-number.meters (omega arith) c.requires.meters i.little;
      check = λ files told. c.requires.check files (sym i.plays.reads.files ∙ told);
    }

pub loop-number-preserved : goal.loop-number-preserved
loop-number-preserved g c =
    let i = c.loop-number.invariant in
    let asked = c.args.asked.now in
    let store = asked.engine.store in
    let n = c.loop-number.number in
    record {
      within = omega arith;
      room = c.write_query.ensures.room;
      rows = omega (arith, i.rows, c.write_query.ensures.rows);
      plays = plays_as (Ok tt) (well_none _) (plays_after (Ok tt) i.plays c.in-Ok.ensures.plays)
          (λ files told. ap Ok (joined_more (lines_of_query asked.engine.book (rows_of asked.engine) asked.radius asked.wanted (rows_in files asked.queries)) n));
      little = little_more n store store store c.args.meters.now c.loop-number.meters c.write_query.new.meters i.little c.write_query.ensures.little;
      works = λ files told.
          subst (λ (queries : List Counts). Works queries c.args.meters.now c.write_query.new.meters) (sym (mapped_more (counts_of_query asked.engine.book (rows_of asked.engine) asked.radius asked.wanted (rows_in files asked.queries)) n))
          (works_on _ _ c.args.meters.now c.loop-number.meters c.write_query.new.meters (i.works files told) (c.in-Ok.ensures.works files (i.plays.reads.files ∙ told)));
    }

pub returns-in-Err-clause-plays : goal.returns-in-Err-clause-plays
returns-in-Err-clause-plays g c =
    let i = c.loop-number.invariant in
    let asked = c.args.asked.now in
    let n = c.loop-number.number in
    let rows = asked.queries.checked.rows in
    let f : Files → ℕ → List (List ℕ) = λ files. lines_of_query asked.engine.book (rows_of asked.engine) asked.radius asked.wanted (rows_in files asked.queries) in
    let h = c.in-Err.halted in
    plays_as (Err h) (well_none _) (plays_cut h (λ files. joined_rest (f files) (n + 1) rows) (plays_after (Err h) i.plays c.in-Err.ensures.plays))
    (λ files told. ap Ok (joined_split (f files) (n + 1) rows (omega arith) ∙ ap (λ (l : List (List ℕ)). l ++ joined_rest (f files) (n + 1) rows) (joined_more (f files) n)))

pub returns-clause-plays : goal.returns-clause-plays
returns-clause-plays g c =
    let i = c.loop-number.invariant in
    let asked = c.args.asked.now in
    let all : c.loop-number.number ≡ asked.queries.checked.rows = omega (arith, i.within) in
    subst (λ (k : ℕ). Plays (Ok tt) (λ files. Ok (flat_map (lines_of_query asked.engine.book (rows_of asked.engine) asked.radius asked.wanted (rows_in files asked.queries)) (numbers_below k)))
    (g.H.Shelf.state c.args.shelf.now) (g.H.Shelf.state c.loop-number.shelf) (g.K.Sink.state c.args.out.now) (g.K.Sink.state c.loop-number.out)) all i.plays

pub returns-clause-works : goal.returns-clause-works
returns-clause-works g c = λ files told.
    let i = c.loop-number.invariant in
    let asked = c.args.asked.now in
    let all : c.loop-number.number ≡ asked.queries.checked.rows = omega (arith, i.within) in
    let check = c.requires.check files told in
    subst (λ (q : List Counts). Works q c.args.meters.now c.loop-number.meters) (counts_all asked.engine.book (rows_of asked.engine) asked.radius asked.wanted (rows_in files asked.queries) c.loop-number.number (all ∙ check.rows)) (i.works files told)
