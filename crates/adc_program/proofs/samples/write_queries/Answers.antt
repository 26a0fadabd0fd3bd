use Rattle.std.proofs.Common.{◌≡◌, ◌∙◌, ℕ, ◌+◌, List, ◌++◌, Ok, Err, map, flat_map, sym, ap, subst, arith}
use Rattle.book_model.specs.Sums.{numbers_below}
use Rattle.play_script.specs.Play.{Counts}
use Rattle.query_engine.specs.State.{rows_of}
use Rattle.adc_program.specs.Samples.{asked_lines, asked_counts}
use Rattle.adc_program.specs.Steps.{Puts}
use Rattle.adc_program.specs.Work.{Works}
use Rattle.adc_program.proofs.Numbers.{joined_more, joined_rest, joined_split, mapped_more}
use Rattle.adc_program.proofs.Putting.{puts_none, puts_after, puts_cut, puts_as}
use Rattle.adc_program.proofs.Working.{works_none, works_on, little_start, little_more, far_after}
use Rattle.adc_program.proofs.samples.write_queries.Goals as goal

pub loop-number-init : goal.loop-number-init
loop-number-init g c = record {
  within = omega arith;
  room = c.requires.room;
  best = c.requires.best;
  puts = puts_none _;
  little = little_start c.args.engine.now.store c.args.meters.now;
  works = works_none c.args.meters.now;
}

pub write_query-requires : goal.write_query-requires
write_query-requires g c =
    let i = c.loop-number.invariant in
    let store = c.args.engine.now.store in
    record {
      sample = c.requires.sample;
      number = omega arith;
      d = c.requires.d;
      room = i.room;
      best = i.best;
      far = far_after c.loop-number.number store store c.args.meters.now c.loop-number.meters (omega arith) c.requires.stamp c.requires.meters i.little;
    }

pub loop-number-preserved : goal.loop-number-preserved
loop-number-preserved g c =
    let i = c.loop-number.invariant in
    let engine = c.args.engine.now in
    let n = c.loop-number.number in
    record {
      within = omega arith;
      room = c.write_query.ensures.room;
      best = c.write_query.ensures.best;
      puts = puts_as (Ok tt) (joined_more (asked_lines engine.book c.args.sample.now (rows_of engine)) n) (puts_after (Ok tt) i.puts c.in-Ok.ensures.puts);
      little = little_more n engine.store engine.store engine.store c.args.meters.now c.loop-number.meters c.write_query.new.meters i.little c.write_query.ensures.little;
      works = subst (λ (queries : List Counts). Works queries c.args.meters.now c.write_query.new.meters) (sym (mapped_more (asked_counts engine.book c.args.sample.now (rows_of engine)) n))
          (works_on _ _ c.args.meters.now c.loop-number.meters c.write_query.new.meters i.works c.write_query.ensures.works);
    }

pub returns-in-Err-clause-puts : goal.returns-in-Err-clause-puts
returns-in-Err-clause-puts g c =
    let i = c.loop-number.invariant in
    let engine = c.args.engine.now in
    let n = c.loop-number.number in
    let f = asked_lines engine.book c.args.sample.now (rows_of engine) in
    let h = c.in-Err.halted in
    puts_as (Err h) (joined_split f (n + 1) 16 (omega arith) ∙ ap (λ (l : List (List ℕ)). l ++ joined_rest f (n + 1) 16) (joined_more f n))
    (puts_cut h (joined_rest f (n + 1) 16) (puts_after (Err h) i.puts c.in-Err.ensures.puts))

pub returns-clause-puts : goal.returns-clause-puts
returns-clause-puts g c =
    let i = c.loop-number.invariant in
    let engine = c.args.engine.now in
    let all : c.loop-number.number ≡ 16 = omega (arith, i.within) in
    subst (λ (k : ℕ). Puts (Ok tt) (flat_map (asked_lines engine.book c.args.sample.now (rows_of engine)) (numbers_below k)) (g.K.Sink.state c.args.out.now) (g.K.Sink.state c.loop-number.out)) all i.puts

pub returns-clause-works : goal.returns-clause-works
returns-clause-works g c =
    let i = c.loop-number.invariant in
    let engine = c.args.engine.now in
    let all : c.loop-number.number ≡ 16 = omega (arith, i.within) in
    subst (λ (k : ℕ). Works (map (asked_counts engine.book c.args.sample.now (rows_of engine)) (numbers_below k)) c.args.meters.now c.loop-number.meters) all i.works
