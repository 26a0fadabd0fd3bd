use Rattle.std.proofs.Common.{◌∙◌, ◌+◌, List, Ok, Err, arith, sym, ap, ap₂, refl, subst, take, drop}
use Rattle.std.proofs.lemmas.Option.{slice_get_within}
use Rattle.std.proofs.lemmas.List.{take_all}
use Rattle.adc_ports.proofs.StateLemmas.{reads_none}
use Rattle.play_script.specs.declared.Command.{Command}
use Rattle.play_script.specs.Play.{Asking, replies}
use Rattle.adc_program.specs.Played.{rows_of, HaveAsked}
use Rattle.adc_program.specs.Stages.{stage_of}
use Rattle.adc_program.proofs.Asking.{asked_none, asked_on, asked_at, rises_start, rises_more, far_from_end}
use Rattle.adc_program.proofs.Scripts.{next_lines, next_rows, next_queries, all_lines}
use Rattle.adc_program.proofs.Playing.{plays_none, plays_as, plays_after, plays_cut}
use Rattle.adc_program.proofs.Faults.{well_none}
use Rattle.adc_program.proofs.player.Player.answer_all.Goals as goal

pub loop-n-init : goal.loop-n-init
loop-n-init g c = record {
  plain = c.requires.plain;
  plays = plays_none _ _;
  rows = λ files told. refl;
  book = refl;
  cache = refl;
  inputs = refl;
  within = omega arith;
  little = rises_start (g.E.Played.stand c.args.self.now.engine) (g.E.Played.metered c.args.meters.now);
  works = λ files told. asked_none g.E.Played.means g.E.Played.computes (g.E.Played.stand c.args.self.now.engine) (g.E.Played.metered c.args.meters.now);
}

pub answer_plain-requires : goal.answer_plain-requires
answer_plain-requires g c = record {
  plain = c.loop-n.invariant.plain;
  check = λ files told.
      let i = c.loop-n.invariant in
      rw (i.book, i.inputs) (c.requires.check files (sym i.plays.reads.files ∙ told));
  far = far_from_end c.loop-n.n (g.E.Played.stand c.args.self.now.engine) (g.E.Played.stand c.loop-n.self.engine) (g.E.Played.metered c.args.meters.now) (g.E.Played.metered c.loop-n.meters) (omega arith) c.requires.stamp c.requires.meters
      c.loop-n.invariant.little;
}

pub loop-n-preserved : goal.loop-n-preserved
loop-n-preserved g c =
    let means = g.E.Played.means in
    let i = c.loop-n.invariant in
    let self = c.args.self.now in
    let first = g.E.Played.stand self.engine in
    let now = g.E.Played.stand c.loop-n.self.engine in
    let next = g.E.Played.stand c.answer_plain.new.self.engine in
    record {
      plain = c.answer_plain.ensures.plain;
      plays = plays_as (Ok tt) (well_none _) (plays_after (Ok tt) i.plays c.in-Ok.ensures.plays) (λ files told.
          ap Ok (next_lines means (stage_of files self.inputs first.book) (stage_of files c.loop-n.self.inputs now.book) (rows_of first) (rows_of now) c.args.script.now c.loop-n.n c.command.result.now
          c.command.ensures (ap₂ (stage_of files) i.inputs i.book) (i.rows files told)));
      rows = λ files told. c.in-Ok.ensures.rows files (i.plays.reads.files ∙ told)
          ∙ next_rows means (stage_of files self.inputs first.book) (stage_of files c.loop-n.self.inputs now.book) (rows_of first) (rows_of now) c.args.script.now c.loop-n.n c.command.result.now
          c.command.ensures (ap₂ (stage_of files) i.inputs i.book) (i.rows files told);
      book = c.answer_plain.ensures.book ∙ i.book;
      cache = c.answer_plain.ensures.cache ∙ i.cache;
      inputs = c.answer_plain.ensures.inputs ∙ i.inputs;
      within = omega (arith, slice_get_within c.args.script.now c.loop-n.n c.command.result.now c.command.ensures);
      little = rises_more c.loop-n.n first now next (g.E.Played.metered c.args.meters.now) (g.E.Played.metered c.loop-n.meters) (g.E.Played.metered c.answer_plain.new.meters) i.little c.answer_plain.ensures.little;
      works = λ files told.
          subst (λ (queries : List Asking). HaveAsked means g.E.Played.computes first queries (g.E.Played.metered c.args.meters.now) (g.E.Played.metered c.answer_plain.new.meters))
          (next_queries means (stage_of files self.inputs first.book) (stage_of files c.loop-n.self.inputs now.book) (rows_of first) (rows_of now) c.args.script.now c.loop-n.n c.command.result.now
          c.command.ensures (ap₂ (stage_of files) i.inputs i.book) (i.rows files told))
          (asked_on means g.E.Played.computes first _ _ (g.E.Played.metered c.args.meters.now) (g.E.Played.metered c.loop-n.meters) (g.E.Played.metered c.answer_plain.new.meters) (i.works files told)
          (asked_at means g.E.Played.computes now first _ _ _ i.book i.cache (c.in-Ok.ensures.works files (i.plays.reads.files ∙ told))));
    }

pub returns-in-Err-clause-plays : goal.returns-in-Err-clause-plays
returns-in-Err-clause-plays g c =
    let means = g.E.Played.means in
    let i = c.loop-n.invariant in
    let self = c.args.self.now in
    let first = g.E.Played.stand self.engine in
    let now = g.E.Played.stand c.loop-n.self.engine in
    let halted = c.in-Err.halted in
    plays_as (Err halted) (well_none _) (plays_cut halted (λ files.
    let stage = stage_of files self.inputs first.book in
    (replies means stage (replies means stage (rows_of first) (take (c.loop-n.n + 1) c.args.script.now)).rows (drop (c.loop-n.n + 1) c.args.script.now)).lines)
    (plays_after (Err halted) i.plays c.in-Err.ensures.plays)) (λ files told.
    ap Ok (all_lines means (stage_of files self.inputs first.book) (stage_of files c.loop-n.self.inputs now.book) (rows_of first) (rows_of now) c.args.script.now c.loop-n.n c.command.result.now
    c.command.ensures (ap₂ (stage_of files) i.inputs i.book) (i.rows files told)))

pub returns-clause-plays : goal.returns-clause-plays
returns-clause-plays g c =
    let i = c.loop-n.invariant in
    let self = c.args.self.now in
    let first = g.E.Played.stand self.engine in
    plays_as (Ok tt) (well_none _) i.plays (λ files told.
    ap (λ (commands : List Command). Ok (replies g.E.Played.means (stage_of files self.inputs first.book) (rows_of first) commands).lines) (sym (take_all c.loop-n.n c.args.script.now (omega arith))))

pub returns-clause-works : goal.returns-clause-works
returns-clause-works g c = λ files told.
    let self = c.args.self.now in
    let first = g.E.Played.stand self.engine in
    subst (λ (commands : List Command). HaveAsked g.E.Played.means g.E.Played.computes first (replies g.E.Played.means (stage_of files self.inputs first.book) (rows_of first) commands).queries (g.E.Played.metered c.args.meters.now)
    (g.E.Played.metered c.loop-n.meters)) (take_all c.loop-n.n c.args.script.now (omega arith)) (c.loop-n.invariant.works files told)
