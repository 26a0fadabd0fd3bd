use Rattle.std.proofs.Common.{◌∙◌, ◌+◌, ◌≤◌, List, length, Ok, Err, arith, sym, ap, ap₂, refl, subst, take, drop}
use Rattle.std.proofs.lemmas.Option.{slice_get_within}
use Rattle.std.proofs.lemmas.List.{take_all}
use Rattle.adc_ports.specs.Files.{Files}
use Rattle.adc_ports.proofs.StateLemmas.{reads_none}
use Rattle.play_script.specs.declared.SessionCommand.{SessionCommand}
use Rattle.play_script.specs.Play.{Stage}
use Rattle.play_script.specs.Sessions.{Standing, session_replies, no_changes}
use Rattle.adc_program.specs.Stages.{stage_of}
use Rattle.adc_program.specs.SessionStates.{StandsAs, IsNext}
use Rattle.adc_program.proofs.SessionScripts.{next_lines, all_lines}
use Rattle.adc_program.proofs.SessionLoop.{next_step}
use Rattle.adc_program.proofs.SessionStands.{spends_none}
use Rattle.adc_program.proofs.Working.{little_start, little_more, far_after}
use Rattle.adc_program.proofs.Playing.{plays_none, plays_as, plays_after, plays_cut}
use Rattle.adc_program.proofs.Faults.{well_none}
use Rattle.adc_program.proofs.session_player.SessionPlayer.answer_all.Goals as goal

pub loop-n-init : goal.loop-n-init
loop-n-init g c = record {
  plays = plays_none _ _;
  next = λ files told. record { stands = c.requires.stands files told; spends = spends_none c.args.meters.now };
  book = refl;
  inputs = refl;
  are = c.requires.open;
  within = omega arith;
  little = little_start c.args.self.now.engine.engine.store c.args.meters.now;
}

pub answer-requires : goal.answer-requires
answer-requires g c = record {
  «open» = c.loop-n.invariant.are;
  check = λ files told.
      let i = c.loop-n.invariant in
      rw (i.book, i.inputs) (c.requires.check files (sym i.plays.reads.files ∙ told));
  far = far_after c.loop-n.n c.args.self.now.engine.engine.store c.loop-n.self.engine.engine.store c.args.meters.now c.loop-n.meters (omega arith) c.requires.stamp c.requires.meters c.loop-n.invariant.little;
}

pub loop-n-preserved : goal.loop-n-preserved
loop-n-preserved g c =
    let i = c.loop-n.invariant in
    let self = c.args.self.now in
    let script = c.args.script.now in
    let standing : Files → Standing = λ files. (session_replies (stage_of files self.inputs self.engine.engine.book) no_changes (take c.loop-n.n script)).after in
    record {
      plays = plays_as (Ok tt) (well_none _) (plays_after (Ok tt) i.plays (c.in-Ok.ensures.plays standing (λ files told.
          subst (λ (s : Stage). StandsAs s (standing files) c.loop-n.self.engine.engine.store c.loop-n.self.held.items) (sym (ap₂ (stage_of files) i.inputs i.book)) (i.next files (sym i.plays.reads.files ∙ told)).stands)))
          (λ files told.
          ap Ok (next_lines (stage_of files self.inputs self.engine.engine.book) (stage_of files c.loop-n.self.inputs c.loop-n.self.engine.engine.book) no_changes script c.loop-n.n c.command.result.now c.command.ensures (ap₂ (stage_of files) i.inputs i.book)));
      next = λ files told.
          next_step (stage_of files self.inputs self.engine.engine.book) (stage_of files c.loop-n.self.inputs c.loop-n.self.engine.engine.book) no_changes script c.loop-n.n c.command.result.now c.command.ensures (ap₂ (stage_of files) i.inputs i.book)
          c.loop-n.self.engine.engine.store c.answer.new.self.engine.engine.store c.loop-n.self.held.items c.answer.new.self.held.items c.args.meters.now c.loop-n.meters c.answer.new.meters (i.next files told)
          (c.in-Ok.ensures.next (standing files) files (i.plays.reads.files ∙ told)
          (subst (λ (s : Stage). StandsAs s (standing files) c.loop-n.self.engine.engine.store c.loop-n.self.held.items) (sym (ap₂ (stage_of files) i.inputs i.book)) (i.next files told).stands));
      book = c.answer.ensures.book ∙ i.book;
      inputs = c.answer.ensures.inputs ∙ i.inputs;
      are = c.in-Ok.ensures.open;
      within = omega (arith, slice_get_within script c.loop-n.n c.command.result.now c.command.ensures);
      little = little_more c.loop-n.n self.engine.engine.store c.loop-n.self.engine.engine.store c.answer.new.self.engine.engine.store c.args.meters.now c.loop-n.meters c.answer.new.meters i.little c.answer.ensures.little;
    }

pub returns-in-Err-clause-plays : goal.returns-in-Err-clause-plays
returns-in-Err-clause-plays g c =
    let i = c.loop-n.invariant in
    let self = c.args.self.now in
    let script = c.args.script.now in
    let halted = c.in-Err.halted in
    let standing : Files → Standing = λ files. (session_replies (stage_of files self.inputs self.engine.engine.book) no_changes (take c.loop-n.n script)).after in
    plays_as (Err halted) (well_none _) (plays_cut halted (λ files.
    let stage = stage_of files self.inputs self.engine.engine.book in
    (session_replies stage (session_replies stage no_changes (take (c.loop-n.n + 1) script)).after (drop (c.loop-n.n + 1) script)).lines)
    (plays_after (Err halted) i.plays (c.in-Err.ensures.plays standing (λ files told.
    subst (λ (s : Stage). StandsAs s (standing files) c.loop-n.self.engine.engine.store c.loop-n.self.held.items) (sym (ap₂ (stage_of files) i.inputs i.book)) (i.next files (sym i.plays.reads.files ∙ told)).stands)))) (λ files told.
    ap Ok (all_lines (stage_of files self.inputs self.engine.engine.book) (stage_of files c.loop-n.self.inputs c.loop-n.self.engine.engine.book) no_changes script c.loop-n.n c.command.result.now c.command.ensures (ap₂ (stage_of files) i.inputs i.book)))

pub returns-clause-next : goal.returns-clause-next
returns-clause-next g c = λ files told.
    let self = c.args.self.now in
    let stage = stage_of files self.inputs self.engine.engine.book in
    let script : List SessionCommand = c.args.script.now in
    let past : length script ≤ c.loop-n.n = subst (λ n. n ≤ c.loop-n.n) c.len-n-end.ensures c.loop-n-test.false in
    subst (λ (commands : List SessionCommand). IsNext stage no_changes (session_replies stage no_changes commands) c.loop-n.self.engine.engine.store c.loop-n.self.held.items c.args.meters.now c.loop-n.meters)
    (take_all c.loop-n.n script past) (c.loop-n.invariant.next files told)
