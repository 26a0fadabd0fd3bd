use Rattle.std.proofs.Common.{◌≡◌, ◌≤◌, length, take, Ok}
use Rattle.std.specs.Option.{ForSome}
use Rattle.play_script.specs.Sessions.{session_replies, no_changes}
use Rattle.adc_program.specs.Stages.{stage_of}
use Rattle.adc_program.specs.Steps.{Plays}
use Rattle.adc_program.specs.Work.{RiseLittle}
use Rattle.adc_program.specs.SessionStates.{AreOpen, IsNext}
use Rattle.adc_program.proofs.session_player.SessionPlayer.answer_all.Given as goal

-- the replies to the commands so far, what they left, and their work
abbrev pub invariant-loop-n : goal.invariant-loop-n
invariant-loop-n g l = record {
  book : l.self.engine.engine.book ≡ l.initial.self.engine.engine.book;
  inputs : l.self.inputs ≡ l.initial.self.inputs;
  within : l.n ≤ length l.fn.script;
  are : AreOpen g.S.Shape.widths l.self.engine.engine l.self.held.items;
  plays : Plays (Ok tt) (λ files. Ok (session_replies (stage_of files l.initial.self.inputs l.initial.self.engine.engine.book) no_changes (take l.n l.fn.script)).lines)
      (g.H.Shelf.state l.initial.shelf) (g.H.Shelf.state l.shelf) (g.K.Sink.state l.initial.out) (g.K.Sink.state l.out);
  next : ForSome (g.H.Shelf.state l.initial.shelf).files (λ files. IsNext (stage_of files l.initial.self.inputs l.initial.self.engine.engine.book) no_changes
      (session_replies (stage_of files l.initial.self.inputs l.initial.self.engine.engine.book) no_changes (take l.n l.fn.script)) l.self.engine.engine.store l.self.held.items l.initial.meters l.meters);
  little : RiseLittle l.n l.initial.self.engine.engine.store l.self.engine.engine.store l.initial.meters l.meters;
}
