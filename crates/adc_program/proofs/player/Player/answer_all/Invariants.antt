use Rattle.std.proofs.Common.{◌≡◌, ◌≤◌, length, take, Ok}
use Rattle.std.specs.Option.{ForSome}
use Rattle.play_script.specs.Play.{replies}
use Rattle.adc_program.specs.Played.{rows_of, HaveAsked, RisesBy}
use Rattle.adc_program.specs.Stages.{stage_of}
use Rattle.adc_program.specs.Work.{IsPlain}
use Rattle.adc_program.specs.Steps.{Plays}
use Rattle.adc_program.proofs.player.Player.answer_all.Given as goal

-- the replies to the commands so far, the rows that they left, and the work of what they asked
abbrev pub invariant-loop-n : goal.invariant-loop-n
invariant-loop-n g l =
    let first = g.E.Played.stand l.initial.self.engine in
    let means = g.E.Played.means in
    record {
      plain : IsPlain (g.E.Played.stand l.self.engine).store;
      book : (g.E.Played.stand l.self.engine).book ≡ first.book;
      cache : (g.E.Played.stand l.self.engine).cache ≡ first.cache;
      inputs : l.self.inputs ≡ l.initial.self.inputs;
      within : l.n ≤ length l.fn.script;
      plays : Plays (Ok tt) (λ files. Ok (replies means (stage_of files l.initial.self.inputs first.book) (rows_of first) (take l.n l.fn.script)).lines)
          (g.H.Shelf.state l.initial.shelf) (g.H.Shelf.state l.shelf) (g.K.Sink.state l.initial.out) (g.K.Sink.state l.out);
      rows : ForSome (g.H.Shelf.state l.initial.shelf).files (λ files. rows_of (g.E.Played.stand l.self.engine) ≡ (replies means (stage_of files l.initial.self.inputs first.book) (rows_of first) (take l.n l.fn.script)).rows);
      little : RisesBy l.n first (g.E.Played.stand l.self.engine) (g.E.Played.metered l.initial.meters) (g.E.Played.metered l.meters);
      works : ForSome (g.H.Shelf.state l.initial.shelf).files (λ files. HaveAsked means g.E.Played.computes first (replies means (stage_of files l.initial.self.inputs first.book) (rows_of first) (take l.n l.fn.script)).queries
          (g.E.Played.metered l.initial.meters) (g.E.Played.metered l.meters));
    }
