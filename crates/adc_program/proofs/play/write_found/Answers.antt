use Rattle.std.proofs.Common.{rules, ℕ, List, [], ◌∷◌, ◌++◌, Err, map, subst}
use Rattle.std.specs.Io.KnownBytes.{Appends}
use Rattle.best_k.specs.Least.{key_of}
use Rattle.play_script.specs.Texts.{query_done}
use Rattle.play_script.specs.Play.{hits}
use Rattle.adc_program.specs.Ends.{Writes}
use Rattle.adc_program.proofs.Writing.{writes_before, writes_after, handed_on}
use Rattle.adc_program.proofs.play.write_found.Goals as goal

pub returns-in_err-write_line : goal.returns-in_err-write_line
returns-in_err-write_line g c =
    let old = (g.K.Sink.state c.args.out.now).written in
    let new = (g.K.Sink.state c.write_line.new.out).written in
    let report = c.args.report in
    let line = query_done c.args.number report.cells report.live report.full in
    let found = hits (map key_of c.args.hits.now) in
    record {
      puts = record {
        only = search rules;
        unwritten = search rules;
        counts = search rules;
        written = handed_on (λ r. Writes r old new (line ∷ found)) c.from_residual.result c.in_err-write_line.field-0.0 c.from_residual.ensures.1
            (writes_before c.in_err-write_line.field-0.0 _ _ (line ∷ []) found
            (subst (λ (l : List ℕ). Writes {X = Unit {0}} (Err c.in_err-write_line.field-0.0) old new (l ∷ [])) c.query_done.ensures c.in_err-write_line.ensures.puts.written));
      };
    }

pub returns : goal.returns
returns g c =
    let old = (g.K.Sink.state c.args.out.now).written in
    let mid = (g.K.Sink.state c.write_line.new.out).written in
    let report = c.args.report in
    let line = query_done c.args.number report.cells report.live report.full in
    record {
      puts = record {
        only = search rules;
        unwritten = search rules;
        counts = search rules;
        written = writes_after c.write_hits.result old mid _ (line ∷ []) (hits (map key_of c.args.hits.now))
            (subst (λ (l : List ℕ). Appends old mid (l ++ [])) c.query_done.ensures c.in_ok-write_line.ensures.puts.written)
            c.write_hits.ensures.puts.written;
      };
    }
