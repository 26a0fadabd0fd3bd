use Rattle.std.proofs.Common.{rules, ◌∙◌, ℕ, List, map, sym, subst, arith}
use Rattle.std.specs.Io.KnownBytes.{Appends}
use Rattle.best_k.specs.Least.{key_of}
use Rattle.play_script.specs.Play.{hits}
use Rattle.adc_program.specs.Ends.{Writes, text_of}
use Rattle.adc_program.proofs.Hits.{length-hits, take-hits, get_or-hits}
use Rattle.adc_program.proofs.Writing.{halts_at, handed_on}
use Rattle.adc_program.proofs.play.write_hits.Goals as goal

pub returns-in_err-write_line : goal.returns-in_err-write_line
returns-in_err-write_line g c =
    let old = (g.K.Sink.state c.args.out.now).written in
    let mid = (g.K.Sink.state c.loop-pair.out).written in
    record {
      puts = record {
        only = search rules;
        unwritten = search rules;
        counts = search rules;
        written = handed_on (λ r. Writes r old (g.K.Sink.state c.write_line.new.out).written (hits (map key_of c.args.hits.now))) c.from_residual.result c.in_err-write_line.field-0.0 c.from_residual.ensures.1
            (halts_at c.in_err-write_line.field-0.0 _ mid _ c.hit.result (hits (map key_of c.args.hits.now)) c.loop-pair.pair-index (omega (arith, length-hits c.args.hits.now)) (c.hit.ensures ∙ sym (get_or-hits c.args.hits.now c.loop-pair.pair-index _ c.loop-pair-test.true))
            (subst (λ (l : List (List ℕ)). Appends old mid (text_of l)) (take-hits c.args.hits.now c.loop-pair.pair-index) c.loop-pair.invariant.written)
            c.in_err-write_line.ensures.puts.written);
      };
    }
