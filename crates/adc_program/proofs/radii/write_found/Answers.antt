use Rattle.std.proofs.Common.{rules, ◌≡◌, ◌∙◌, ℕ, List, [], ◌∷◌, Err, length, map, sym, ap, arith}
use Rattle.std.proofs.lemmas.Grind.{common_steps}
use Rattle.best_k.specs.Least.{key_of}
use Rattle.play_script.specs.Texts.{radius_query_done}
use Rattle.play_script.specs.Play.{hits}
use Rattle.adc_program.proofs.Putting.{puts_after, puts_cut, puts_as}
use Rattle.adc_program.proofs.radii.write_found.Goals as goal

pub returns-in-Ok : goal.returns-in-Ok
returns-in-Ok g c =
    let from : c.from.result ≡ c.args.number = first_of (search rules, grind (arith, common_steps)) in
    let is = c.radius_query_done-line.ensures in
    record {
      puts = puts_as c.write_hits.result (ap (λ (l : List ℕ). l ∷ hits (map key_of c.args.hits.now)) (sym (is ∙ ap (λ (n : ℕ). radius_query_done n c.args.report.cells c.args.report.live c.args.report.full (length c.args.hits.now)) from)))
          (puts_after {first = c.radius_query_done-line.result ∷ []} c.write_hits.result c.in-Ok.ensures.puts c.write_hits.ensures.puts);
    }

pub returns-in-Err : goal.returns-in-Err
returns-in-Err g c =
    let from : c.from.result ≡ c.args.number = first_of (search rules, grind (arith, common_steps)) in
    let is = c.radius_query_done-line.ensures in
    record {
      puts = puts_as (Err c.in-Err.halted) (ap (λ (l : List ℕ). l ∷ hits (map key_of c.args.hits.now)) (sym (is ∙ ap (λ (n : ℕ). radius_query_done n c.args.report.cells c.args.report.live c.args.report.full (length c.args.hits.now)) from)))
          (puts_cut {first = c.radius_query_done-line.result ∷ []} c.in-Err.halted (hits (map key_of c.args.hits.now)) c.in-Err.ensures.puts);
    }
