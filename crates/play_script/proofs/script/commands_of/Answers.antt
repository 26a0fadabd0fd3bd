use Rattle.std.proofs.Common.{◌≡◌, ◌+◌, List, [], sym, ◌∙◌, subst, Result, arith}
use Rattle.std.proofs.lemmas.List.{append-nil}
use Rattle.std.proofs.lemmas.Result.{err_from_is_err_and}
use Rattle.std.proofs.lemmas.Grind.{common_steps}
use Rattle.play_script.specs.Gives.{Fails, with_front}
use Rattle.play_script.specs.Grammar.{Fault, commands_from, lines_of, line_outcome}
use Rattle.play_script.proofs.Reading.{fault_stays}
use Rattle.play_script.proofs.script.commands_of.Goals as goal

pub returns-in_err-add-clause-exact : goal.returns-in_err-add-clause-exact
unfolding commands_from
returns-in_err-add-clause-exact g c =
    let p = err_from_is_err_and c.from_residual.result c.from_residual.ensures.1 in
    let rest = commands_from g.C.Spoken.said (c.loop-rest.n + 1) (lines_of c.first_line.result.1.now) in
    let outcome : with_front c.loop-rest.commands.items (line_outcome g.C.Spoken.said c.loop-rest.n c.first_line.result.0.now rest) ≡ commands_from g.C.Spoken.said 1 (lines_of c.args.bytes.now) = rw c.first_line.ensures.lines at c.loop-rest.invariant.outcome in
    rw (p.1, p.2) (subst (λ (r : Result (List g.row.C.Denot) Fault). Fails c.in_err-add.field-0.0 r) outcome (fault_stays c.in_err-add.field-0.0 c.loop-rest.commands.items _ (c.in_err-add.ensures.err rest)))

pub loop-rest-preserved : goal.loop-rest-preserved
unfolding commands_from
loop-rest-preserved g c =
    let rest = commands_from g.C.Spoken.said (c.loop-rest.n + 1) (lines_of c.first_line.result.1.now) in
    let outcome : with_front c.loop-rest.commands.items (line_outcome g.C.Spoken.said c.loop-rest.n c.first_line.result.0.now rest) ≡ commands_from g.C.Spoken.said 1 (lines_of c.args.bytes.now) = rw c.first_line.ensures.lines at c.loop-rest.invariant.outcome in
    record { outcome = sym (c.in_ok-add.ensures.ok rest) ∙ outcome; few = grind (arith, common_steps); counted = grind (arith, common_steps) }

pub returns-clause-exact : goal.returns-clause-exact
unfolding commands_from
returns-clause-exact g c =
    let over : c.loop-rest.rest.now ≡ [] = grind (arith, common_steps) in
    let outcome : with_front c.loop-rest.commands.items (commands_from g.C.Spoken.said c.loop-rest.n (lines_of [])) ≡ commands_from g.C.Spoken.said 1 (lines_of c.args.bytes.now) = rw over at c.loop-rest.invariant.outcome in
    rw append-nil at (sym outcome)
